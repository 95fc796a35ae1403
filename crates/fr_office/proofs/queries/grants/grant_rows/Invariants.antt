use Rattle.std.proofs.Common.{◌≡◌, ◌++◌}
use Rattle.fr_base.specs.Queries.{grants_of}
use Rattle.fr_office.proofs.GrantLaws.{held_shown}
use Rattle.fr_world.specs.Loads.{grants_in_lanes}
use Rattle.fr_office.proofs.queries.grants.grant_rows.Given as goal

-- the rows so far, and those of the grants that are left
abbrev pub invariant-loop-at : goal.invariant-loop-at
invariant-loop-at l = l.rows ++ held_shown l.at-iterator ≡ grants_of (grants_in_lanes l.held.entries)
