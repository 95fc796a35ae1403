use Rattle.std.proofs.Common.{◌≡◌}
use Rattle.fr_office.specs.Shared.{with_rows}
use Rattle.fr_office.proofs.GrantLaws.{page_entries}
use Rattle.fr_world.specs.Pages.{own_rows_of}
use Rattle.fr_world.specs.Loads.{grants_in_lanes}
use Rattle.fr_office.proofs.queries.grants.add_grants.Given as goal

-- the grants so far, with those that are left
abbrev pub invariant-loop-at : goal.invariant-loop-at
invariant-loop-at l = with_rows (grants_in_lanes l.held.entries) (page_entries l.supplier l.at-iterator) ≡ with_rows (grants_in_lanes l.fn.held.entries) (own_rows_of l.page).grants.rows
