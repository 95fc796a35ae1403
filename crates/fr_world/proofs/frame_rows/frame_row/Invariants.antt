use Rattle.std.proofs.Common.{◌≡◌, ◌++◌}
use Rattle.fr_world.proofs.frame_rows.frame_row.Given as goal

-- the placements before
abbrev pub invariant-loop-placement : goal.invariant-loop-placement
invariant-loop-placement l = l.placements ++ l.placement-iterator ≡ l.frame.placements.keys
