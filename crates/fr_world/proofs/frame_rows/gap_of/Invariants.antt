use Rattle.std.proofs.Common.{◌≡◌, ◌≤◌, ◌++◌, length, take}
use Rattle.fr_world.proofs.frame_rows.gap_of.Given as goal

-- the placements before, in the front of the room
abbrev pub invariant-loop-placement : goal.invariant-loop-placement
invariant-loop-placement l = record {
  few : l.count ≤ 8;
  size : length l.room ≡ 8;
  kept : take l.count l.room ++ l.placement-iterator ≡ l.frame.placements.keys;
}
