use Rattle.std.proofs.Common.{◌≡◌, ◌++◌, ◌+◌, ◌≤◌, length, map}
use Rattle.std.specs.Vec.{vec_capacity, vec_len}
use Rattle.fr_world.specs.Sendings.{sent_by}
use Rattle.fr_world.proofs.triggerings.push_placements.Given as goal

-- what was there, and the placements before; and there is room for the others
abbrev pub invariant-loop-placement : goal.invariant-loop-placement
invariant-loop-placement l =
    (l.triggerings.items ++ map (sent_by l.sender) l.placement-iterator ≡ l.fn.triggerings.items ++ map (sent_by l.sender) l.frame.placements.keys)
    × (vec_len l.triggerings + length l.placement-iterator ≤ vec_capacity l.triggerings)
