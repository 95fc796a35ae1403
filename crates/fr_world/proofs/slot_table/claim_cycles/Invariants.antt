use Rattle.std.proofs.Common.{◌-◌}
use Rattle.fr_world.proofs.ClaimLaws.{IsClaimedBelow}
use Rattle.fr_world.proofs.slot_table.claim_cycles.Given as goal

-- the cycles before are claimed
abbrev pub invariant-loop-cycle : goal.invariant-loop-cycle
invariant-loop-cycle l = IsClaimedBelow l.placement l.place l.fn.cycles l.cycles l.cycle

abbrev pub decreases-loop-cycle : goal.decreases-loop-cycle
decreases-loop-cycle l = l.placement.cycles.count - l.cycle
