use Rattle.std.proofs.Common.{◌≡◌, ℕ, ◌+◌, ◌<◌, ◌&&◌, cond, get_or, ltb}
use Rattle.fr_base.specs.Cycles.{is_bit_set}
use Rattle.fr_world.proofs.proposal.fit.count.Given as goal

-- the counts of the places before have one more where the bit is set
abbrev pub invariant-loop-place : goal.invariant-loop-place
invariant-loop-place l = (k : ℕ) → k < 64 → get_or l.counts k 0 ≡ get_or l.fn.counts k 0 + cond (ltb k l.place && is_bit_set l.word k) 1 0
