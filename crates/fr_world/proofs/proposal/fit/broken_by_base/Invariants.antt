use Rattle.std.proofs.Common.{◌≡◌, ℕ, ◌-◌, ◌<◌, get_or}
use Rattle.fr_world.proofs.FitLaws.{broken_so_far}
use Rattle.fr_world.proofs.proposal.fit.broken_by_base.Given as goal

-- the repetitions before, of which there are few
abbrev pub invariant-loop-coarser : goal.invariant-loop-coarser
invariant-loop-coarser l = record {
  counted : (base : ℕ) → base < l.repetition → get_or l.broken base 0 ≡ broken_so_far l.params l.filled l.repetition base (l.coarser - 1);
  few : (k : ℕ) → k < 64 → get_or l.broken k 0 < l.coarser;
}
