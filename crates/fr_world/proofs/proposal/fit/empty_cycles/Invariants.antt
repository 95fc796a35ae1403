use Rattle.fr_world.proofs.FitLaws.{EmptyBelow}
use Rattle.fr_world.proofs.proposal.fit.empty_cycles.Given as goal

-- the empty cycles of the bases before
abbrev pub invariant-loop-base : goal.invariant-loop-base
invariant-loop-base l = EmptyBelow l.params l.filled l.repetition l.empty l.base
