use Rattle.std.proofs.Common.{◌-◌, []}
use Rattle.fr_world.specs.Plans.{Opens}
use Rattle.fr_world.proofs.TurnLaws.{turns_below}
use Rattle.fr_world.proofs.proposal.lack.slots_lacking.Given as goal

-- those of the repetitions before took places
abbrev pub invariant-loop-repetition : goal.invariant-loop-repetition
invariant-loop-repetition l = Opens l.params 0 [] l.slots.count l.slots.cells (turns_below l.params l.wishes l.channels (l.repetition - 1))
