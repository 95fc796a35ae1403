use Rattle.std.proofs.Common.{◌≡◌, ℕ, ◌-◌, List}
use Rattle.fr_base.specs.declared.channel.Channels.{Channels}
use Rattle.fr_world.specs.Plans.{Takes}
use Rattle.fr_world.proofs.TurnLaws.{turns_below}
use Rattle.fr_world.proofs.proposal.turns.Plan.take_turns_on.Given as goal

-- those of the repetitions before took places
abbrev pub invariant-loop-repetition : goal.invariant-loop-repetition
invariant-loop-repetition l = (on : Channels → List ℕ) → on l.channels ≡ l.slots → Takes l.params on l.fn.self.cells l.self.cells l.fn.self.given.items l.self.given.items (turns_below l.params l.wishes l.channels (l.repetition - 1))
