use Rattle.std.proofs.Common.{◌≡◌, List, option_map}
use Rattle.fr_base.specs.Room.{placed}
use Rattle.fr_base.specs.declared.channel.Channel.{Channel}
use Rattle.fr_base.specs.declared.name.Name.{Name}
use Rattle.fr_base.specs.declared.placement.Placement.{Placement}
use Rattle.fr_world.specs.Masks.{AreFilled, word_on}
use Rattle.fr_world.specs.Proposals.{rated_of}
use Rattle.fr_world.proofs.FitLaws.{fit_so_far}
use Rattle.fr_world.proofs.proposal.fit.fittest_in.Given as goal

-- the fittest of the bases before
abbrev pub invariant-loop-base : goal.invariant-loop-base
invariant-loop-base l = (ps : List (Name × Placement)) → ((x : Channel) → AreFilled ps l.slot x (word_on x l.fn.filled)) → option_map rated_of l.fittest ≡ fit_so_far (placed l.params l.kind.repetition l.slot l.kind.channels) ps l.base
