use Rattle.fr_world.proofs.JoiningLaws.{joining-decides}
use Rattle.fr_world.proofs.laws.joining_decides.Goals as goal

pub returns : goal.returns
returns c = joining-decides
