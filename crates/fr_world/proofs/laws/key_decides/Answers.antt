use Rattle.fr_world.proofs.JoiningLaws.{key-decides}
use Rattle.fr_world.proofs.laws.key_decides.Goals as goal

pub returns : goal.returns
returns c = key-decides
