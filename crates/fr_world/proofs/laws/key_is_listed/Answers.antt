use Rattle.fr_world.proofs.JoiningLaws.{key-is_listed}
use Rattle.fr_world.proofs.laws.key_is_listed.Goals as goal

pub returns : goal.returns
returns c = key-is_listed
