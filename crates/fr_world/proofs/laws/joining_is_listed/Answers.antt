use Rattle.fr_world.proofs.JoiningLaws.{joining-is_listed}
use Rattle.fr_world.proofs.laws.joining_is_listed.Goals as goal

pub returns : goal.returns
returns c = joining-is_listed
