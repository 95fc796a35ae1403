use Rattle.fr_world.proofs.StepLaws.{revoke-decides}
use Rattle.fr_world.proofs.laws.revoke_decides.Goals as goal

pub returns : goal.returns
returns c = revoke-decides
