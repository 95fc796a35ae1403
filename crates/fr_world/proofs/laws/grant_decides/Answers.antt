use Rattle.fr_world.proofs.StepLaws.{grant-decides}
use Rattle.fr_world.proofs.laws.grant_decides.Goals as goal

pub returns : goal.returns
returns c = grant-decides
