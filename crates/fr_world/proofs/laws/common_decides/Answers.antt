use Rattle.fr_world.proofs.IntegratorLaws.{common-decides}
use Rattle.fr_world.proofs.laws.common_decides.Goals as goal

pub returns : goal.returns
returns c = common-decides
