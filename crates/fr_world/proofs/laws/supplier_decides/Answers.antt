use Rattle.fr_world.proofs.StepLaws.{supplier-decides}
use Rattle.fr_world.proofs.laws.supplier_decides.Goals as goal

pub returns : goal.returns
returns c = supplier-decides
