use Rattle.fr_world.proofs.IntegratorLaws.{node-decides}
use Rattle.fr_world.proofs.laws.node_decides.Goals as goal

pub returns : goal.returns
returns c = node-decides
