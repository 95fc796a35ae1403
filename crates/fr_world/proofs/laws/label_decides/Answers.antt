use Rattle.fr_world.proofs.LabelLaws.{label-decides}
use Rattle.fr_world.proofs.laws.label_decides.Goals as goal

pub returns : goal.returns
returns c = label-decides
