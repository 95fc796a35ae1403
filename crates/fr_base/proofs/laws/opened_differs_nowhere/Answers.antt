use Rattle.fr_base.proofs.DifferenceLaws.{opened-none}
use Rattle.fr_base.proofs.laws.opened_differs_nowhere.Goals as goal

pub returns : goal.returns
returns c = opened-none
