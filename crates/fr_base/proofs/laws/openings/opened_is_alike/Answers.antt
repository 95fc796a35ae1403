use Rattle.fr_base.proofs.OpenedLaws.{opened-alike}
use Rattle.fr_base.proofs.laws.openings.opened_is_alike.Goals as goal

pub returns : goal.returns
returns c = opened-alike
