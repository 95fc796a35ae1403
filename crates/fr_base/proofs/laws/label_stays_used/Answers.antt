use Rattle.fr_base.proofs.ImportLaws.{stays_used}
use Rattle.fr_base.proofs.laws.label_stays_used.Goals as goal

pub returns : goal.returns
returns c = stays_used
