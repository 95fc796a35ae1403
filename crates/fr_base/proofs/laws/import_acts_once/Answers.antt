use Rattle.fr_base.proofs.ImportLaws.{acts_once}
use Rattle.fr_base.proofs.laws.import_acts_once.Goals as goal

pub returns : goal.returns
returns c = acts_once
