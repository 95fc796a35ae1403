use Rattle.fr_base.proofs.TrialLaws.{import-as_told}
use Rattle.fr_base.proofs.laws.import_is_told.Goals as goal

pub returns : goal.returns
returns c = import-as_told
