use Rattle.fr_base.proofs.ImportLaws.{still-kept}
use Rattle.fr_base.proofs.laws.import_is_kept.Goals as goal

pub returns : goal.returns
returns c = still-kept
