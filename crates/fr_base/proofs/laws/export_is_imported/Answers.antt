use Rattle.fr_base.proofs.ImportedExports.{is_imported}
use Rattle.fr_base.proofs.laws.export_is_imported.Goals as goal

pub returns : goal.returns
returns c = is_imported
