use Rattle.fr_base.proofs.ExportParts.{export_is_told}
use Rattle.fr_base.proofs.laws.export_is_told.Goals as goal

pub returns : goal.returns
returns c = export_is_told
