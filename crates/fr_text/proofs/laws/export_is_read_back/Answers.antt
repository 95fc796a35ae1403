use Rattle.fr_text.proofs.ExportLaws.{export_is_read_back}
use Rattle.fr_text.proofs.laws.export_is_read_back.Goals as goal

pub returns : goal.returns
returns c = export_is_read_back
