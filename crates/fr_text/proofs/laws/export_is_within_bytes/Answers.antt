use Rattle.fr_text.proofs.ExportLaws.{export_is_within_bytes}
use Rattle.fr_text.proofs.laws.export_is_within_bytes.Goals as goal

pub returns : goal.returns
returns c = export_is_within_bytes
