use Rattle.fr_base.proofs.ExportParts.{export_has_parts}
use Rattle.fr_base.proofs.laws.export_has_parts.Goals as goal

pub returns : goal.returns
returns c = export_has_parts
