use Rattle.fr_base.proofs.ExportParts.{all_records_are_told}
use Rattle.fr_base.proofs.laws.all_records_are_told.Goals as goal

pub returns : goal.returns
returns c = all_records_are_told
