use Rattle.fr_base.proofs.ExportParts.{few_records_are_told}
use Rattle.fr_base.proofs.laws.few_records_are_told.Goals as goal

pub returns : goal.returns
returns c = few_records_are_told
