use Rattle.fr_base.proofs.WholeExports.{whole_export_changes_nothing}
use Rattle.fr_base.proofs.laws.whole_export_changes_nothing.Goals as goal

pub returns : goal.returns
returns c = whole_export_changes_nothing
