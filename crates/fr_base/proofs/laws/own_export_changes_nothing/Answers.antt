use Rattle.fr_base.proofs.ExportedLaws.{changes_nothing}
use Rattle.fr_base.proofs.laws.own_export_changes_nothing.Goals as goal

pub returns : goal.returns
returns c = changes_nothing
