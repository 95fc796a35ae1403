use Rattle.fr_base.proofs.SameFileLaws.{changes_nothing}
use Rattle.fr_base.proofs.laws.same_file_changes_nothing.Goals as goal

pub returns : goal.returns
returns c = changes_nothing
