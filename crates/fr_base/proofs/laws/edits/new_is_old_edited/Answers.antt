use Rattle.fr_base.proofs.EditLaws.{new-edited}
use Rattle.fr_base.proofs.laws.edits.new_is_old_edited.Goals as goal

pub returns : goal.returns
returns c = new-edited
