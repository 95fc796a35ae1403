use Rattle.fr_base.proofs.EditLaws.{differences-in_order}
use Rattle.fr_base.proofs.laws.edits.differences_are_in_order.Goals as goal

pub returns : goal.returns
returns c = differences-in_order
