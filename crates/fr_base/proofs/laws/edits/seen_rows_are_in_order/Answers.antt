use Rattle.fr_base.proofs.EditLaws.{seen-in_order}
use Rattle.fr_base.proofs.laws.edits.seen_rows_are_in_order.Goals as goal

pub returns : goal.returns
returns c = seen-in_order
