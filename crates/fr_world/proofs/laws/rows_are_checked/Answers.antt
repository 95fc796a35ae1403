use Rattle.fr_world.proofs.RowsDecide.{rows-checked}
use Rattle.fr_world.proofs.laws.rows_are_checked.Goals as goal

pub returns : goal.returns
returns c = rows-checked
