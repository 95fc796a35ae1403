use Rattle.fr_world.proofs.RowsDecide.{rows-decide}
use Rattle.fr_world.proofs.laws.rows_decide.Goals as goal

pub returns : goal.returns
returns c = rows-decide
