use Rattle.fr_world.proofs.BookFits.{rows-fit}
use Rattle.fr_world.proofs.laws.rows_fit.Goals as goal

pub returns : goal.returns
returns c = rows-fit
