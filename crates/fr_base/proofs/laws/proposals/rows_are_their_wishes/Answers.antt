use Rattle.fr_base.proofs.RowsOfWishes.{rows_are_wishes}
use Rattle.fr_base.proofs.laws.proposals.rows_are_their_wishes.Goals as goal

pub returns : goal.returns
returns c = rows_are_wishes
