use Rattle.fr_base.proofs.QueryLaws.{rows-told}
use Rattle.fr_base.proofs.laws.queries.rows_are_told.Goals as goal

pub returns : goal.returns
returns c = rows-told
