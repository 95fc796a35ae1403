use Rattle.fr_base.proofs.QueryLaws.{difference-of_rows}
use Rattle.fr_base.proofs.laws.queries.difference_is_of_rows.Goals as goal

pub returns : goal.returns
returns c = difference-of_rows
