use Rattle.fr_base.proofs.QueryLaws.{difference-told}
use Rattle.fr_base.proofs.laws.queries.difference_is_told.Goals as goal

pub returns : goal.returns
returns c = difference-told
