use Rattle.fr_base.proofs.QueryLaws.{query-stays}
use Rattle.fr_base.proofs.laws.queries.query_changes_nothing.Goals as goal

pub returns : goal.returns
returns c = query-stays
