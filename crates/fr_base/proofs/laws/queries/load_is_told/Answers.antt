use Rattle.fr_base.proofs.QueryLaws.{load-told}
use Rattle.fr_base.proofs.laws.queries.load_is_told.Goals as goal

pub returns : goal.returns
returns c = load-told
