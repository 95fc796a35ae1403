use Rattle.fr_http.proofs.OutcomeLaws.{outcome-one}
use Rattle.fr_http.proofs.laws.outcome_is_one.Goals as goal

pub returns : goal.returns
returns c = outcome-one
