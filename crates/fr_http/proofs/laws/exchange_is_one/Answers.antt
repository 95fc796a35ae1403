use Rattle.fr_http.proofs.OutcomeLaws.{exchange-one}
use Rattle.fr_http.proofs.laws.exchange_is_one.Goals as goal

pub returns : goal.returns
returns c = exchange-one
