use Rattle.fr_http.proofs.ExchangeLaws.{exchanges-alone}
use Rattle.fr_http.proofs.laws.exchanges_are_alone.Goals as goal

pub returns : goal.returns
returns c = exchanges-alone
