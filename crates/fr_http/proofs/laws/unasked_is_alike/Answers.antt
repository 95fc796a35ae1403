use Rattle.fr_http.proofs.ExchangeLaws.{replied-alike}
use Rattle.fr_http.proofs.laws.unasked_is_alike.Goals as goal

pub returns : goal.returns
returns c = replied-alike
