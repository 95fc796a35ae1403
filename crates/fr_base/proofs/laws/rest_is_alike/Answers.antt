use Rattle.fr_base.proofs.DifferenceLaws.{in_both-alike}
use Rattle.fr_base.proofs.laws.rest_is_alike.Goals as goal

pub returns : goal.returns
returns c = in_both-alike
