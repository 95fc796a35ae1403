use Rattle.fr_base.proofs.AllFitLaws.{all_fit}
use Rattle.fr_base.proofs.laws.proposals.all_are_given_where_all_fit.Goals as goal

pub returns : goal.returns
returns c = all_fit
