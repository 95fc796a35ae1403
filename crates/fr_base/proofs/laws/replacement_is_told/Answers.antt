use Rattle.fr_base.proofs.TrialLaws.{replacement-as_told}
use Rattle.fr_base.proofs.laws.replacement_is_told.Goals as goal

pub returns : goal.returns
returns c = replacement-as_told
