use Rattle.fr_guide.proofs.AdviceLaws as law
use Rattle.fr_guide.proofs.laws.advice_is_exact.Goals as goal

pub returns : goal.returns
returns c = law.advice_is_exact
