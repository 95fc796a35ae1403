use Rattle.fr_base.proofs.ReleasedSteps.{run-keeps_differences}
use Rattle.fr_base.proofs.laws.released_differences_stay.Goals as goal

pub returns : goal.returns
returns c = run-keeps_differences
