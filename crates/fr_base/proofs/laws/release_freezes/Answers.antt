use Rattle.fr_base.proofs.ReleasedSteps.{run-keeps_released}
use Rattle.fr_base.proofs.laws.release_freezes.Goals as goal

pub returns : goal.returns
returns c = run-keeps_released
