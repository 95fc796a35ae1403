use Rattle.fr_base.proofs.RefusedSteps.{step-unchanged}
use Rattle.fr_base.proofs.laws.refused_changes_nothing.Goals as goal

pub returns : goal.returns
returns c = step-unchanged
