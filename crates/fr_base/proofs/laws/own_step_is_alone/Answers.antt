use Rattle.fr_base.proofs.AloneSteps.{step-alone}
use Rattle.fr_base.proofs.laws.own_step_is_alone.Goals as goal

pub returns : goal.returns
returns c = step-alone
