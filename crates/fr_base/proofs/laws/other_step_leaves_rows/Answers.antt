use Rattle.fr_base.proofs.AloneSteps.{step-not_mine}
use Rattle.fr_base.proofs.laws.other_step_leaves_rows.Goals as goal

pub returns : goal.returns
returns c = step-not_mine
