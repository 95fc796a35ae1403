use Rattle.fr_base.proofs.AloneRuns.{steps-run}
use Rattle.fr_base.proofs.laws.steps_are_a_run.Goals as goal

pub returns : goal.returns
returns c = steps-run
