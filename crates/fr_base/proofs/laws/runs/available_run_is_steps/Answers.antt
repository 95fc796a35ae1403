use Rattle.fr_base.proofs.RunLaws.{run-steps}
use Rattle.fr_base.proofs.laws.runs.available_run_is_steps.Goals as goal

pub returns : goal.returns
returns c = run-steps
