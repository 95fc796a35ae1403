use Rattle.fr_cli.proofs.ScriptRunLaws.{lines-steps}
use Rattle.fr_cli.proofs.laws.available_answers_are_steps.Goals as goal

pub returns : goal.returns
returns c = lines-steps
