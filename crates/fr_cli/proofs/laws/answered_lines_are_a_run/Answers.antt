use Rattle.fr_cli.proofs.ScriptRunLaws.{lines-run}
use Rattle.fr_cli.proofs.laws.answered_lines_are_a_run.Goals as goal

pub returns : goal.returns
returns c = lines-run
