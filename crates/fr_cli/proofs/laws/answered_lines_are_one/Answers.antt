use Rattle.fr_cli.proofs.OneOutput.{lines-one}
use Rattle.fr_cli.proofs.laws.answered_lines_are_one.Goals as goal

pub returns : goal.returns
returns c = lines-one
