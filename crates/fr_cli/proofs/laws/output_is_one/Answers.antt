use Rattle.fr_cli.proofs.OneOutput.{output-one}
use Rattle.fr_cli.proofs.laws.output_is_one.Goals as goal

pub returns : goal.returns
returns c = output-one
