use Rattle.fr_cli.proofs.ScriptLines.{script-lines}
use Rattle.fr_cli.proofs.laws.script_lines_are_parts.Goals as goal

pub returns : goal.returns
returns c = script-lines
