use Rattle.fr_cli.proofs.CommandLaws.{with_arg}
use Rattle.fr_cli.proofs.words.commands.check.Goals as goal

pub returns : goal.returns
returns c = with_arg _ _ _ _ _ c.in_ok-command.ensures c.in_ok-check_texts.ensures c.named.ensures
