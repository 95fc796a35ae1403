use Rattle.std.proofs.Common.{rules}
use Rattle.clap.specs.Words.{new_app}
use Rattle.fr_cli.proofs.CommandLaws.{with_arg}
use Rattle.fr_cli.proofs.words.commands.report.Goals as goal
use Rattle.fr_cli.specs.Commands.{IsReadAs}

pub returns : goal.returns
returns c =
    let new : IsReadAs (new_app c.args.name.now) c.after_help.result = search rules in
    with_arg _ _ _ _ _ c.in_ok-command-2.ensures (c.in_ok-with_words.ensures _ (with_arg _ _ _ _ _ c.in_ok-command.ensures new c.db.ensures)) c.reader.ensures
