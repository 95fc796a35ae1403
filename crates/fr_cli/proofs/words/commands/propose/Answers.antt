use Rattle.std.proofs.Common.{rules, codes}
use Rattle.clap.specs.Words.{new_app}
use Rattle.fr_cli.proofs.CommandLaws.{with_arg}
use Rattle.fr_cli.proofs.words.commands.propose.Goals as goal
use Rattle.fr_cli.specs.Commands.{IsReadAs}

pub returns : goal.returns
returns c =
    let new : IsReadAs (new_app (codes "propose")) c.after_help.result = search rules in
    with_arg _ _ _ _ _ c.in_ok-command.ensures
    (with_arg _ _ _ _ _ c.in_ok-arg-4.ensures
    (with_arg _ _ _ _ _ c.in_ok-arg-3.ensures
    (with_arg _ _ _ _ _ c.in_ok-arg-2.ensures
    (with_arg _ _ _ _ _ c.in_ok-arg.ensures new c.db.ensures) c.key.ensures) c.variant.ensures) c.rows.ensures) c.flag.ensures
