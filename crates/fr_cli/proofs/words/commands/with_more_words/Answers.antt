use Rattle.std.proofs.Common.{subst, sym}
use Rattle.fr_base.specs.declared.field_name.FieldName.{FieldName}
use Rattle.fr_base.specs.declared.report.Report.{Report}
use Rattle.fr_cli.proofs.CommandLaws.{with_arg}
use Rattle.fr_cli.proofs.words.commands.with_more_words.Goals as goal
use Rattle.fr_cli.specs.Commands.{IsReadAs, with_more_words}
use Rattle.fr_cli.specs.Reports.{argument_name}

pub returns-in_ok-command-in-Layout : goal.returns-in_ok-command-in-Layout
returns-in_ok-command-in-Layout c a before =
    subst (λ (report : Report FieldName FieldName). IsReadAs (with_more_words (argument_name c.args.asked.now) a report) c.in_ok-command-in-Layout.command) (sym c.in-Layout.is)
    (with_arg _ _ _ _ _ c.in_ok-command-in-Layout.ensures before c.argument.ensures)

pub returns-in_ok-command-in-Room : goal.returns-in_ok-command-in-Room
returns-in_ok-command-in-Room c a before =
    subst (λ (report : Report FieldName FieldName). IsReadAs (with_more_words (argument_name c.args.asked.now) a report) c.in_ok-command-in-Room.command) (sym c.in-Room.is)
    (with_arg _ _ _ _ _ c.in_ok-command-in-Room.ensures (with_arg _ _ _ _ _ c.in_ok-arg-in-Room.ensures before c.argument-in-Room.ensures) c.numeral.ensures)
