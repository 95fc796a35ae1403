use Rattle.std.proofs.Common.{subst, sym}
use Rattle.std.proofs.lemmas.Result.{IfOk-weaker}
use Rattle.fr_base.specs.QueryNames.{Question}
use Rattle.fr_cli.proofs.CommandLaws.{with_arg}
use Rattle.fr_cli.proofs.words.commands.with_words.Goals as goal
use Rattle.fr_cli.specs.Commands.{IsReadAs, with_words}
use Rattle.fr_cli.specs.Reports.{argument_name}

pub returns-in_ok-command-in-Variant : goal.returns-in_ok-command-in-Variant
returns-in_ok-command-in-Variant c =
    IfOk-weaker c.with_more_words.result _ _
    (λ more is a before. subst (λ (asked : Question). IsReadAs (with_words (argument_name c.args.asked.now) a asked) more) (sym c.in-Variant.is)
    (is _ (with_arg _ _ _ _ _ c.in_ok-command-in-Variant.ensures before c.argument.ensures))) c.with_more_words.ensures

pub returns-in_ok-command-in-Difference : goal.returns-in_ok-command-in-Difference
returns-in_ok-command-in-Difference c a before =
    subst (λ (asked : Question). IsReadAs (with_words (argument_name c.args.asked.now) a asked) c.in_ok-command-in-Difference.command) (sym c.in-Difference.is)
    (with_arg _ _ _ _ _ c.in_ok-command-in-Difference.ensures
    (with_arg _ _ _ _ _ c.in_ok-arg-in-Difference.ensures before c.argument-in-Difference.ensures) c.argument-in-Difference-2.ensures)
