-- The program with the subcommands of the reports up to here.
use Rattle.std.proofs.Common.{take}
use Rattle.std.specs.List.{fold}
use Rattle.clap.specs.Words.{App}
use Rattle.fr_cli.proofs.CommandLaws.{rows_of}
use Rattle.fr_cli.specs.Commands.{IsReadAs, with_report}
use Rattle.fr_cli.proofs.words.commands.with_reports.Given as goal

abbrev pub invariant-loop-form : goal.invariant-loop-form
invariant-loop-form l = (old : App) → IsReadAs old l.fn.program → IsReadAs (fold with_report old (rows_of (take l.form-index l.forms))) l.grown
