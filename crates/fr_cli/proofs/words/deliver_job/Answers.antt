use Rattle.std.proofs.Common.{codes}
use Rattle.clap.specs.Walk.{first_of, rows_of}
use Rattle.clap.specs.Words.{found_of}
use Rattle.fr_cli.proofs.ReportLaws.{undelivered, wanting}
use Rattle.fr_cli.proofs.words.deliver_job.Goals as goal

pub returns-in_err-word : goal.returns-in_err-word
returns-in_err-word c has =
    undelivered c.args.how (rows_of (found_of c.args.found.now)) _ c.from_residual-in_err-word.ensures (λ delivery named is.
    wanting (first_of (codes "KEY") (rows_of (found_of c.args.found.now))) delivery.key.now c.in_err-word.ensures is.0)

pub returns-in_err-word-2 : goal.returns-in_err-word-2
returns-in_err-word-2 c has =
    undelivered c.args.how (rows_of (found_of c.args.found.now)) _ c.from_residual-in_err-word-2.ensures (λ delivery named is.
    wanting (first_of (codes "VARIANT") (rows_of (found_of c.args.found.now))) delivery.variant.now c.in_err-word-2.ensures is.1)

pub returns-in_err-word-3 : goal.returns-in_err-word-3
returns-in_err-word-3 c has =
    undelivered c.args.how (rows_of (found_of c.args.found.now)) _ c.from_residual-in_err-word-3.ensures (λ delivery named is.
    wanting (first_of (codes "FILE") (rows_of (found_of c.args.found.now))) delivery.file.now c.in_err-word-3.ensures is.3)
