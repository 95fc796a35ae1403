use Rattle.std.proofs.Common.{subst, sym, Option}
use Rattle.clap.specs.Walk.{rows_of}
use Rattle.clap.specs.Words.{found_of}
use Rattle.fr_base.specs.QueryNames.{Question}
use Rattle.fr_cli.specs.Words.{IsAnswerable}
use Rattle.fr_cli.proofs.ReportLaws.{unread}
use Rattle.fr_cli.proofs.words.report_job.Goals as goal

pub returns-in-Err : goal.returns-in-Err
returns-in-Err c = λ db query is.
    let rows = rows_of (found_of c.args.found.now) in
    let asked = c.in_ok-asked.asked in
    let has = subst (λ (question : Option Question). IsAnswerable question rows query.query) (sym c.in_ok-asked.ensures) is.1 in
    unread asked rows tt query.query c.in-Err.ensures has
