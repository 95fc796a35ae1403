use Rattle.std.proofs.Common.{sym}
use Rattle.clap.specs.Walk.{rows_of}
use Rattle.clap.specs.Words.{found_of}
use Rattle.fr_base.specs.declared.delivery.Manner.TheVariants.{Import}
use Rattle.fr_base.specs.declared.delivery.Purpose.TheVariants.{Trial}
use Rattle.fr_cli.proofs.ReportLaws.{undelivered, untried}
use Rattle.fr_cli.proofs.words.try_job.Goals as goal

pub returns-in_err-manner : goal.returns-in_err-manner
returns-in_err-manner c =
    let rows = rows_of (found_of c.args.found.now) in
    undelivered (Trial Import) rows _ c.from_residual.ensures (untried rows (sym c.in_err-manner.ensures))
