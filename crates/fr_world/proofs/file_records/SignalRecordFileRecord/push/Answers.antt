use Rattle.fr_world.proofs.AppendingLaws.{on_error, some-mapped}
use Rattle.fr_world.proofs.file_records.SignalRecordFileRecord.push.Goals as goal

pub returns-in_err-push-clause-err : goal.returns-in_err-push-clause-err
returns-in_err-push-clause-err c =
    let l = c.loop-signal in
    on_error c.from_residual.result (some-mapped _ c.args.frame.now.layout.signals l.signal-index c.args.rows.now l.rows c.push.new.self l.invariant c.in_err-push.ensures.err)
