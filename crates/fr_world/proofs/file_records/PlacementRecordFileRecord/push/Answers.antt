use Rattle.std.proofs.Common.{List, sym, subst}
use Rattle.fr_base.specs.declared.answer.PlacementRecord.{PlacementRecord}
use Rattle.fr_world.specs.Appending.{AppendsSome}
use Rattle.fr_world.specs.Pages.{frame_data}
use Rattle.fr_world.proofs.AppendingLaws.{none-appended, on_error, some-later}
use Rattle.fr_world.proofs.RecordLaws.{records-all, records-keys}
use Rattle.fr_world.proofs.file_records.PlacementRecordFileRecord.push.Goals as goal

pub returns-clause-ok : goal.returns-clause-ok
returns-clause-ok c =
    let l = c.loop-placement in
    records-all c.args.supplier c.args.name (frame_data c.args.frame.now) c.iter-placement-items.ensures.ordered l.placement-iterator _ l.rows c.in-None.ensures.steps.0 l.invariant.whole

pub returns-in_err-push-clause-err : goal.returns-in_err-push-clause-err
returns-in_err-push-clause-err c =
    let l = c.loop-placement in
    on_error c.from_residual.result (subst (λ (rows : List PlacementRecord). AppendsSome rows c.args.rows.now c.push.new.self)
    (sym (records-keys c.args.supplier c.args.name (frame_data c.args.frame.now) c.iter-placement-items.ensures.ordered))
    (some-later _ _ c.args.rows.now l.rows c.push.new.self l.invariant.grown l.invariant.whole (none-appended _ l.rows c.push.new.self c.in_err-push.ensures.err)))
