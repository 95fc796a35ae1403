use Rattle.std.proofs.lemmas.Result.{err_from_is_err_and}
use Rattle.fr_text.proofs.WordsLemmas.{Extends-append, Extends-trans, Extends-later}
use Rattle.fr_text.proofs.ReportLemmas.{puts_row}
use Rattle.fr_text.proofs.report.push_behind.Goals as goal

pub returns-in_err-push-2-clause-err : goal.returns-in_err-push-2-clause-err
returns-in_err-push-2-clause-err g c =
    let p = err_from_is_err_and c.from_residual-in_err-push-2.result c.from_residual-in_err-push-2.ensures.1 in
    rw p.1 (Extends-trans _ _ _ c.loop-row.invariant.extends (Extends-later _ _ _ (rw c.in_ok-push.ensures.ok at c.in_err-push-2.ensures.err)))

pub loop-row-preserved : goal.loop-row-preserved
loop-row-preserved g c =
    let text = puts_row c.args.mark.now g.R.Row.first g.R.Row.others c.args.all c.args.rows.now c.loop-row.row-index c.row-item.result
    c.args.out.now.items c.loop-row.out.items c.push.new.out.items _ c.loop-row-test.true c.row-item.is
    c.loop-row.invariant.text c.in_ok-push.ensures.ok c.in_ok-push-2.ensures.ok in
    record { text = text; extends = rw text (Extends-append _ _) }
