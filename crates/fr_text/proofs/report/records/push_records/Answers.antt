use Rattle.std.proofs.lemmas.Result.{on_ok_weaker}
use Rattle.fr_text.proofs.ReportLemmas.{set_below}
use Rattle.fr_text.proofs.report.records.push_records.Goals as goal

pub returns-clause-ok : goal.returns-clause-ok
returns-clause-ok g c =
    on_ok_weaker c.push-2.result (λ last. set_below c.args.style _ _ c.args.out.now.items _ _ _ _
    (rw c.before-2.ensures at c.in_ok-push.ensures.ok) c.in_ok-push_header.ensures.ok
    (rw c.between.ensures at c.in_ok-push_behind.ensures.ok) (rw c.after.ensures at last))
    c.push-2.ensures.ok
