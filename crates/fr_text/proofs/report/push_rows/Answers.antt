use Rattle.std.proofs.lemmas.Result.{on_ok_weaker}
use Rattle.fr_text.proofs.ReportLemmas.{set_rows, set_in-none}
use Rattle.fr_text.proofs.report.push_rows.Goals as goal

pub returns-in_default-clause-ok : goal.returns-in_default-clause-ok
returns-in_default-clause-ok g c = set_in-none c.args.style g.R.Row.first g.R.Row.others c.args.all c.args.rows.now _ c.in_default.len_below

pub returns-clause-ok : goal.returns-clause-ok
returns-clause-ok g c =
    on_ok_weaker c.push-3.result (λ last. set_rows c.args.style g.R.Row.first g.R.Row.others c.args.all c.args.rows.now c.first-item.result _ _ _ _ _
    c.in-len1-up.len_at_least c.first-item.is
    (rw c.before-2.ensures at c.in_ok-push.ensures.ok) (rw c.between.ensures at c.in_ok-push-2.ensures.ok)
    (rw c.between-2.ensures at c.in_ok-push_behind.ensures.ok) (rw c.after.ensures at last))
    c.push-3.ensures.ok
