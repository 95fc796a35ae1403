use Rattle.std.proofs.Common.{◌∙◌, ap, ◌++◌}
use Rattle.std.proofs.lemmas.Result.{on_ok_weaker}
use Rattle.fr_text.specs.Styles.{set_in}
use Rattle.fr_text.proofs.ProposalLemmas.{no_wishes, set_wishes}
use Rattle.fr_text.proofs.report.proposal.push_proposal.Goals as goal

pub returns-in_default-clause-ok : goal.returns-in_default-clause-ok
returns-in_default-clause-ok c =
    let proposal = c.args.proposal.now in
    on_ok_weaker c.push_rows.result (λ written. rw c.as_slice-lacks.ensures at written
    ∙ ap (λ lines. c.args.out.now.items ++ set_in c.args.style lines) (no_wishes proposal.rows proposal.lacks (rw c.as_slice.ensures at c.in_default.len_below)))
    c.push_rows.ensures.ok

pub returns-clause-ok : goal.returns-clause-ok
returns-clause-ok c =
    let proposal = c.args.proposal.now in
    on_ok_weaker c.push-3.result (λ last. set_wishes c.args.style proposal.rows proposal.lacks c.first-item.result _ _ _ _ _ _
    (rw c.as_slice.ensures at c.in-len1-up.len_at_least) (rw c.as_slice.ensures at c.first-item.is)
    (rw c.before-2.ensures at c.in_ok-push.ensures.ok) (rw c.between.ensures at c.in_ok-push-2.ensures.ok)
    (rw (c.between-2.ensures, c.as_slice.ensures) at c.in_ok-push_behind.ensures.ok) (rw (c.between-3.ensures, c.as_slice-lacks.ensures) at c.in_ok-push_behind-2.ensures.ok)
    (rw c.after.ensures at last))
    c.push-3.ensures.ok
