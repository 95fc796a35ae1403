use Rattle.std.proofs.Common.{◌≡◌, ◌⊎◌, ◌∙◌, Err, IfErr, inr, sym, subst, rules}
use Rattle.fr_base.specs.declared.refusal.Refusal.TheVariants.{Unavailable}
use Rattle.fr_base.specs.declared.request.Change.TheVariants as change
use Rattle.fr_base.specs.declared.request.FrameChange.TheVariants.{Add}
use Rattle.fr_world.specs.Drafts.{draft_data}
use Rattle.fr_world.specs.RowDecisions.{make}
use Rattle.fr_world.proofs.AmendLaws.{on_ok}
use Rattle.fr_world.proofs.DraftSteps.{make-ok, make-refused}
use Rattle.fr_world.proofs.decision.draft.Draft.add_frame.Goals as goal

pub returns-in_err-admit_frame-clause-err : goal.returns-in_err-admit_frame-clause-err
returns-in_err-admit_frame-clause-err c =
    let old = draft_data c.args.self.now in
    let what = change.Frame c.args.frame (Add c.args.node) in
    let same : c.from_residual.result ≡ Err c.in_err-admit_frame.field-0.0 = search rules in
    subst (λ r. IfErr r (λ e. (e ≡ Unavailable) ⊎ (make old what ≡ Err e))) (sym same)
    (inr (make-refused old what c.in_err-admit_frame.field-0.0 (sym c.admit_frame.ensures ∙ c.in_err-admit_frame.was)))

pub returns-clause-ok : goal.returns-clause-ok
returns-clause-ok c =
    let old = draft_data c.args.self.now in
    let what = change.Frame c.args.frame (Add c.args.node) in
    on_ok c.make.result (make-ok old (draft_data c.make.new.self) what (sym c.admit_frame.ensures ∙ c.in_ok-admit_frame.was)) c.make.ensures.ok
