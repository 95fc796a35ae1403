use Rattle.std.proofs.Common.{◌≡◌, ◌⊎◌, ◌∙◌, [], ◌∷◌, Ok, Err, IfErr, inr, sym, ap, subst, rules}
use Rattle.fr_base.specs.Parameters.{check_params}
use Rattle.fr_base.specs.Changes.{in_rows}
use Rattle.fr_base.specs.declared.refusal.Refusal.TheVariants.{Unavailable}
use Rattle.fr_world.specs.Decisions.{decision}
use Rattle.fr_world.specs.declared.edit.Edit.TheVariants.{Rows}
use Rattle.fr_world.proofs.DecideAll.{decision_made, decision_refused}
use Rattle.fr_world.proofs.LeadsLaws.{decision-leads}
use Rattle.fr_world.proofs.decision.decide.Goals as goal

pub returns-clause-edits : goal.returns-clause-edits
returns-clause-edits c =
    decision_made c.args.page.now c.args.change.now (sym c.released.ensures ∙ c.if-released.false) _ c.in_ok-admit.ensures
    ∙ ap Ok ((λ i. Rows (in_rows (sym c.supplier.ensures i) (sym c.variant.ensures i) c.args.change.now) ∷ []) ∙ sym c.in_ok-vec.ensures.items)

pub returns-clause-leads : goal.returns-clause-leads
returns-clause-leads c =
    decision-leads c.args.page.now c.args.change.now c.in_ok-vec.field-0.items (subst (λ p. check_params p ≡ Ok p) c.params.ensures c.raw-raw.ensures.checked) c.frames-frames.ensures.kept c.requires.checked (returns-clause-edits c)

pub returns-in_err-admit-clause-refusal : goal.returns-in_err-admit-clause-refusal
returns-in_err-admit-clause-refusal c =
    let same : c.from_residual.result ≡ Err c.in_err-admit.field-0.0 = search rules in
    subst (λ r. IfErr r (λ e. (e ≡ Unavailable) ⊎ (decision c.args.page.now c.args.change.now ≡ Err e))) (sym same)
    (inr (decision_refused c.args.page.now c.args.change.now (sym c.released.ensures ∙ c.if-released.false) c.in_err-admit.field-0.0 c.in_err-admit.ensures))
