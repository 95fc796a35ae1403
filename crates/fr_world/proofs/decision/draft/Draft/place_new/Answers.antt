use Rattle.std.proofs.Common.{◌≡◌, ◌∙◌, ◌≢◌, take, length, Err, IfErr, inl, inr, sym, ap, subst, rules, tests}
use Rattle.fr_base.specs.Sound.{FitsCluster}
use Rattle.fr_base.specs.declared.import.Row.TheVariants as row
use Rattle.fr_base.specs.declared.refusal.Refusal.TheVariants.{Unavailable}
use Rattle.fr_base.specs.declared.request.Change.TheVariants as change
use Rattle.fr_base.specs.declared.request.FrameChange.TheVariants.{Add, Drop, Place}
use Rattle.fr_world.specs.Decisions.{admits_alone}
use Rattle.fr_world.specs.Drafts.{draft_data}
use Rattle.fr_world.specs.RowDecisions.{DraftData, make, make_frame, make_row, with_change}
use Rattle.fr_world.proofs.DraftRows.{Refused, refused-so, frame-params, place-row, place-refused}
use Rattle.fr_world.proofs.TrialRows.{was_added, draft_back, drop-admitted}
use Rattle.fr_world.proofs.decision.draft.Draft.place_new.Goals as goal

pub returns-in_err-make_frame-clause-err : goal.returns-in_err-make_frame-clause-err
returns-in_err-make_frame-clause-err c =
    let d = draft_data c.args.self.now in
    let f = c.args.frame in
    let n = c.args.node in
    let q = c.args.placement in
    let e = c.in_err-make_frame.field-0.0 in
    let same : c.from_residual.result ≡ Err e = search rules in
    subst (λ r. IfErr r (Refused (make_row d (row.Place f n q)))) (sym same)
    (refused-so (make_frame d f n) (make_row d (row.Place f n q)) (λ e is. place-refused d f n q e is) e c.in_err-make_frame.ensures.err)

pub place-requires : goal.place-requires
place-requires c =
    let d = draft_data c.args.self.now in
    record {
      checked = subst (λ p. FitsCluster p c.args.placement) (sym (frame-params d (draft_data c.make_frame.new.self) c.args.frame c.args.node c.in_ok-make_frame.ensures.ok)) c.requires.checked;
    }

pub make-requires-clause-admitted : goal.make-requires-clause-admitted
make-requires-clause-admitted c =
    let d = draft_data c.args.self.now in
    let other : c.in-Err.refusal ≢ Unavailable = search (rules, tests) in
    let left : draft_data c.place.new.self ≡ draft_data c.make_frame.new.self = elim c.in-Err.ensures.left [ inl lacked ↦ absurd (other lacked) | inr is ↦ is ] in
    let is = left ∙ was_added d c.args.frame c.args.node c.requires.new (draft_data c.make_frame.new.self) c.in_ok-make_frame.ensures.ok in
    ap (λ (m : DraftData). admits_alone m.page (change.Frame c.args.frame Drop)) is ∙ drop-admitted d c.args.frame c.args.node

pub returns-in-Ok-clause-ok : goal.returns-in-Ok-clause-ok
returns-in-Ok-clause-ok c =
    let d = draft_data c.args.self.now in
    place-row d c.args.frame c.args.node c.args.placement (draft_data c.make_frame.new.self) c.in_ok-make_frame.ensures.ok ∙ c.in-Ok.ensures.ok

pub returns-in_ok-make-in-Err-2-clause-err : goal.returns-in_ok-make-in-Err-2-clause-err
returns-in_ok-make-in-Err-2-clause-err c =
    let d = draft_data c.args.self.now in
    let m = draft_data c.make_frame.new.self in
    refused-so (make m (change.Frame c.args.frame (Place c.args.placement))) (make_row d (row.Place c.args.frame c.args.node c.args.placement))
    (λ e is. place-row d c.args.frame c.args.node c.args.placement m c.in_ok-make_frame.ensures.ok ∙ is)
    c.in-Err.refusal c.in-Err.ensures.err

pub returns-in_ok-make-in-Err-2-clause-left : goal.returns-in_ok-make-in-Err-2-clause-left
returns-in_ok-make-in-Err-2-clause-left c =
    let d = draft_data c.args.self.now in
    let f = c.args.frame in
    let n = c.args.node in
    let e = draft_data c.make.new.self in
    let other : c.in-Err.refusal ≢ Unavailable = search (rules, tests) in
    let left : draft_data c.place.new.self ≡ draft_data c.make_frame.new.self = elim c.in-Err.ensures.left [ inl lacked ↦ absurd (other lacked) | inr is ↦ is ] in
    let is = left ∙ was_added d f n c.requires.new (draft_data c.make_frame.new.self) c.in_ok-make_frame.ensures.ok in
    let dropped : e ≡ with_change (with_change d (change.Frame f (Add n))) (change.Frame f Drop) = c.in_ok-make-in-Err-2.ensures.ok ∙ ap (λ m. with_change m (change.Frame f Drop)) is in
    let edits : c.truncate.new.self.items ≡ take (length d.edits) e.edits = search rules in
    inr ((λ i. record e { edits = edits i }) ∙ draft_back d f n c.requires.new e dropped)
