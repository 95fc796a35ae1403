use Rattle.std.proofs.Common.{◌≡◌, ◌∙◌, true, is_some, Err, IfErr, inl, inr, sym, subst, rules, tests}
use Rattle.fr_base.specs.Sound.{FitsCluster}
use Rattle.fr_base.specs.Tables.{get}
use Rattle.fr_base.specs.declared.import.Row.TheVariants as row
use Rattle.fr_base.specs.declared.request.Change.TheVariants as change
use Rattle.fr_base.specs.declared.request.FrameChange.TheVariants.{Place}
use Rattle.fr_world.specs.Drafts.{draft_data}
use Rattle.fr_world.specs.RowDecisions.{make, make_frame, make_row}
use Rattle.fr_world.proofs.AmendLaws.{on_ok}
use Rattle.fr_world.proofs.DraftRows.{Refused, if_err, refused-so, frame-params, place-row, place-refused}
use Rattle.fr_world.proofs.TrialRows.{was_left}
use Rattle.fr_world.proofs.decision.draft.Draft.try_place.Goals as goal

pub returns-in_err-make_frame-clause-err : goal.returns-in_err-make_frame-clause-err
returns-in_err-make_frame-clause-err c =
    let d = draft_data c.args.self.now in
    let f = c.args.frame in
    let n = c.args.node in
    let q = c.args.placement in
    let e = c.in_err-make_frame.field-0.0 in
    let same : c.from_residual.result ≡ Err e = search rules in
    subst (λ r. IfErr r (Refused (make_row d (row.Place f n q)))) (sym same)
    (refused-so (make_frame d f n) (make_row d (row.Place f n q)) (λ e is. place-refused d f n q e is) e c.in_err-make_frame.ensures.err)

pub place-requires : goal.place-requires
place-requires c =
    let d = draft_data c.args.self.now in
    record {
      checked = subst (λ p. FitsCluster p c.args.placement) (sym (frame-params d (draft_data c.make_frame.new.self) c.args.frame c.args.node c.in_ok-make_frame.ensures.ok)) c.requires.checked;
    }

pub returns-in_ok-make_frame-clause-ok : goal.returns-in_ok-make_frame-clause-ok
returns-in_ok-make_frame-clause-ok c =
    let d = draft_data c.args.self.now in
    let m = draft_data c.make_frame.new.self in
    on_ok c.place.result (λ is. place-row d c.args.frame c.args.node c.args.placement m c.in_ok-make_frame.ensures.ok ∙ is) c.place.ensures.ok

pub returns-in_ok-make_frame-clause-err : goal.returns-in_ok-make_frame-clause-err
returns-in_ok-make_frame-clause-err c =
    let d = draft_data c.args.self.now in
    let m = draft_data c.make_frame.new.self in
    if_err _ _ c.place.result
    (refused-so (make m (change.Frame c.args.frame (Place c.args.placement))) (make_row d (row.Place c.args.frame c.args.node c.args.placement))
    (λ e is. place-row d c.args.frame c.args.node c.args.placement m c.in_ok-make_frame.ensures.ok ∙ is))
    c.place.ensures.err

pub returns-in_ok-make_frame-clause-left : goal.returns-in_ok-make_frame-clause-left
returns-in_ok-make_frame-clause-left c =
    let d = draft_data c.args.self.now in
    let m = draft_data c.make_frame.new.self in
    let some : is_some (get d.page.frames (d.page.supplier, c.args.frame)) ≡ true = search (rules, tests) in
    let same : m ≡ d = was_left d c.args.frame c.args.node some m c.in_ok-make_frame.ensures.ok in
    if_err _ _ c.place.result (λ e left. elim left [ inl lacked ↦ inl lacked | inr is ↦ inr (is ∙ same) ]) c.place.ensures.left
