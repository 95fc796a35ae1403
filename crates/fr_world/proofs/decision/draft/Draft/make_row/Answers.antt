use Rattle.std.proofs.Common.{◌≡◌, ◌∙◌, Err, IfErr, sym, ap, subst, rules}
use Rattle.fr_base.specs.Sound.{FitsCluster}
use Rattle.fr_base.specs.declared.request.Change.TheVariants as change
use Rattle.fr_base.specs.declared.request.FrameChange.TheVariants.{Add, Place, AddSignal}
use Rattle.fr_world.specs.Drafts.{draft_data}
use Rattle.fr_world.specs.RowDecisions.{IsCheckedRow, make, make_frame, make_row}
use Rattle.fr_world.proofs.AmendLaws.{on_ok}
use Rattle.fr_world.proofs.DraftRows.{Refused, if_err, refused-so, frame-params, place-row, place-refused}
use Rattle.fr_world.proofs.decision.draft.Draft.make_row.Goals as goal

pub returns-in-AddFrame-clause-ok : goal.returns-in-AddFrame-clause-ok
unfolding make_row
returns-in-AddFrame-clause-ok c =
    let d = draft_data c.args.self.now in
    on_ok c.add_frame.result (λ is. ap (make_row d) c.in-AddFrame.is ∙ is) c.add_frame.ensures.ok

pub returns-in-AddFrame-clause-err : goal.returns-in-AddFrame-clause-err
unfolding make_row
returns-in-AddFrame-clause-err c =
    let d = draft_data c.args.self.now in
    if_err _ _ c.add_frame.result
    (refused-so (make d (change.Frame c.in-AddFrame.frame (Add c.in-AddFrame.node))) (make_row d c.args.row.now) (λ e is. ap (make_row d) c.in-AddFrame.is ∙ is))
    c.add_frame.ensures.err

pub returns-in_err-make_frame-in-Place-clause-err : goal.returns-in_err-make_frame-in-Place-clause-err
returns-in_err-make_frame-in-Place-clause-err c =
    let d = draft_data c.args.self.now in
    let e = c.in_err-make_frame-in-Place.field-0.0 in
    let same : c.from_residual.result ≡ Err e = search rules in
    subst (λ r. IfErr r (Refused (make_row d c.args.row.now))) (sym same)
    (refused-so (make_frame d c.in-Place.frame c.in-Place.node) (make_row d c.args.row.now)
    (λ e is. ap (make_row d) c.in-Place.is ∙ place-refused d c.in-Place.frame c.in-Place.node c.in-Place.placement e is) e c.in_err-make_frame-in-Place.ensures.err)

pub place-requires : goal.place-requires
place-requires c =
    let d = draft_data c.args.self.now in
    record {
      checked = subst (λ p. FitsCluster p c.in-Place.placement) (sym (frame-params d (draft_data c.make_frame.new.self) c.in-Place.frame c.in-Place.node c.in_ok-make_frame-in-Place.ensures.ok))
          (subst (IsCheckedRow d.page.params) c.in-Place.is c.requires.checked);
    }

pub returns-in_ok-make_frame-in-Place-clause-ok : goal.returns-in_ok-make_frame-in-Place-clause-ok
returns-in_ok-make_frame-in-Place-clause-ok c =
    let d = draft_data c.args.self.now in
    let m = draft_data c.make_frame.new.self in
    on_ok c.place.result
    (λ is. ap (make_row d) c.in-Place.is ∙ place-row d c.in-Place.frame c.in-Place.node c.in-Place.placement m c.in_ok-make_frame-in-Place.ensures.ok ∙ is)
    c.place.ensures.ok

pub returns-in_ok-make_frame-in-Place-clause-err : goal.returns-in_ok-make_frame-in-Place-clause-err
returns-in_ok-make_frame-in-Place-clause-err c =
    let d = draft_data c.args.self.now in
    let m = draft_data c.make_frame.new.self in
    if_err _ _ c.place.result
    (refused-so (make m (change.Frame c.in-Place.frame (Place c.in-Place.placement))) (make_row d c.args.row.now)
    (λ e is. ap (make_row d) c.in-Place.is ∙ place-row d c.in-Place.frame c.in-Place.node c.in-Place.placement m c.in_ok-make_frame-in-Place.ensures.ok ∙ is))
    c.place.ensures.err

pub returns-in-AddSignal-clause-ok : goal.returns-in-AddSignal-clause-ok
unfolding make_row
returns-in-AddSignal-clause-ok c =
    let d = draft_data c.args.self.now in
    on_ok c.add_signal.result (λ is. ap (make_row d) c.in-AddSignal.is ∙ is) c.add_signal.ensures.ok

pub returns-in-AddSignal-clause-err : goal.returns-in-AddSignal-clause-err
unfolding make_row
returns-in-AddSignal-clause-err c =
    let d = draft_data c.args.self.now in
    if_err _ _ c.add_signal.result
    (refused-so (make d (change.Frame c.in-AddSignal.frame (AddSignal c.in-AddSignal.signal))) (make_row d c.args.row.now) (λ e is. ap (make_row d) c.in-AddSignal.is ∙ is))
    c.add_signal.ensures.err
