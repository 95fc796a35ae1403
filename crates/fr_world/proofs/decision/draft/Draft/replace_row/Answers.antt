use Rattle.std.proofs.Common.{◌≡◌, ◌∙◌, inl, inr, sym, ap}
use Rattle.fr_world.specs.Drafts.{draft_data}
use Rattle.fr_world.specs.RowDecisions.{make_frame, make_row}
use Rattle.fr_world.specs.ReplacementDecisions.{replace_row}
use Rattle.fr_world.proofs.AmendLaws.{on_ok}
use Rattle.fr_world.proofs.DraftRows.{if_err, refused-so}
use Rattle.fr_world.proofs.decision.draft.Draft.replace_row.Goals as goal

pub returns-in-AddFrame-clause-ok : goal.returns-in-AddFrame-clause-ok
unfolding replace_row
returns-in-AddFrame-clause-ok c =
    let d = draft_data c.args.self.now in
    on_ok c.make_frame.result (λ is. ap (replace_row d) c.in-AddFrame.is ∙ is) c.make_frame.ensures.ok

pub returns-in-AddFrame-clause-err : goal.returns-in-AddFrame-clause-err
unfolding replace_row
returns-in-AddFrame-clause-err c =
    let d = draft_data c.args.self.now in
    if_err _ _ c.make_frame.result
    (refused-so (make_frame d c.in-AddFrame.frame c.in-AddFrame.node) (replace_row d c.args.row.now) (λ e is. ap (replace_row d) c.in-AddFrame.is ∙ is))
    c.make_frame.ensures.err

pub returns-in-Place-clause-ok : goal.returns-in-Place-clause-ok
unfolding replace_row
returns-in-Place-clause-ok c =
    let d = draft_data c.args.self.now in
    let same : replace_row d c.args.row.now ≡ make_row d c.args.row.now = elim c.in-Place.is [
      | inl h ↦ ap (replace_row d) h.3 ∙ sym (ap (make_row d) h.3)
      | inr h ↦ ap (replace_row d) h.2 ∙ sym (ap (make_row d) h.2)
    ] in
    on_ok c.make_row.result (λ is. same ∙ is) c.make_row.ensures.ok

pub returns-in-Place-clause-err : goal.returns-in-Place-clause-err
unfolding replace_row
returns-in-Place-clause-err c =
    let d = draft_data c.args.self.now in
    let same : replace_row d c.args.row.now ≡ make_row d c.args.row.now = elim c.in-Place.is [
      | inl h ↦ ap (replace_row d) h.3 ∙ sym (ap (make_row d) h.3)
      | inr h ↦ ap (replace_row d) h.2 ∙ sym (ap (make_row d) h.2)
    ] in
    if_err _ _ c.make_row.result (refused-so (make_row d c.args.row.now) (replace_row d c.args.row.now) (λ e is. same ∙ is)) c.make_row.ensures.err
