use Rattle.std.proofs.Common.{◌≡◌, ◌∙◌, true, false, Some, None, inr, sym, rules, tests}
use Rattle.fr_base.specs.Names.{same_text}
use Rattle.fr_base.specs.Tables.{get}
use Rattle.fr_base.specs.declared.request.Change.TheVariants as change
use Rattle.fr_base.specs.declared.request.FrameChange.TheVariants.{Add}
use Rattle.fr_world.specs.Drafts.{draft_data}
use Rattle.fr_world.specs.Pages.{frame_data, frame_of}
use Rattle.fr_world.specs.RowDecisions.{make, make_frame}
use Rattle.fr_world.proofs.AmendLaws.{on_ok}
use Rattle.fr_world.proofs.DraftRows.{if_err, refused-so, frame-no_node, frame-same, frame-differs, frame-added}
use Rattle.fr_world.proofs.decision.draft.Draft.make_frame.Goals as goal

pub returns-then-not-has_node-clause-err : goal.returns-then-not-has_node-clause-err
returns-then-not-has_node-clause-err c =
    inr (frame-no_node (draft_data c.args.self.now) c.args.frame c.args.node (sym c.has_node.ensures ∙ c.if-not-has_node.true))

pub returns-in-Some-clause-ok : goal.returns-in-Some-clause-ok
returns-in-Some-clause-ok c =
    let d = draft_data c.args.self.now in
    let frame = frame_of (frame_data c.in-Some.row.now) in
    let found : get d.page.frames (d.page.supplier, c.args.frame) ≡ Some frame = search (rules, tests) in
    let same : same_text frame.node c.args.node ≡ true = search (rules, tests) in
    frame-same d c.args.frame c.args.node (sym c.has_node.ensures ∙ c.if-not-has_node.false) frame found same

pub returns-in-Some-2-clause-err : goal.returns-in-Some-2-clause-err
returns-in-Some-2-clause-err c =
    let d = draft_data c.args.self.now in
    let frame = frame_of (frame_data c.in-Some.row.now) in
    let found : get d.page.frames (d.page.supplier, c.args.frame) ≡ Some frame = search (rules, tests) in
    let other : same_text frame.node c.args.node ≡ false = search (rules, tests) in
    inr (frame-differs d c.args.frame c.args.node (sym c.has_node.ensures ∙ c.if-not-has_node.false) frame found other)

pub returns-in-None-clause-ok : goal.returns-in-None-clause-ok
returns-in-None-clause-ok c =
    let d = draft_data c.args.self.now in
    let none : get d.page.frames (d.page.supplier, c.args.frame) ≡ None = search (rules, tests) in
    on_ok c.add_frame.result (λ is. frame-added d c.args.frame c.args.node (sym c.has_node.ensures ∙ c.if-not-has_node.false) none ∙ is) c.add_frame.ensures.ok

pub returns-in-None-clause-err : goal.returns-in-None-clause-err
returns-in-None-clause-err c =
    let d = draft_data c.args.self.now in
    let none : get d.page.frames (d.page.supplier, c.args.frame) ≡ None = search (rules, tests) in
    if_err _ _ c.add_frame.result
    (refused-so (make d (change.Frame c.args.frame (Add c.args.node))) (make_frame d c.args.frame c.args.node) (λ e is. frame-added d c.args.frame c.args.node (sym c.has_node.ensures ∙ c.if-not-has_node.false) none ∙ is))
    c.add_frame.ensures.err
