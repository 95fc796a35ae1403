use Rattle.std.proofs.Common.{ap, ◌∙◌}
use Rattle.fr_base.specs.declared.import.Row.TheVariants as row
use Rattle.fr_base.specs.declared.request.Change.TheVariants as change
use Rattle.fr_base.specs.declared.request.FrameChange.TheVariants.{AddSignal}
use Rattle.fr_world.specs.Drafts.{draft_data}
use Rattle.fr_world.specs.RowDecisions.{make, make_row}
use Rattle.fr_world.specs.Trials.{try_row}
use Rattle.fr_world.proofs.AmendLaws.{on_ok}
use Rattle.fr_world.proofs.DraftRows.{if_err, refused-so}
use Rattle.fr_world.proofs.TrialRows.{try-place, try-signal}
use Rattle.fr_world.proofs.decision.draft.Draft.try_row.Goals as goal

pub returns-in-Place-clause-ok : goal.returns-in-Place-clause-ok
returns-in-Place-clause-ok c =
    let d = draft_data c.args.self.now in
    on_ok c.try_place.result
    (λ is. ap (try_row c.args.how d) c.in-Place.is ∙ try-place d c.args.how c.in-Place.frame c.in-Place.node c.in-Place.placement ∙ is)
    c.try_place.ensures.ok

pub returns-in-Place-clause-err : goal.returns-in-Place-clause-err
returns-in-Place-clause-err c =
    let d = draft_data c.args.self.now in
    if_err _ _ c.try_place.result
    (refused-so (make_row d (row.Place c.in-Place.frame c.in-Place.node c.in-Place.placement)) (try_row c.args.how d c.args.row.now)
    (λ e is. ap (try_row c.args.how d) c.in-Place.is ∙ try-place d c.args.how c.in-Place.frame c.in-Place.node c.in-Place.placement ∙ is))
    c.try_place.ensures.err

pub returns-in-AddSignal-clause-ok : goal.returns-in-AddSignal-clause-ok
returns-in-AddSignal-clause-ok c =
    let d = draft_data c.args.self.now in
    on_ok c.add_signal.result
    (λ is. ap (try_row c.args.how d) c.in-AddSignal.is ∙ try-signal d c.args.how c.in-AddSignal.frame c.in-AddSignal.signal ∙ is)
    c.add_signal.ensures.ok

pub returns-in-AddSignal-clause-err : goal.returns-in-AddSignal-clause-err
returns-in-AddSignal-clause-err c =
    let d = draft_data c.args.self.now in
    if_err _ _ c.add_signal.result
    (refused-so (make d (change.Frame c.in-AddSignal.frame (AddSignal c.in-AddSignal.signal))) (try_row c.args.how d c.args.row.now)
    (λ e is. ap (try_row c.args.how d) c.in-AddSignal.is ∙ try-signal d c.args.how c.in-AddSignal.frame c.in-AddSignal.signal ∙ is))
    c.add_signal.ensures.err
