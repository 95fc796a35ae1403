use Rattle.std.proofs.Common.{ap, ◌∙◌}
use Rattle.fr_base.specs.declared.import.Row.TheVariants as row
use Rattle.fr_base.specs.declared.request.Change.TheVariants as change
use Rattle.fr_base.specs.declared.request.FrameChange.TheVariants.{Add}
use Rattle.fr_world.specs.Drafts.{draft_data}
use Rattle.fr_world.specs.RowDecisions.{make, make_frame}
use Rattle.fr_world.specs.Trials.{try_row}
use Rattle.fr_world.proofs.AmendLaws.{on_ok}
use Rattle.fr_world.proofs.DraftRows.{if_err, refused-so}
use Rattle.fr_world.proofs.TrialRows.{try-add, try-frame}
use Rattle.fr_world.proofs.decision.draft.Draft.try_frame.Goals as goal

pub returns-in-Replace-clause-ok : goal.returns-in-Replace-clause-ok
returns-in-Replace-clause-ok c =
    let d = draft_data c.args.self.now in
    let f = c.args.frame in
    let n = c.args.node in
    on_ok c.make_frame.result (λ is. ap (λ b. try_row b d (row.AddFrame f n)) c.in-Replace.is ∙ try-frame d c.in-Replace.whole f n ∙ is) c.make_frame.ensures.ok

pub returns-in-Replace-clause-err : goal.returns-in-Replace-clause-err
returns-in-Replace-clause-err c =
    let d = draft_data c.args.self.now in
    let f = c.args.frame in
    let n = c.args.node in
    if_err _ _ c.make_frame.result
    (refused-so (make_frame d f n) (try_row c.args.how d (row.AddFrame f n)) (λ e is. ap (λ b. try_row b d (row.AddFrame f n)) c.in-Replace.is ∙ try-frame d c.in-Replace.whole f n ∙ is))
    c.make_frame.ensures.err

pub returns-in-Import-clause-ok : goal.returns-in-Import-clause-ok
returns-in-Import-clause-ok c =
    let d = draft_data c.args.self.now in
    let f = c.args.frame in
    let n = c.args.node in
    on_ok c.add_frame.result (λ is. ap (λ b. try_row b d (row.AddFrame f n)) c.in-Import.is ∙ try-add d f n ∙ is) c.add_frame.ensures.ok

pub returns-in-Import-clause-err : goal.returns-in-Import-clause-err
returns-in-Import-clause-err c =
    let d = draft_data c.args.self.now in
    let f = c.args.frame in
    let n = c.args.node in
    if_err _ _ c.add_frame.result
    (refused-so (make d (change.Frame f (Add n))) (try_row c.args.how d (row.AddFrame f n)) (λ e is. ap (λ b. try_row b d (row.AddFrame f n)) c.in-Import.is ∙ try-add d f n ∙ is))
    c.add_frame.ensures.err
