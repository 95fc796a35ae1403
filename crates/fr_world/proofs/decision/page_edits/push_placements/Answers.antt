use Rattle.std.proofs.Common.{◌≡◌, ◌∙◌, ◌++◌, [], Bool, not, map, filter, sym, ap, append-nil}
use Rattle.fr_base.specs.declared.placement.Placement.{Placement}
use Rattle.fr_base.specs.declared.request.FrameChange.TheVariants.{Place}
use Rattle.fr_world.specs.PageEdits.{has_place, lent_frame}
use Rattle.fr_world.specs.Pages.{frame_data}
use Rattle.fr_world.proofs.TriggeringLaws.{placements_in-keys}
use Rattle.fr_world.proofs.decision.page_edits.push_placements.Goals as goal

pub returns : goal.returns
returns c =
    let lacks : Placement → Bool = λ q. not (has_place (lent_frame c.args.other) q) in
    let now = c.loop-placement.changes.items in
    let left : c.loop-placement.placement-iterator ≡ [] = c.in-None.ensures.steps.0 in
    sym (append-nil now) ∙ ap (λ qs. now ++ map Place (filter lacks qs)) (sym left) ∙ c.loop-placement.invariant
    ∙ ap (λ qs. c.args.changes.now.items ++ map Place (filter lacks qs)) (sym (placements_in-keys (frame_data c.args.frame.now) c.iter-placement-items.ensures.ordered))
