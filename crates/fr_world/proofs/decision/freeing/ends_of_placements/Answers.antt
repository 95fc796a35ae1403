use Rattle.std.proofs.Common.{◌≡◌, ◌∙◌, ◌++◌, [], map, sym, ap, append-nil}
use Rattle.fr_base.specs.declared.request.FrameChange.TheVariants.{Unplace}
use Rattle.fr_world.specs.Pages.{frame_data}
use Rattle.fr_world.proofs.TriggeringLaws.{placements_in-keys}
use Rattle.fr_world.proofs.decision.freeing.ends_of_placements.Goals as goal

pub returns : goal.returns
returns c =
    let now = c.loop-placement.ends.items in
    let left : c.loop-placement.placement-iterator ≡ [] = c.in-None.ensures.steps.0 in
    sym (append-nil now) ∙ ap (λ qs. now ++ map Unplace qs) (sym left) ∙ c.loop-placement.invariant
    ∙ ap (map Unplace) (sym (placements_in-keys (frame_data c.args.frame.now) c.iter-placement-items.ensures.ordered))
