use Rattle.std.proofs.Common.{◌≡◌, ◌∙◌, ◌++◌, [], sym, ap, map, append-nil}
use Rattle.fr_world.specs.Pages.{frame_data}
use Rattle.fr_world.specs.Sendings.{sent_by}
use Rattle.fr_world.proofs.TriggeringLaws.{placements_in-keys}
use Rattle.fr_world.proofs.triggerings.push_placements.Goals as goal

pub returns : goal.returns
returns c =
    let now = c.loop-placement.triggerings.items in
    let left : c.loop-placement.placement-iterator ≡ [] = (c.in-None.ensures).steps.0 in
    sym (append-nil now)
    ∙ ap (λ qs. now ++ map (sent_by c.args.sender) qs) (sym left)
    ∙ c.loop-placement.invariant.0
    ∙ ap (λ qs. c.args.triggerings.now.items ++ map (sent_by c.args.sender) qs) (sym (placements_in-keys (frame_data c.args.frame.now) c.iter-placement-items.ensures.ordered))
