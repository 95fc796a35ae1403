use Rattle.std.proofs.Common.{◌≡◌, ◌∙◌, ◌++◌, [], sym, ap, append-nil}
use Rattle.fr_base.specs.declared.answer.FrameRow.{FrameRow}
use Rattle.fr_world.specs.Pages.{frame_data}
use Rattle.fr_world.proofs.TriggeringLaws.{placements_in-keys}
use Rattle.fr_world.proofs.frame_rows.frame_row.Goals as goal

pub returns : goal.returns
returns c =
    let now = c.loop-placement.placements in
    let left : c.loop-placement.placement-iterator ≡ [] = c.in-None.ensures.steps.0 in
    ap {B = FrameRow} (λ qs. record { frame = c.args.name; node = c.args.frame.now.node; supplier = c.args.supplier; placements = qs })
    (sym (append-nil now) ∙ ap (λ qs. now ++ qs) (sym left) ∙ c.loop-placement.invariant
    ∙ sym (placements_in-keys (frame_data c.args.frame.now) c.iter-placement-items.ensures.ordered))
