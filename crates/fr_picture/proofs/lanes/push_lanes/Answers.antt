use Rattle.std.proofs.Common.{◌++◌, ◌∙◌, ap, arith}
use Rattle.std.specs.String.{string_bytes}
use Rattle.fr_picture.specs.Changes.{lane_changes}
use Rattle.fr_picture.specs.LaneTexts.{lane_text}
use Rattle.fr_picture.proofs.NumberLemmas.{text_step_from}
use Rattle.fr_picture.proofs.lanes.push_lanes.Goals as goal

pub loop-place-preserved : goal.loop-place-preserved
loop-place-preserved c =
    let lane = c.index-lanes-place.result in
    let place = c.loop-place.place in
    text_step_from 0 (λ k l. lane_text c.args.plan.now c.args.scale c.args.index.now (lane_changes c.args.slots.now k) l) c.args.lanes.now place place lane _ _ _
    (omega arith) c.loop-place-test.true c.index-lanes-place.is c.loop-place.invariant
    (c.in_ok-push_lane.ensures ∙ ap (λ rows. string_bytes c.loop-place.out ++ lane_text c.args.plan.now c.args.scale c.args.index.now rows lane) (c.as_slice.ensures.value ∙ c.in_ok-changed.ensures))
