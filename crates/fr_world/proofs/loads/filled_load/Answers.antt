use Rattle.std.proofs.Common.{◌∙◌, ◌++◌, [], ◌∷◌, map, ap, take_all, arith}
use Rattle.fr_base.specs.Load.{load_row}
use Rattle.fr_base.specs.Schedule.{fill}
use Rattle.fr_world.specs.Loads.{filled_load, grants_in_lanes, lane_of}
use Rattle.fr_world.proofs.LoadLaws.{lane-held, listed-lanes, map-next}
use Rattle.fr_world.proofs.loads.filled_load.Goals as goal

pub loop-lane-preserved : goal.loop-lane-preserved
loop-lane-preserved c =
    let grants = grants_in_lanes c.args.holders.now.entries in
    let lane = c.lane-item.result in
    map-next (λ k. load_row c.args.params.now grants (fill c.args.cells.now) (lane_of k)) c.deref-lane-items.result.now c.loop-lane.lane-index lane lane [] c.loop-lane.rows _ c.loop-lane-test.true c.lane-item.is c.loop-lane.invariant
    (c.in_ok-push.ensures.ok ∙ ap (λ row. c.loop-lane.rows ++ row ∷ []) (c.lane_row.ensures grants (c.copied-holder.ensures ∙ c.get.ensures.value ∙ lane-held c.args.holders.now.entries lane)))

pub returns : goal.returns
unfolding filled_load
returns c =
    let row = load_row c.args.params.now (grants_in_lanes c.args.holders.now.entries) (fill c.args.cells.now) in
    let lanes = c.deref-lane-items.result.now in
    c.loop-lane.invariant
    ∙ ap (map (λ k. row (lane_of k))) (take_all c.loop-lane.lane-index lanes (omega (arith, c.loop-lane-test.false)))
    ∙ listed-lanes row lanes _ (ap (map lane_of) c.deref-lane-items.ensures.value ∙ c.in_ok-lanes.ensures)
