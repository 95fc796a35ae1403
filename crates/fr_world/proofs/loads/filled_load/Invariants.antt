use Rattle.std.proofs.Common.{◌≡◌, map, take}
use Rattle.fr_base.specs.Load.{load_row}
use Rattle.fr_base.specs.Schedule.{fill}
use Rattle.fr_world.specs.Loads.{grants_in_lanes, lane_of}
use Rattle.fr_world.proofs.loads.filled_load.Given as goal

-- the rows of the lanes before
abbrev pub invariant-loop-lane : goal.invariant-loop-lane
invariant-loop-lane l = l.rows ≡ map (λ k. load_row l.params (grants_in_lanes l.holders.entries) (fill l.cells) (lane_of k)) (take l.lane-index l.lane-items)
