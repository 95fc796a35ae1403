use Rattle.std.proofs.Common.{◌≡◌, ◌++◌, map, take}
use Rattle.fr_base.specs.Load.{lanes_in}
use Rattle.fr_world.specs.Loads.{lane_of}
use Rattle.fr_world.proofs.lanes.push_lanes.Given as goal

-- what was there, and those on the channels before
abbrev pub invariant-loop-channel : goal.invariant-loop-channel
invariant-loop-channel l = map lane_of l.lanes.items ≡ map lane_of l.fn.lanes.items ++ lanes_in (take l.channel-index l.channel-items) l.slot
