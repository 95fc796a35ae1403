use Rattle.std.proofs.Common.{◌≡◌, ◌-◌, map}
use Rattle.std.specs.List.{flat_map, range_with_len}
use Rattle.fr_base.specs.Channels.{channels_in}
use Rattle.fr_base.specs.Load.{lanes_in}
use Rattle.fr_world.specs.Loads.{lane_of}
use Rattle.fr_world.proofs.lanes.lanes.Given as goal

-- those of the slots before
abbrev pub invariant-loop-number : goal.invariant-loop-number
invariant-loop-number l = map lane_of l.lanes.items ≡ flat_map (lanes_in (channels_in l.params.channels)) (range_with_len 1 (l.number - 1))
