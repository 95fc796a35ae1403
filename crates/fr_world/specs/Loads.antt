-- Load: how full lanes are, where placements fill cells in turn. Lanes and their holders as the code keeps them.
use Rattle.std.specs.Prelude.{ℕ, List, map}
use Rattle.fr_base.specs.Book.{Holder}
use Rattle.fr_base.specs.Keys.{channel_slots}
use Rattle.fr_base.specs.Load.{lanes_of, load_row}
use Rattle.fr_base.specs.Schedule.{fill}
use Rattle.fr_base.specs.Tables.{Table}
use Rattle.fr_base.specs.declared.answer.LaneHolder.{LaneHolder}
use Rattle.fr_base.specs.declared.answer.LoadRow.{LoadRow}
use Rattle.fr_base.specs.declared.channel.Channel.{Channel}
use Rattle.fr_base.specs.declared.params.Params.{Params}
use Rattle.fr_base.specs.declared.placement.Placement.{Placement}
use Rattle.fr_world.specs.Maps.{table_of}
use Rattle.fr_world.specs.declared.page.ChannelSlot.{ChannelSlot}

-- a lane as a slot and a channel
abbrev pub lane_of : ChannelSlot → ℕ × Channel
lane_of k = (k.slot, k.channel)

-- who holds a lane
abbrev pub holder_in : LaneHolder → Holder
holder_in h = record { supplier = h.supplier; node = h.node }

-- the grants that a map of lanes and holders stands for
abbrev pub grants_in_lanes : List (ChannelSlot × LaneHolder) → Table channel_slots Holder
grants_in_lanes es = table_of channel_slots lane_of holder_in es

-- how full each lane of the cluster is, by these grants, where owners fill cells with these
-- placements
unfoldable pub filled_load : {O : Type 0} → Params → Table channel_slots Holder → List (O × Placement) → List LoadRow
filled_load p grants placed = map (load_row p grants (fill placed)) (lanes_of p)
