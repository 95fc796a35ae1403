-- Load: how full each lane is, by the grants and the frames that an actor sees. A lane is a slot and a channel of the
-- cluster. There is a row for each lane, for a supplier for each that is granted to it: in how many cycles the frames'
-- schedule has a frame there, how many cycles there are, and who holds the lane, if it is granted.
use Rattle.std.specs.Prelude.{ℕ, List, map, filter, Option, is_some, option_map}
use Rattle.std.specs.List.{count_by, flat_map, sum_by}
use Rattle.fr_base.specs.Tables.{Table, get, contains}
use Rattle.fr_base.specs.Keys.{owned, channel_slots}
use Rattle.fr_base.specs.Cells.{Cell, slots_of}
use Rattle.fr_base.specs.Channels.{channels_in}
use Rattle.fr_base.specs.Cycles.{all_cycles}
use Rattle.fr_base.specs.Book.{Holder, Frame, schedule_of}
use Rattle.fr_base.specs.declared.channel.Channel.{Channel}
use Rattle.fr_base.specs.declared.params.Params.{Params}
use Rattle.fr_base.specs.declared.answer.LaneHolder.{LaneHolder}
use Rattle.fr_base.specs.declared.answer.LoadRow.{LoadRow}
use Rattle.fr_base.specs.declared.actor.Actor.{Actor}
use Rattle.fr_base.specs.declared.actor.Actor.TheVariants.{Integrator, Supplier}

-- the lanes of a slot, on these channels
abbrev pub lanes_in : List Channel → ℕ → List (ℕ × Channel)
lanes_in channels slot = map (λ channel. (slot, channel)) channels

-- the lanes of a cluster, by slot, then channel
unfoldable pub lanes_of : Params → List (ℕ × Channel)
lanes_of p = flat_map (lanes_in (channels_in p.channels)) (slots_of p)

-- the lanes that a load shows the actor: a supplier the lanes that are granted to it, the
-- integrator all
unfoldable pub seen_lanes : Params → Actor → Table channel_slots Holder → List (ℕ × Channel)
seen_lanes p Integrator grants = lanes_of p
seen_lanes p (Supplier s) grants = filter (contains grants) (lanes_of p)

-- the lane's cell in a cycle
abbrev pub lane_cell : ℕ × Channel → ℕ → Cell
lane_cell lane cycle = record { cycle = cycle; slot = lane.0; channel = lane.1 }

-- in how many cycles the lane is filled
unfoldable pub used_cycles : {O : Type 0} → Params → (Cell → Option O) → ℕ × Channel → ℕ
used_cycles p filled lane = count_by (λ cycle. is_some (filled (lane_cell lane cycle))) (all_cycles p.cycles)

abbrev pub lane_holder : Holder → LaneHolder
lane_holder h = record { node = h.node; supplier = h.supplier }

-- the row of a lane, with its used cycles in this schedule and its holder among these grants
unfoldable pub load_row : {O : Type 0} → Params → Table channel_slots Holder → (Cell → Option O) → ℕ × Channel → LoadRow
load_row p grants filled lane = record {
  slot = lane.0;
  channel = lane.1;
  used = used_cycles p filled lane;
  cycles = p.cycles;
  holder = option_map lane_holder (get grants lane);
}

-- the load of the grants and the frames that the actor sees
unfoldable pub load_of : Params → Actor → Table channel_slots Holder → Table owned Frame → List LoadRow
load_of p actor grants frames = map (load_row p grants (schedule_of frames)) (seen_lanes p actor grants)

-- the sum of the used cycles of all rows
abbrev pub all_used : List LoadRow → ℕ
all_used rows = sum_by (λ row. row.used) rows
