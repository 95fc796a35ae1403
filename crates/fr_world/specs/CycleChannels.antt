-- How the code compares filled cells of one slot: by their cycles and channels, the earlier one first.
use Rattle.std.specs.Prelude.{Option, Some, None}
use Rattle.std.specs.declared.cmp.Ordering.{Ordering}
use Rattle.std.specs.Ordering.{min_by_ordering}
use Rattle.fr_base.specs.Cells.{Cell}
use Rattle.fr_base.specs.Keys.{channel_slots}
use Rattle.fr_base.specs.declared.name.Name.{Name}
use Rattle.fr_world.specs.declared.cycle_channel.CycleChannel.{CycleChannel}
use Rattle.fr_world.specs.declared.row_occupancy.Taken.{Taken}

-- a cell's cycle and channel
abbrev pub cycle_channel : Cell → CycleChannel
cycle_channel c = record { cycle = c.cycle; channel = c.channel }

-- a filled cell, with the name of the frame that is sent there
abbrev pub taken_of : Cell × Name → Taken
taken_of e = record { at = cycle_channel e.0; frame = e.1 }

-- by cycle, then A before B
abbrev pub compare_cycle_channels : CycleChannel → CycleChannel → Ordering
compare_cycle_channels x y = channel_slots.compare (x.cycle, x.channel) (y.cycle, y.channel)

-- the first one if it is there and not after the second; else the second
abbrev pub lesser : {X : Type 0} → (X → X → Ordering) → Option X → Option X → Option X
lesser cmp None y = y
lesser cmp (Some x) None = Some x
lesser cmp (Some x) (Some y) = Some (min_by_ordering (cmp x y) x y)

-- the one whose cell comes first; the former where both are of one cell
abbrev pub earlier : Option Taken → Option Taken → Option Taken
earlier = lesser (λ x y. compare_cycle_channels x.at y.at)
