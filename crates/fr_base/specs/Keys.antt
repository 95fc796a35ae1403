-- Orders of keys: names in byte order; a supplier, then a name of its own; a slot, then A before B; placements by slot,
-- channels, base, repetition, and the count of cycles, which all of a cluster have alike.
use Rattle.std.specs.Prelude.{◌≡◌, ℕ}
use Rattle.std.specs.Ordering.{nat_cmp}
use Rattle.std.specs.Cmp.{nat_cmp_total}
use Rattle.std.specs.Cmp.Lexicographic.{slice_cmp, nat_list_cmp_total}
use Rattle.std.specs.FinMap.{nat_cmp-IsAntisymmetric, slice_cmp-IsAntisymmetric}
use Rattle.fr_base.specs.Tables.{Order}
use Rattle.fr_base.specs.Orders.{by_number, by_key, pairs_by, same_channel, same_channels}
use Rattle.fr_base.specs.Channels.{channel_number, channels_number}
use Rattle.fr_base.specs.declared.channel.Channel.{Channel}
use Rattle.fr_base.specs.declared.channel.Channels.{Channels}
use Rattle.fr_base.specs.declared.placement.Placement.{Placement}
use Rattle.fr_base.specs.declared.name.Name.{Name}

-- numbers, the least first
unfoldable pub numbers : Order ℕ
numbers = record { compare = nat_cmp; total = nat_cmp_total; exact = nat_cmp-IsAntisymmetric }

-- names, in byte order
unfoldable pub names : Order Name
names = record { compare = slice_cmp nat_cmp; total = nat_list_cmp_total; exact = slice_cmp-IsAntisymmetric nat_cmp-IsAntisymmetric }

-- A before B
unfoldable pub channel_order : Order Channel
channel_order = by_number channel_number same_channel

-- A, then AB, then B
unfoldable pub channels_order : Order Channels
channels_order = by_number channels_number same_channels

-- a supplier, and a name of its own: of a node or of a frame, or the label of an import
unfoldable pub owned : Order (Name × Name)
owned = pairs_by names names

-- a slot, and then a channel
unfoldable pub channel_slots : Order (ℕ × Channel)
channel_slots = pairs_by numbers channel_order

-- a placement's slot, channels, base and repetition; then of how many cycles these are, which is the same for all of a cluster
abbrev pub placement_key : Placement → ℕ × (Channels × (ℕ × (ℕ × ℕ)))
placement_key q = (q.slot, (q.channels, (q.cycles.base, (q.cycles.repetition, q.cycles.count))))

-- two placements with the same ones are the same
pub same_placement : (x y : Placement) → placement_key x ≡ placement_key y → x ≡ y
same_placement x y e i = record { slot = (e i).0; channels = (e i).1.0; cycles = record { count = (e i).1.1.1.1; base = (e i).1.1.0; repetition = (e i).1.1.1.0 } }

-- placements by slot, channels, base and repetition, then by the count of cycles
unfoldable pub placement_order : Order Placement
unfolding numbers channels_order
placement_order = by_key placement_key same_placement (pairs_by numbers (pairs_by channels_order (pairs_by numbers (pairs_by numbers numbers))))
