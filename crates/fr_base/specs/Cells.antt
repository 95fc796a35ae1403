-- Cell: a cycle, a static slot and a channel. A placement has the cells of its slot, its channels and its cycles; a
-- cluster has those of its cycles, slots and channels. They come in order: by cycle, then slot, then A before B.
use Rattle.std.specs.Prelude.{ℕ, Bool, List, [], ◌∷◌, map}
use Rattle.std.specs.declared.cmp.Ordering.{Ordering}
use Rattle.std.specs.Ordering.{nat_cmp, is_eq, on, then_cmp}
use Rattle.std.specs.List.{flat_map, list_any, range_with_len}
use Rattle.fr_base.specs.Cycles.{all_cycles, cycles_of}
use Rattle.fr_base.specs.Channels.{channel_number, channels_in}
use Rattle.fr_base.specs.declared.channel.Channel.{Channel}
use Rattle.fr_base.specs.declared.params.Params.{Params}
use Rattle.fr_base.specs.declared.placement.Placement.{Placement}

-- what at most one frame may fill: a cycle, a static slot and a channel
pub record Cell : Type 0 where
  pub cycle : ℕ
  pub slot : ℕ
  pub channel : Channel

-- by cycle, then slot, then A before B
abbrev pub cell_cmp : Cell → Cell → Ordering
cell_cmp = then_cmp (on (λ c. c.cycle) nat_cmp) (then_cmp (on (λ c. c.slot) nat_cmp) (on (λ c. channel_number c.channel) nat_cmp))

abbrev pub same_cell : Cell → Cell → Bool
same_cell c d = is_eq (cell_cmp c d)

-- the cells of these cycles, slots and channels, in order
abbrev pub cells_in : List ℕ → List ℕ → List Channel → List Cell
cells_in cycles slots channels =
    flat_map (λ cycle. flat_map (λ slot. map (λ channel. record { cycle = cycle; slot = slot; channel = channel }) channels) slots) cycles

-- the cells of a placement: its slot, each of its channels, each of its cycles
unfoldable pub cells_of : Placement → List Cell
cells_of q = cells_in (cycles_of q.cycles) (q.slot ∷ []) (channels_in q.channels)

-- whether the placement has the cell
unfoldable pub has_cell : Placement → Cell → Bool
has_cell q c = list_any (same_cell c) (cells_of q)

-- the static slots of a cluster, numbered from 1
abbrev pub slots_of : Params → List ℕ
slots_of p = range_with_len 1 p.static_slots

-- all cells of a cluster
unfoldable pub cluster_cells : Params → List Cell
cluster_cells p = cells_in (all_cycles p.cycles) (slots_of p) (channels_in p.channels)
