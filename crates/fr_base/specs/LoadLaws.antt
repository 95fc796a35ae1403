-- Laws of a load: a supplier's shows its own grants, each once and in order, and no other lane;
-- the integrator's shows each lane of the cluster once, in order, with its holder. Its used
-- cycles are counted in the variant's whole schedule.
use Rattle.std.specs.Prelude.{◌≡◌, ◌↔◌, ℕ, Bool, List, map, Option, Some, option_map, IsTrue, All, ⊤}
use Rattle.std.specs.Ordering.{is_eq}
use Rattle.std.specs.List.{count_by}
use Rattle.fr_base.specs.Tables.{Table, get, contains}
use Rattle.fr_base.specs.Keys.{channel_slots}
use Rattle.fr_base.specs.Cluster.{Cluster}
use Rattle.fr_base.specs.Book.{Holder, Variant, Book, own_grants}
use Rattle.fr_base.specs.Queries.{sendings_of}
use Rattle.fr_base.specs.Load.{lane_holder}
use Rattle.fr_base.specs.QueryLaws.{load_seen}
use Rattle.fr_base.specs.Sound.{HasChannelSlot, IsSound}
use Rattle.fr_base.specs.declared.channel.Channel.{Channel}
use Rattle.fr_base.specs.declared.name.Name.{Name}
use Rattle.fr_base.specs.declared.params.Params.{Params}
use Rattle.fr_base.specs.declared.answer.LaneHolder.{LaneHolder}
use Rattle.fr_base.specs.declared.answer.LoadRow.{LoadRow}
use Rattle.fr_base.specs.declared.answer.Sending.{Sending}
use Rattle.fr_base.specs.declared.actor.Actor.{Actor}
use Rattle.fr_base.specs.declared.actor.Actor.TheVariants.{Integrator, Supplier}

-- the lane of a row, with who holds it
abbrev pub lane_shown : LoadRow → (ℕ × Channel) × Option LaneHolder
lane_shown row = ((row.slot, row.channel), row.holder)

-- a grant's lane, with who holds it
abbrev pub grant_shown : (ℕ × Channel) × Holder → (ℕ × Channel) × Option LaneHolder
grant_shown e = (e.0, Some (lane_holder e.1))

-- In a sound book the load that a supplier sees has a row for each of its grants, in their order,
-- with its node, and no other row.
abbrev pub LoadShowsOwnLanes : Type 0
LoadShowsOwnLanes = (c : Cluster) (b : Book) (v : Name) (x : Variant) (s : Name) → IsSound c b →
    get b.variants v ≡ Some x →
    map lane_shown (load_seen c.params (Supplier s) x)
    ≡ map grant_shown (own_grants s x.grants).rows

-- the row has the holder that the grants name, or none
abbrev pub IsHeldSo : Table channel_slots Holder → LoadRow → Type 0
IsHeldSo grants row = row.holder ≡ option_map lane_holder (get grants (row.slot, row.channel))

-- The rows are those of a table by slot and channel, so each lane stands in them once and in
-- order; the lanes are those of the cluster; and each row has the holder that the grants name, or
-- none.
pub record IsEachLaneOnce (p : Params) (grants : Table channel_slots Holder)
    (rows : List LoadRow) : Type 0 where
  pub lanes : Table channel_slots ⊤
  pub in_order : map (λ row. ((row.slot, row.channel), tt)) rows ≡ lanes.rows
  pub each : (at : ℕ × Channel) → IsTrue (contains lanes at) ↔ HasChannelSlot p at
  pub holders : All (IsHeldSo grants) rows

-- The load that the integrator sees has a row for each lane of the cluster, free ones too, in
-- order, with its holder.
abbrev pub LoadShowsEachLane : Type 0
LoadShowsEachLane = (p : Params) (x : Variant) →
    IsEachLaneOnce p x.grants (load_seen p Integrator x)

-- whether a frame is sent in a row's lane
abbrev pub is_in_lane : LoadRow → Sending → Bool
is_in_lane row x = is_eq (channel_slots.compare (row.slot, row.channel) (x.slot, x.channel))

-- In a sound book the used cycles of each row that an actor sees are the rows of the variant's
-- whole schedule that lie in its lane.
abbrev pub LoadCountsTheSchedule : Type 0
LoadCountsTheSchedule = (c : Cluster) (b : Book) (v : Name) (x : Variant) (actor : Actor) →
    IsSound c b → get b.variants v ≡ Some x →
    All (λ row. row.used ≡ count_by (is_in_lane row) (sendings_of c.params x.frames))
    (load_seen c.params actor x)
