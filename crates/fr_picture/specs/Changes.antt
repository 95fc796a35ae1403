-- Changes: the rows in which a variant differs from another one. Which of them are drawn in a slot, and which in a lane.
use Rattle.std.specs.Prelude.{◌≡◌, ℕ, ◌+◌, ◌/◌, ◌<◌, nat_eq, Bool, false, ◌&&◌, ◌||◌, List, [], filter, slice_index_or, Option, Some, None, ◌∷◌, ◌++◌, if◌then◌else◌}
use Rattle.std.specs.List.{slice_get}
use Rattle.fr_base.specs.Channels.{has_channel}
use Rattle.fr_base.specs.declared.answer.DifferenceRow.{DifferenceRow}
use Rattle.fr_base.specs.declared.answer.SeenRow.{SeenRow}
use Rattle.fr_base.specs.declared.answer.SeenRow.TheVariants.{Grant, Frame, Placement, Signal, Gap}
use Rattle.fr_base.specs.declared.channel.Channel.{Channel}
use Rattle.fr_base.specs.declared.channel.Channel.TheVariants.{A, B}
use Rattle.fr_base.specs.declared.placement.Placement.{Placement as Placed}
use Rattle.fr_picture.specs.declared.changes.Changes.{Changes}
use Rattle.fr_picture.specs.declared.changes.SlotChanges.{SlotChanges}
use Rattle.fr_picture.specs.Places.{lane_of}

-- the rows of the changes; none where a page shows none
abbrev pub rows_of : Option Changes → List DifferenceRow
rows_of None = []
rows_of (Some changes) = changes.rows

-- the slot of a row that is drawn: of a grant or of a placement
unfoldable pub slot_of : SeenRow → Option ℕ
slot_of (Grant g) = Some g.slot
slot_of (Frame f) = None
slot_of (Placement frame q supplier) = Some q.slot
slot_of (Signal s) = None
slot_of (Gap g) = None

abbrev pub is_slot : Option ℕ → ℕ → Bool
is_slot None slot = false
is_slot (Some n) slot = nat_eq n slot

-- whether the row is drawn in the slot
abbrev pub is_of_slot : ℕ → DifferenceRow → Bool
is_of_slot slot d = is_slot (slot_of d.row) slot

-- of these rows those of the slot, in their order
unfoldable pub changed_in : ℕ → List DifferenceRow → List DifferenceRow
changed_in slot rows = filter (is_of_slot slot) rows

abbrev pub rows_in : Option SlotChanges → List DifferenceRow
rows_in None = []
rows_in (Some changes) = changes.rows.items

-- the rows that stand at the slot's place
unfoldable pub changes_at : List SlotChanges → ℕ → List DifferenceRow
changes_at slots slot = rows_in (slice_get slots slot)

-- at each slot's place stand those of the rows that are the slot's, in their order
abbrev pub AreBySlot : List DifferenceRow → List SlotChanges → Type 0
AreBySlot rows slots = (slot : ℕ) → slot < 1024 → changes_at slots slot ≡ changed_in slot rows

-- whether a frame with this placement is sent on the channel, whose lane is lane k
abbrev pub is_sent_in : ℕ → Placed → Channel → Bool
is_sent_in k q channel = has_channel q.channels channel && nat_eq (lane_of q.slot channel) k

-- whether a frame with this placement is sent in lane k
unfoldable pub is_placed_in : ℕ → Placed → Bool
is_placed_in k q = is_sent_in k q A || is_sent_in k q B

-- each slot has the rows that it had, and behind them those of these that are its own, in their order
abbrev pub AddsRows : List SlotChanges → List DifferenceRow → List SlotChanges → Type 0
AddsRows old rows new = (slot : ℕ) (v : SlotChanges) → slot < 1024
    → (slice_index_or new slot v).rows.items ≡ (slice_index_or old slot v).rows.items ++ changed_in slot rows

-- the slot n has the rows that it had, and behind them this one, and the others those that they had
abbrev pub AddsAt : List SlotChanges → ℕ → DifferenceRow → List SlotChanges → Type 0
AddsAt old n row new = (slot : ℕ) (v : SlotChanges) → slot < 1024
    → (slice_index_or new slot v).rows.items ≡ (slice_index_or old slot v).rows.items ++ (if nat_eq n slot then row ∷ [] else [])

-- whether the row is drawn in lane k
unfoldable pub is_in_lane : ℕ → SeenRow → Bool
is_in_lane k (Grant g) = nat_eq (lane_of g.slot g.channel) k
is_in_lane k (Frame f) = false
is_in_lane k (Placement frame q supplier) = is_placed_in k q
is_in_lane k (Signal s) = false
is_in_lane k (Gap g) = false

-- the rows that are drawn in lane k, which is one of the two of its slot
unfoldable pub lane_changes : List SlotChanges → ℕ → List DifferenceRow
lane_changes slots k = filter (λ d. is_in_lane k d.row) (changes_at slots (k / 2 + 1))
