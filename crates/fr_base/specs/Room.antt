-- Room: where a supplier's frame may still be placed with a repetition. It is refused where each placement of the frame
-- would be: the variant is released, the frame is not there, or it has all the placements that it may have. Else it is a
-- list of the cluster's placements with this repetition, by slot, channels and base: of those that lie in grants to the
-- frame's node, and of whose cells none is filled.
use Rattle.std.specs.Prelude.{ℕ, Bool, false, ◌&&◌, List, [], ◌∷◌, map, filter, nat_le, Option, is_none, Result, Ok, Err}
use Rattle.std.specs.Ordering.{is_eq}
use Rattle.std.specs.List.{flat_map, list_any, range_with_len}
use Rattle.fr_base.specs.Refusing.{◌>>=◌, ◌>>◌, ◌or◌, refuse◌when◌}
use Rattle.fr_base.specs.Tables.{Table, get, len}
use Rattle.fr_base.specs.Keys.{owned, channel_slots, placement_order}
use Rattle.fr_base.specs.Cells.{Cell, cells_of, slots_of}
use Rattle.fr_base.specs.Schedule.{first_taken}
use Rattle.fr_base.specs.Book.{Holder, Frame, Book, Sender, own, own_grants, granted, schedule_of}
use Rattle.fr_base.specs.declared.limits.TheConstants.{MAX_PLACEMENTS}
use Rattle.fr_base.specs.declared.channel.Channels.{Channels}
use Rattle.fr_base.specs.declared.channel.Channels.TheVariants as channels
use Rattle.fr_base.specs.declared.name.Name.{Name}
use Rattle.fr_base.specs.declared.params.Params.{Params}
use Rattle.fr_base.specs.declared.placement.Placement.{Placement}
use Rattle.fr_base.specs.declared.refusal.Refusal.{Refusal}
use Rattle.fr_base.specs.declared.refusal.Refusal.TheVariants.{NoVariant, Released, NoFrame, Limit}

-- on which channels a frame may be sent, where the cluster has these: A, AB, B
abbrev pub channels_within : Channels → List Channels
channels_within channels.A = channels.A ∷ []
channels_within channels.AB = channels.A ∷ channels.AB ∷ channels.B ∷ []
channels_within channels.B = channels.B ∷ []

-- the placement of the cluster in this slot, on these channels, with this repetition and base
abbrev pub placed : Params → ℕ → ℕ → Channels → ℕ → Placement
placed p repetition slot cs base =
    record { slot = slot; channels = cs; cycles = record { count = p.cycles; base = base; repetition = repetition } }

-- the placements with this repetition in a slot on some channels, by base
unfoldable pub places_on : Params → ℕ → ℕ → Channels → List Placement
places_on p repetition slot cs = map (placed p repetition slot cs) (range_with_len 0 repetition)

-- the placements with this repetition in a slot, by channels and base
unfoldable pub places_in : Params → ℕ → ℕ → List Placement
places_in p repetition slot = flat_map (places_on p repetition slot) (channels_within p.channels)

-- the placements of the cluster with this repetition, by slot, channels and base
unfoldable pub places_with : Params → ℕ → List Placement
places_with p repetition = flat_map (places_in p repetition) (slots_of p)

-- whether the supplier's node holds the placement's slot on its channels, and none of its cells is filled
unfoldable pub is_vacant : Table channel_slots Holder → (Cell → Option Sender) → Name → Name → Placement → Bool
is_vacant grants filled s node q = granted grants s node q && is_none (first_taken filled (cells_of q))

-- where the supplier's frame may be placed with this repetition, by these grants, these frames and
-- this schedule
unfoldable pub room : Params → Table channel_slots Holder → Table owned Frame → (Cell → Option Sender) → Name → Name → ℕ → Result (List Placement) Refusal
room p grants frames filled s f repetition = do
  frame ← get frames (s, f) or NoFrame
  refuse Limit when nat_le MAX_PLACEMENTS (len frame.placements)
  Ok (filter (is_vacant grants filled s frame.node) (places_with p repetition))

-- the room by the supplier's own grants and frames, as if no others were there
abbrev pub own_room : Params → Table channel_slots Holder → Table owned Frame → Name → Name → ℕ → Result (List Placement) Refusal
own_room p grants frames s f repetition = room p grants frames (schedule_of frames) s f repetition

-- the room in a variant of the book
unfoldable pub room_in : Params → Book → Name → Name → Name → ℕ → Result (List Placement) Refusal
room_in p b s v f repetition = do
  variant ← get b.variants v or NoVariant
  refuse Released when variant.released
  room p (own_grants s variant.grants) (own s variant.frames) (schedule_of variant.frames) s f repetition

-- whether there is room for this placement
abbrev pub has_place : Placement → Result (List Placement) Refusal → Bool
has_place q (Ok places) = list_any (λ place. is_eq (placement_order.compare q place)) places
has_place q (Err refusal) = false
