-- First places: which of a list of placements is the first that has a cell, noted by slot, cycle and channel.
use Rattle.std.specs.Prelude.{◌≡◌, ◌&&◌, ℕ, List, [], Option, Some, None, if◌then◌else◌, slice_index_or}
use Rattle.std.specs.List.{position}
use Rattle.std.specs.Option.{option_or}
use Rattle.fr_base.specs.Cells.{Cell, has_cell}
use Rattle.fr_base.specs.Channels.{has_channel}
use Rattle.fr_base.specs.Cycles.{has_cycle}
use Rattle.fr_base.specs.declared.channel.Channel.{Channel}
use Rattle.fr_base.specs.declared.channel.Channel.TheVariants as channel
use Rattle.fr_base.specs.declared.placement.Placement.{Placement}
use Rattle.fr_world.specs.declared.triggerings.FrameTriggering.{FrameTriggering}
use Rattle.fr_world.specs.declared.slot_table.FirstPlaces.{FirstPlaces}

-- the place that stands at a channel
abbrev pub place_on : Channel → FirstPlaces → Option ℕ
place_on channel.A f = f.a
place_on channel.B f = f.b

-- the places that stand at a cycle
abbrev pub places_at : List FirstPlaces → ℕ → FirstPlaces
places_at cycles k = slice_index_or cycles k (record { a = None; b = None })

-- the place that stands at a cycle and a channel
abbrev pub place_at : List FirstPlaces → ℕ → Channel → Option ℕ
place_at cycles k x = place_on x (places_at cycles k)

-- The later places are the earlier ones with a placement at this place: it gets those of its cells
-- that no placement had before.
abbrev pub IsClaimed : Placement → ℕ → List FirstPlaces → List FirstPlaces → Type 0
IsClaimed q place old new = (k : ℕ) (x : Channel) → place_at new k x ≡ option_or (place_at old k x) (if has_channel q.channels x && has_cycle q.cycles k then Some place else None)

-- the place of the first placement that has the cell
abbrev pub first_place : List FrameTriggering → Cell → Option ℕ
first_place triggerings c = position (λ p. has_cell p.placement c) triggerings

-- Each cell has the place of the first placement that has it. The places of each slot stand at its
-- number.
abbrev pub AreFirst : List FrameTriggering → List (List FirstPlaces) → Type 0
AreFirst triggerings tables = (c : Cell) → place_at (slice_index_or tables c.slot []) c.cycle c.channel ≡ first_place triggerings c
