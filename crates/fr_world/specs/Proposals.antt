-- Proposal by words of filled cycles: which sets of cycles are empty in a word, what the code's rated places and rooms stand for, and how a plan
-- grows as wishes take places.
use Rattle.std.specs.Prelude.{◌≡◌, ◌==◌, ℕ, ◌%◌, if◌then◌else◌, Bool, List, map, filter, Option, is_none, option_map}
use Rattle.std.specs.List.{count_by, find}
use Rattle.fr_base.specs.Cycles.{Cycles, cycles_of, is_bit_set}
use Rattle.fr_base.specs.Fittest.{Rated, divisors_below, is_free, least, rated, rated_cmp}
use Rattle.fr_base.specs.Room.{places_on}
use Rattle.fr_base.specs.declared.channel.Channels.{Channels}
use Rattle.fr_base.specs.declared.name.Name.{Name}
use Rattle.fr_base.specs.declared.params.Params.{Params}
use Rattle.fr_base.specs.declared.placement.Placement.{Placement}
use Rattle.fr_world.specs.declared.proposal.fit.RatedPlace.{RatedPlace}
use Rattle.fr_world.specs.declared.proposal.rooms.Room.{Room}
use Rattle.fr_world.specs.declared.proposal.rooms.Rooms.{Rooms}

-- ---- words

-- the cycles of a base and a repetition, of the cluster's
abbrev pub cycles_with : Params → ℕ → ℕ → Cycles
cycles_with p base repetition = record { count = p.cycles; base = base; repetition = repetition }

-- whether none of the cycles is set in the word
abbrev pub is_empty : ℕ → Cycles → Bool
is_empty word s = is_none (find (is_bit_set word) (cycles_of s))

-- how many repetitions below this one a place of this base breaks, by the word
abbrev pub broken_by : Params → ℕ → ℕ → ℕ → ℕ
broken_by p word repetition base = count_by (λ d. is_empty word (cycles_with p (base % d) d)) (divisors_below repetition)

-- ---- places

abbrev pub rated_of : RatedPlace → Rated
rated_of r = record { place = r.place; together = r.breaks.together; apart = r.breaks.apart }

-- the free places in one slot, and the fittest of them
abbrev pub places_left : Params → List (Name × Placement) → ℕ → Channels → ℕ → List Placement
places_left p filled slot cs repetition = filter (is_free filled) (places_on p repetition slot cs)

unfoldable pub fittest_in : Params → List (Name × Placement) → Channels → ℕ → ℕ → Option Rated
fittest_in p filled cs repetition slot = least rated_cmp (map (rated filled) (places_left p filled slot cs repetition))

-- what a room stands for: a slot, and the fittest place in it
abbrev pub room_of : Room → ℕ × Option Rated
room_of room = (room.slot, option_map rated_of room.fittest)

-- The rooms are of these slots, beside what is filled.
abbrev pub AreRooms : Params → List (Name × Placement) → Channels → ℕ → List ℕ → List Room → Type 0
AreRooms p filled cs repetition slots rooms = map room_of rooms ≡ map (λ slot. (slot, fittest_in p filled cs repetition slot)) slots

abbrev pub ShowRooms : Rooms → List (Name × Placement) → List ℕ → Type 0
ShowRooms rooms filled slots = AreRooms rooms.params filled rooms.kind.channels rooms.kind.repetition slots rooms.rooms.items

-- the fresh room, if it is of the same slot, or else the room
abbrev pub renewed_room : Room → Room → Room
renewed_room fresh room = if room.slot == fresh.slot then fresh else room
