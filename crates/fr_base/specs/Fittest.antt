-- Fittest: which of the free places of a wish is the fittest. A placement breaks, on some channels, each repetition below its own that divides it and whose cells
-- there, those of its slot in the cycles of this repetition and of its base by it, are all empty. The fittest breaks fewest on its channels together; of these
-- fewest on each of them by itself, added up; of these it is the first by slot, then base.
use Rattle.std.specs.Prelude.{ℕ, ◌-◌, ◌%◌, Bool, List, [], ◌∷◌, map, filter, Option, Some, None, option_map, is_none}
use Rattle.std.specs.declared.cmp.Ordering.{Ordering}
use Rattle.std.specs.Ordering.{nat_cmp, on, then_cmp, min_by_ordering}
use Rattle.std.specs.List.{count_by, flat_map, range_with_len, sum_by}
use Rattle.fr_base.specs.Cells.{cells_of}
use Rattle.fr_base.specs.Channels.{channels_in}
use Rattle.fr_base.specs.Cycles.{is_repetition}
use Rattle.fr_base.specs.Schedule.{fill, first_taken}
use Rattle.fr_base.specs.Room.{places_on}
use Rattle.fr_base.specs.declared.channel.Channel.{Channel}
use Rattle.fr_base.specs.declared.channel.Channel.TheVariants as channel
use Rattle.fr_base.specs.declared.channel.Channels.{Channels}
use Rattle.fr_base.specs.declared.channel.Channels.TheVariants as channels
use Rattle.fr_base.specs.declared.name.Name.{Name}
use Rattle.fr_base.specs.declared.params.Params.{Params}
use Rattle.fr_base.specs.declared.placement.Placement.{Placement}

-- ---- the least of a list

-- the first one if it is there and not after the second; else the second
abbrev pub lesser : {X : Type 0} → (X → X → Ordering) → Option X → Option X → Option X
lesser cmp None y = y
lesser cmp (Some x) None = Some x
lesser cmp (Some x) (Some y) = Some (min_by_ordering (cmp x y) x y)

-- the least; of those that tie the first
unfoldable pub least : {X : Type 0} → (X → X → Ordering) → List X → Option X
least cmp [] = None
least cmp (x ∷ xs) = lesser cmp (Some x) (least cmp xs)

-- ---- what is free

-- whether the frames with these placements leave all of the placement's cells empty
unfoldable pub is_free : List (Name × Placement) → Placement → Bool
is_free filled q = is_none (first_taken (fill filled) (cells_of q))

-- the free places with this repetition in these slots on these channels, by slot, then base
unfoldable pub free_places : Params → List (Name × Placement) → List ℕ → Channels → ℕ → List Placement
free_places p filled slots cs repetition = flat_map (λ slot. filter (is_free filled) (places_on p repetition slot cs)) slots

-- ---- what a placement breaks

-- the numbers below a repetition that divide it
abbrev pub divisors_below : ℕ → List ℕ
divisors_below repetition = filter (is_repetition repetition) (range_with_len 1 (repetition - 1))

-- the placement in the same slot, on the same channels, with this repetition and the base by it
abbrev pub coarser : Placement → ℕ → Placement
coarser q d = record q { cycles = record { count = q.cycles.count; base = q.cycles.base % d; repetition = d } }

-- how many repetitions the placement breaks
unfoldable pub broken : List (Name × Placement) → Placement → ℕ
broken filled q = count_by (λ d. is_free filled (coarser q d)) (divisors_below q.cycles.repetition)

-- a channel alone
abbrev pub alone : Channel → Channels
alone channel.A = channels.A
alone channel.B = channels.B

-- the placement on this channel alone
abbrev pub on_channel : Placement → Channel → Placement
on_channel q c = record q { channels = alone c }

-- a placement, and how many repetitions it breaks: on its channels together, and on each of them by itself, added up
pub record Rated : Type 0 where
  pub place : Placement
  pub together : ℕ
  pub apart : ℕ

unfoldable pub rated : List (Name × Placement) → Placement → Rated
rated filled q = record { place = q; together = broken filled q; apart = sum_by (λ c. broken filled (on_channel q c)) (channels_in q.channels) }

-- by what is broken together, then by what is broken on each channel by itself
abbrev pub rated_cmp : Rated → Rated → Ordering
rated_cmp = then_cmp (on (λ x. x.together) nat_cmp) (on (λ x. x.apart) nat_cmp)

-- the fittest of these places
unfoldable pub fittest_of : List (Name × Placement) → List Placement → Option Placement
fittest_of filled places = option_map (λ x. x.place) (least rated_cmp (map (rated filled) places))

-- the fittest free place with this repetition in these slots on these channels
unfoldable pub fittest : Params → List (Name × Placement) → List ℕ → Channels → ℕ → Option Placement
fittest p filled slots cs repetition = fittest_of filled (free_places p filled slots cs repetition)
