-- Turns: wishes take their placements in turn: those on both channels come first, then those on A, then those on B; then the least repetition, then
-- the first line. Each takes the fittest place that is free beside what is there and what wishes before it took, or none where there is none.
use Rattle.std.specs.Prelude.{ℕ, ◌==◌, Bool, ◌&&◌, List, [], ◌∷◌, ◌++◌, filter, Option, Some, None, is_some}
use Rattle.std.specs.List.{filter_map, flat_map, list_all, range_with_len}
use Rattle.fr_base.specs.Channels.{channels_number}
use Rattle.fr_base.specs.Cycles.{is_repetition}
use Rattle.fr_base.specs.Fittest.{fittest}
use Rattle.fr_base.specs.declared.channel.Channels.{Channels}
use Rattle.fr_base.specs.declared.channel.Channels.TheVariants as channels
use Rattle.fr_base.specs.declared.name.Name.{Name}
use Rattle.fr_base.specs.declared.params.Params.{Params}
use Rattle.fr_base.specs.declared.placement.Placement.{Placement}
use Rattle.fr_base.specs.declared.proposal.Given.{Given}
use Rattle.fr_base.specs.declared.wish.Asked.{Asked}
use Rattle.fr_base.specs.declared.wish.Wish.{Wish}

-- ---- the order of turns

abbrev pub same_kind : Channels → Channels → Bool
same_kind cs ds = channels_number cs == channels_number ds

-- whether the wish is for these channels and this repetition
abbrev pub is_for : Channels → ℕ → Asked → Bool
is_for cs repetition asked = same_kind asked.wish.channels cs && (asked.wish.repetition == repetition)

-- the repetitions of a cluster, the least first
abbrev pub repetitions_of : Params → List ℕ
repetitions_of p = filter (is_repetition p.cycles) (range_with_len 1 p.cycles)

-- the wishes for these channels, by repetition, then line
unfoldable pub turns_on : Params → List Asked → Channels → List Asked
turns_on p wishes cs = flat_map (λ repetition. filter (is_for cs repetition) wishes) (repetitions_of p)

-- the wishes in turn: AB, A, B; then by repetition, then line
unfoldable pub in_turn : Params → List Asked → List Asked
in_turn p wishes = flat_map (turns_on p wishes) (channels.AB ∷ channels.A ∷ channels.B ∷ [])

-- ---- what they take

-- what is filled when the frame has this place too, if it is one
abbrev pub with_place : List (Name × Placement) → Name → Option Placement → List (Name × Placement)
with_place filled f None = filled
with_place filled f (Some q) = filled ++ (f, q) ∷ []

-- the fittest place for a wish, in these slots for each kind of channels
abbrev pub fittest_for : Params → (Channels → List ℕ) → List (Name × Placement) → Wish → Option Placement
fittest_for p slots filled wish = fittest p filled (slots wish.channels) wish.channels wish.repetition

-- the wishes take places one after the other
unfoldable pub take_places : Params → (Channels → List ℕ) → List (Name × Placement) → List Asked → List Given
take_places p slots filled [] = []
take_places p slots filled (asked ∷ rest) =
    let place = fittest_for p slots filled asked.wish in
    record { asked = asked; place = place } ∷ take_places p slots (with_place filled asked.wish.frame place) rest

-- what the wishes take in turn
unfoldable pub take_turns : Params → (Channels → List ℕ) → List (Name × Placement) → List Asked → List Given
take_turns p slots filled wishes = take_places p slots filled (in_turn p wishes)

-- ---- what was given

-- whether each wish has a placement
abbrev pub all_placed : List Given → Bool
all_placed given = list_all (λ g. is_some g.place) given

-- a frame with the place that its wish was given
abbrev pub filled_by : Given → Option (Name × Placement)
filled_by g = option_place g.asked.wish.frame g.place
  where
    option_place : Name → Option Placement → Option (Name × Placement)
    option_place f None = None
    option_place f (Some q) = Some (f, q)

-- the frames with the places that their wishes were given
abbrev pub places_given : List Given → List (Name × Placement)
places_given given = filter_map filled_by given
