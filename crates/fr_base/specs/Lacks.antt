-- Lacks: how many slots a node lacks on some channels: the least number of slots, empty in all cycles, in which its wishes without a placement,
-- in turn, take one each.
use Rattle.std.specs.Prelude.{ℕ, suc, Bool, ◌&&◌, List, [], ◌∷◌, ◌++◌, length, map, filter, find, Option, Some, None, is_none, option_map}
use Rattle.std.specs.Option.{unwrap_or}
use Rattle.std.specs.List.{filter_map, flat_map, range_with_len}
use Rattle.fr_base.specs.Names.{same_text}
use Rattle.fr_base.specs.Room.{placed}
use Rattle.fr_base.specs.Turns.{same_kind, fittest_for, in_turn, take_turns, all_placed}
use Rattle.fr_base.specs.declared.channel.Channels.{Channels}
use Rattle.fr_base.specs.declared.channel.Channels.TheVariants as channels
use Rattle.fr_base.specs.declared.name.Name.{Name}
use Rattle.fr_base.specs.declared.params.Params.{Params}
use Rattle.fr_base.specs.declared.placement.Placement.{Placement}
use Rattle.fr_base.specs.declared.proposal.Given.{Given}
use Rattle.fr_base.specs.declared.proposal.LackRow.{LackRow}
use Rattle.fr_base.specs.declared.wish.Asked.{Asked}

-- whether a wish of the node for these channels has no placement
abbrev pub is_short : Name → Channels → Given → Bool
is_short n cs given = (same_text given.asked.wish.node n && same_kind given.asked.wish.channels cs) && is_none given.place

-- the node's wishes for these channels without a placement
unfoldable pub short_wishes : List Given → Name → Channels → List Asked
short_wishes given n cs = map (λ g. g.asked) (filter (is_short n cs) given)

-- whether the wishes, in turn, take a placement each in so many empty slots
unfoldable pub fill_up : Params → List Asked → ℕ → Bool
fill_up p wishes slots = all_placed (take_turns p (λ cs. range_with_len 1 slots) [] wishes)

-- the least number of empty slots in which they do, which is at most one for each; none is told where there is no wish
unfoldable pub slots_lacking : Params → List Asked → Option ℕ
slots_lacking p wishes = find (fill_up p wishes) (range_with_len 1 (length (in_turn p wishes)))

-- so many slots, and one more where none of them had a place
abbrev pub slots_with : ℕ → Option Placement → ℕ
slots_with slots None = suc slots
slots_with slots (Some q) = slots

-- the same number, where a slot is added for each wish, in turn, that has no place in those before: it takes the first place of the new one
unfoldable pub open_slots : Params → ℕ → List (Name × Placement) → List Asked → ℕ
open_slots p slots filled [] = slots
open_slots p slots filled (asked ∷ rest) =
    let place = fittest_for p (λ cs. range_with_len 1 slots) filled asked.wish in
    let taken = unwrap_or place (placed p asked.wish.repetition (suc slots) asked.wish.channels 0) in
    open_slots p (slots_with slots place) (filled ++ (asked.wish.frame, taken) ∷ []) rest

-- the row of what the node lacks on these channels, if it lacks slots
unfoldable pub lack_row : Params → List Given → Name → Channels → Option LackRow
lack_row p given n cs = option_map (λ slots. record { node = n; channels = cs; slots = slots }) (slots_lacking p (short_wishes given n cs))

-- the rows of what these nodes lack, by node, then channels
unfoldable pub lack_rows : Params → List Given → List Name → List LackRow
lack_rows p given nodes = flat_map (λ n. filter_map (lack_row p given n) (channels.A ∷ channels.AB ∷ channels.B ∷ [])) nodes
