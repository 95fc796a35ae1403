-- Room's lines: placements of one slot, with the same channels and repetition, share one line where
-- they follow one another.
use Rattle.std.specs.Prelude.{ℕ, ◌==◌, Bool, ◌&&◌, List, [], ◌∷◌, map, if◌then◌else◌}
use Rattle.fr_base.specs.Channels.{channels_number, text_of_channels}
use Rattle.fr_base.specs.declared.placement.Placement.{Placement}
use Rattle.fr_text.specs.Words.{two_digits, four_digits, line}

-- whether two placements share a line
abbrev pub share_line : Placement → Placement → Bool
share_line q r = q.slot == r.slot && channels_number q.channels == channels_number r.channels && q.cycles.repetition == r.cycles.repetition

-- the groups with one more placement in front: it joins the first group where it shares that line,
-- else it is a group of its own
abbrev pub with_place : Placement → List (List Placement) → List (List Placement)
with_place q ((r ∷ others) ∷ groups) = if share_line q r then (q ∷ r ∷ others) ∷ groups else (q ∷ []) ∷ (r ∷ others) ∷ groups
with_place q groups = (q ∷ []) ∷ groups

-- the placements in groups, of which each makes a line
unfoldable pub groups_of : List Placement → List (List Placement)
groups_of [] = []
groups_of (q ∷ places) = with_place q (groups_of places)

-- a base, in two digits
abbrev pub base_word : Placement → List ℕ
base_word q = two_digits q.cycles.base

-- slot, channels and repetition of a group, and the base of each of its placements
abbrev pub group_line : List Placement → List ℕ
group_line [] = []
group_line (q ∷ others) =
    line (four_digits q.slot ∷ text_of_channels q.channels ∷ two_digits q.cycles.repetition ∷ base_word q ∷ map base_word others)

-- the lines of the placements
unfoldable pub room_lines : List Placement → List (List ℕ)
room_lines places = map group_line (groups_of places)
