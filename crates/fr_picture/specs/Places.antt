-- Place: the number of the lane of a slot and channel; what is drawn in a lane is of its slot and channel. The columns
-- of the slots stand in order, and each lane at the column of its slot, which it shows. How wide a lane is.
use Rattle.std.specs.Prelude.{◌≡◌, ℕ, suc, ◌+◌, ◌-◌, ◌*◌, ◌/◌, ◌<◌, min, max, Bool, true, false, List, None, Some, [], ◌∷◌, if◌then◌else◌}
use Rattle.std.specs.List.{All, count_by}
use Rattle.fr_base.specs.Channels.{has_channel}
use Rattle.fr_base.specs.declared.channel.Channels.{Channels}
use Rattle.fr_base.specs.declared.channel.Channels.TheVariants as channels
use Rattle.fr_base.specs.declared.channel.Channel.{Channel}
use Rattle.fr_base.specs.declared.channel.Channel.TheVariants.{A, B}
use Rattle.fr_picture.specs.declared.drawing.columns.Place.{Place}
use Rattle.fr_picture.specs.declared.drawing.lane.Lane.{Lane}
use Rattle.fr_picture.specs.declared.drawing.marks.Shows.{Shows}
use Rattle.fr_picture.specs.declared.drawing.marks.Shows.TheVariants.{Nothing, Slot, Gap}
use Rattle.fr_picture.specs.Rectangles.{cells_in}

-- the number of a lane: by slot, A before B
abbrev pub lane_of : ℕ → Channel → ℕ
lane_of slot A = 2 * (slot - 1)
lane_of slot B = 2 * (slot - 1) + 1

-- what is drawn in lane k is of its slot and channel
abbrev pub IsHome : ℕ → Lane → Type 0
IsHome k l = All (λ g. lane_of g.slot g.channel ≡ k) l.grants.items × All (λ s. lane_of s.slot s.channel ≡ k) (cells_in l.rectangles.items)

-- what is drawn in the lanes is of their slots and channels, where the first is lane k
abbrev pub AreHome : ℕ → List Lane → Type 0
AreHome k [] = Unit {0}
AreHome k (l ∷ lanes) = IsHome k l × AreHome (suc k) lanes

-- The column stands where the one before it ends. Or it opens a part of the drawing, at 4, but only where it has no room there up to the end.
abbrev pub IsBehind : ℕ → ℕ → Place → Type 0
IsBehind end at p = (p.opens ≡ None → p.x ≡ at) × ((first : ℕ) → p.opens ≡ Some first → (p.x ≡ 4) × (end < at + p.width))

-- the columns of the slots stand so one behind the other, where what is before them ends there
abbrev pub AreInOrder : ℕ → ℕ → List Place → Type 0
AreInOrder end at [] = Unit {0}
AreInOrder end at (p ∷ columns) = IsBehind end at p × AreInOrder end (p.x + p.width) columns

-- what is shown in a lane of this channel, where the cluster has it
abbrev pub shown_on : Channels → Channel → Shows → Shows
shown_on channels channel shows = if has_channel channels channel then shows else Nothing

-- how much further right channel B stands than channel A
abbrev pub shift_of : Channels → ℕ
shift_of channels.A = 0
shift_of channels.AB = 68
shift_of channels.B = 0

-- where the lanes of a column stand; that of channel B further right by the shift
abbrev pub place_on_a : Channels → Place → Place
place_on_a channels p = record p { shows = shown_on channels A p.shows }

abbrev pub place_on_b : Channels → ℕ → Place → Place
place_on_b channels shift p = record p { opens = None; x = p.x + shift; shows = shown_on channels B p.shows }

-- each two lanes stand at the column of their slot, and show what it shows
abbrev pub AreAt : Channels → ℕ → List Place → List Lane → Type 0
AreAt channels shift [] [] = Unit {0}
AreAt channels shift [] (l ∷ lanes) = ⊥
AreAt channels shift (p ∷ columns) [] = ⊥
AreAt channels shift (p ∷ columns) (a ∷ []) = ⊥
AreAt channels shift (p ∷ columns) (a ∷ b ∷ lanes) =
    (a.place ≡ place_on_a channels p) × (b.place ≡ place_on_b channels shift p) × AreAt channels shift columns lanes

-- the width of a column that shows this, by the width of a lane
abbrev pub width_of : ℕ → Shows → ℕ
width_of width Nothing = 0
width_of width (Slot slot) = width
width_of width (Gap first last) = 1

-- the column is as wide as what it shows
abbrev pub IsWide : ℕ → Place → Type 0
IsWide width p = p.width ≡ width_of width p.shows

-- what has a lane, and what is a gap
unfoldable pub is_slot : Shows → Bool
is_slot Nothing = false
is_slot (Slot slot) = true
is_slot (Gap first last) = false

unfoldable pub is_gap : Shows → Bool
is_gap Nothing = false
is_gap (Slot slot) = false
is_gap (Gap first last) = true

-- how wide a lane is, where all that is shown shares this room: so wide that all have room, but 2 at least and 12 at most
unfoldable pub lane_width : ℕ → List Shows → ℕ
lane_width room shown = min (max ((room - count_by is_gap shown) / max (count_by is_slot shown) 1) 2) 12

-- before the first column that opens a part each shows nothing
abbrev pub OpensFirst : List Place → Type 0
OpensFirst [] = Unit {0}
OpensFirst (p ∷ columns) = p.opens ≡ None → (p.shows ≡ Nothing) × OpensFirst columns

-- the first of the slots that are shown
abbrev pub first_of : Shows → ℕ
first_of Nothing = 0
first_of (Slot slot) = slot
first_of (Gap first last) = first

-- the part that begins at the column is named after the first slot that the column shows
abbrev pub IsNamed : Place → Type 0
IsNamed p = (first : ℕ) → p.opens ≡ Some first → first ≡ first_of p.shows
