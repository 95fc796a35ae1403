-- Table of frames: when frames stand in order, the worst first. The text of a frame's row: its number in this order, its
-- names, its placements, each of which leads to where it is drawn, its greatest gap, and its payload.
use Rattle.std.specs.Prelude.{ℕ, ◌-◌, ◌^◌, List, [], ◌∷◌, ◌++◌, codes, decimal, Option, Some, None}
use Rattle.std.specs.List.{enumerate_from, flat_map}
use Rattle.std.specs.List.Sorted.{IsNonDecreasingBy, IsStableByKey}
use Rattle.std.specs.Ordering.{nat_cmp}
use Rattle.fr_base.specs.Channels.{text_of_channel, text_of_channels}
use Rattle.fr_base.specs.declared.channel.Channel.{Channel}
use Rattle.fr_base.specs.declared.channel.Channel.TheVariants.{A, B}
use Rattle.fr_base.specs.declared.channel.Channels.{Channels}
use Rattle.fr_base.specs.declared.channel.Channels.TheVariants as channels
use Rattle.fr_base.specs.declared.name.Name.{Name}
use Rattle.fr_base.specs.declared.placement.Placement.{Placement}
use Rattle.fr_picture.specs.declared.frame_table.DrawnFrame.{DrawnFrame}
use Rattle.fr_picture.specs.declared.texts.Fixed.TheVariants.{Never}
use Rattle.fr_picture.specs.Strips.{strip_text}
use Rattle.fr_picture.specs.Texts.{together, fixed_text}

-- a frame's place in the order of the table, by its gap: a frame that is never sent comes first,
-- then a greater gap before a smaller one
abbrev pub urgency : Option ℕ → ℕ
urgency None = 0
urgency (Some gap) = 2 ^ 32 - gap

-- the frames that are never sent come first; then a greater gap comes before a smaller one
abbrev pub AreWorstFirst : List DrawnFrame → Type 0
AreWorstFirst frames = IsNonDecreasingBy (λ f. urgency f.gap) frames

-- Frames with the same gap stay in the order in which they were.
abbrev pub KeepTies : List DrawnFrame → List DrawnFrame → Type 0
KeepTies old new = IsStableByKey (λ f. urgency f.gap) nat_cmp old new

-- ---- its text

-- the frame's number, by which it is found
unfoldable pub row_start : ℕ → List ℕ
row_start number = together (codes "<tr id=r" ∷ decimal number ∷ codes "><td>" ∷ decimal number ∷ [])

unfoldable pub names_text : Name → Name → Name → List ℕ
names_text frame node supplier =
    together (codes "<td>" ∷ frame ∷ codes "<td>" ∷ node ∷ codes "<td>" ∷ supplier ∷ codes "<td>" ∷ [])

-- the first of a placement's channels
unfoldable pub first_of : Channels → Channel
first_of channels.A = A
first_of channels.AB = A
first_of channels.B = B

-- the beginning of what leads to where the frame of this number is drawn in a slot and channel
unfoldable pub back_text : ℕ → ℕ → List ℕ → List ℕ
back_text number slot channel = together (codes "<a href=#" ∷ decimal slot ∷ channel ∷ decimal number ∷ codes ">" ∷ [])

-- slot, channels, base and repetition
unfoldable pub placement_text_of : ℕ → List ℕ → ℕ → ℕ → List ℕ
placement_text_of slot channels base repetition =
    together (decimal slot ∷ codes " " ∷ channels ∷ codes " " ∷ decimal base ∷ codes "/" ∷ decimal repetition ∷ codes "</a>\n" ∷ [])

-- a placement of the frame of this number, which leads to where it is drawn on its first channel
unfoldable pub placement_text : ℕ → Placement → List ℕ
placement_text number q =
    back_text number q.slot (text_of_channel (first_of q.channels)) ++ placement_text_of q.slot (text_of_channels q.channels) q.cycles.base q.cycles.repetition

unfoldable pub placements_text : ℕ → List Placement → List ℕ
placements_text number placements = flat_map (placement_text number) placements

unfoldable pub number_text : ℕ → List ℕ
number_text n = together (codes "<td>" ∷ decimal n ∷ [])

-- a greatest gap, or the word for a frame that is never sent
unfoldable pub gap_word : Option ℕ → List ℕ
gap_word None = fixed_text Never
gap_word (Some gap) = number_text gap

-- a frame's row: its number, its names, its placements, its greatest gap, and its payload as a strip of bits
unfoldable pub frame_text : ℕ → DrawnFrame → List ℕ
frame_text number f =
    row_start number ++ names_text f.row.frame f.row.node f.row.supplier ++ placements_text number f.row.placements ++ gap_word f.gap ++ strip_text f.signals

unfoldable pub frames_text : List DrawnFrame → List ℕ
frames_text frames = flat_map (λ p. frame_text p.0 p.1) (enumerate_from 1 frames)
