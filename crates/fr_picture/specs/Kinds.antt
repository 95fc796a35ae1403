-- Kind: the rectangles of one frame in a lane. Whether they are exactly the cells of a base and a
-- repetition. Their text: one shape, with frame, node, supplier, slot, channel and cycles as its title, which leads to
-- the frame's row, and in the first rectangle the frame's number there. Neighbours have two shades of one colour.
use Rattle.std.specs.Prelude.{ℕ, ◌+◌, ◌-◌, ◌*◌, ◌/◌, ◌%◌, ◌==◌, ◌&&◌, nat_lt, max, length, Bool, true, List, [], ◌∷◌, ◌++◌, filter, codes, decimal, Option, Some, None, if◌then◌else◌}
use Rattle.std.specs.List.{flat_map, list_any}
use Rattle.fr_base.specs.Channels.{text_of_channel}
use Rattle.fr_base.specs.Names.{same_text}
use Rattle.fr_base.specs.declared.answer.Sending.{Sending}
use Rattle.fr_base.specs.declared.name.Name.{Name}
use Rattle.fr_picture.specs.declared.drawing.columns.Scale.{Scale}
use Rattle.fr_picture.specs.declared.drawing.rectangle.Rectangle.{Rectangle}
use Rattle.fr_picture.specs.declared.frame_index.Entry.{Entry}
use Rattle.fr_picture.specs.declared.texts.Fixed.TheVariants.{CyclesStart, LinkEnd, LinkStart, OddShade, OverStart, PathEnd, PathStart, TagEnd, TextEnd, TitleEnd}
use Rattle.fr_picture.specs.FrameIndexes.{number_in}
use Rattle.fr_picture.specs.Texts.{together, fixed_text}

-- whether two rectangles are of the same frame
unfoldable pub is_of_same_frame : Rectangle → Rectangle → Bool
is_of_same_frame other r = same_text other.first.frame r.first.frame && same_text other.first.node r.first.node && same_text other.first.supplier r.first.supplier

-- whether one of the rectangles is of the same frame and in an earlier cycle
unfoldable pub was_drawn : List Rectangle → Rectangle → Bool
was_drawn all r = list_any (λ other. nat_lt other.first.cycle r.first.cycle && is_of_same_frame other r) all

-- whether each rectangle has `height` cycles, the first begins in cycle `from`, and each next one
-- begins `step` cycles later
unfoldable pub follows : ℕ → ℕ → ℕ → List Rectangle → Bool
follows from step height [] = true
follows from step height (r ∷ rs) = (r.first.cycle == from) && (r.cycles == height) && follows (from + step) step height rs

-- whether there is one rectangle, of all cycles
unfoldable pub is_whole : ℕ → List Rectangle → Bool
is_whole cycles same = (length same == 1) && follows 0 1 cycles same

-- whether they are the cells of a base and a repetition in all cycles
unfoldable pub is_set : ℕ → ℕ → ℕ → List Rectangle → Bool
is_set cycles base repetition same =
    nat_lt 1 repetition && (repetition * length same == cycles) && nat_lt base repetition && follows base repetition 1 same

-- the repetition, if the rectangles are exactly the cells of this base and a repetition
unfoldable pub set_of : ℕ → ℕ → List Rectangle → Option ℕ
set_of cycles base same =
    if is_whole cycles same then Some 1
    else if is_set cycles base (cycles / max (length same) 1) same then Some (cycles / max (length same) 1)
    else None

-- ---- their text

-- a rectangle as part of a path
unfoldable pub box_text : ℕ → ℕ → ℕ → List ℕ
box_text y width height =
    together (codes "M0 " ∷ decimal y ∷ codes "h" ∷ decimal width ∷ codes "v" ∷ decimal height ∷ codes "h-" ∷ decimal width ∷ codes "z" ∷ [])

unfoldable pub boxes_text : ℕ → List Rectangle → List ℕ
boxes_text width same = flat_map (λ r. box_text r.first.cycle width r.cycles) same

-- the beginning of a title: frame; node and supplier; slot and channel
unfoldable pub names_text : Sending → List ℕ
names_text s =
    together (codes "<title>" ∷ s.frame ∷ codes "\n" ∷ s.node ∷ codes " of " ∷ s.supplier ∷ codes "\n" ∷ decimal s.slot ∷ codes " "
    ∷ text_of_channel s.channel ∷ [])

-- a base and a repetition
unfoldable pub within_text : ℕ → ℕ → List ℕ
within_text base repetition = together (codes " " ∷ decimal base ∷ codes "/" ∷ decimal repetition ∷ [])

-- a cycle, or a first and a last cycle
unfoldable pub span_text : ℕ → ℕ → List ℕ
span_text cycle count =
    if nat_lt count 2 then together (codes " " ∷ decimal cycle ∷ [])
    else together (codes " " ∷ decimal cycle ∷ codes "-" ∷ decimal (cycle + count - 1) ∷ [])

unfoldable pub spans_text : List Rectangle → List ℕ
spans_text same = flat_map (λ r. span_text r.first.cycle r.cycles) same

-- the cycles in which a frame is sent: base and repetition, or the cycles themselves
unfoldable pub when_text : List Rectangle → Rectangle → Option ℕ → List ℕ
when_text same r (Some repetition) = within_text r.first.cycle repetition
when_text same r None = fixed_text CyclesStart ++ spans_text same

-- frame; node and supplier; slot, channel and cycles
unfoldable pub title_text : List Rectangle → Rectangle → Option ℕ → List ℕ
title_text same r repetition = names_text r.first ++ when_text same r repetition ++ fixed_text TitleEnd

-- the shape of a repetition, by the base further down
unfoldable pub set_text : ℕ → ℕ → List ℕ
set_text repetition base =
    if base == 0 then together (codes "<use href=#" ∷ decimal repetition ∷ codes " />" ∷ [])
    else together (codes "<use href=#" ∷ decimal repetition ∷ codes " y=" ∷ decimal base ∷ codes " />" ∷ [])

-- the rectangles, and over them those of the supplier's pattern
unfoldable pub path_text : ℕ → List Rectangle → List ℕ
path_text width same =
    fixed_text PathStart ++ boxes_text width same ++ fixed_text OverStart ++ boxes_text width same ++ fixed_text PathEnd

unfoldable pub shape_text : ℕ → List Rectangle → Rectangle → Option ℕ → List ℕ
shape_text width same r (Some repetition) = set_text repetition r.first.cycle
shape_text width same r None = path_text width same

-- the number of a frame's row, if it has one
unfoldable pub tag_of : Option ℕ → List ℕ
tag_of None = []
tag_of (Some number) = decimal number

-- the shade of a frame that begins in this cycle: two neighbours that are each sent in even repetitions begin in an even and in an odd one
unfoldable pub shade_text : ℕ → List ℕ
shade_text cycle = if cycle % 2 == 0 then [] else fixed_text OddShade

-- what leads to the row of this number, and to which the row leads back
unfoldable pub link_text : ℕ → List ℕ → ℕ → List ℕ
link_text slot channel number =
    together (codes " id=" ∷ decimal slot ∷ channel ∷ decimal number ∷ codes " href=#r" ∷ decimal number ∷ codes ">" ∷ [])

unfoldable pub way_text : Sending → Option ℕ → List ℕ
way_text s None = fixed_text TagEnd
way_text s (Some number) = link_text s.slot (text_of_channel s.channel) number

-- the beginning of a frame's rectangles, of which the first begins in this cell
unfoldable pub link_start : Sending → Option ℕ → List ℕ
link_start s number = fixed_text LinkStart ++ shade_text s.cycle ++ way_text s number

-- the beginning of a number in a lane of this width: smaller, where it has more digits than a lane has room for
unfoldable pub tag_start : ℕ → ℕ → ℕ → List ℕ
tag_start width digits cycle =
    if nat_lt (digits + 1) (2 * width + 1) then together (codes "<text y=" ∷ decimal cycle ∷ codes ">" ∷ [])
    else together (codes "<text class=s y=" ∷ decimal cycle ∷ codes ">" ∷ [])

-- the frame's name, down and below the number, where it has room there
unfoldable pub down_text : ℕ → ℕ → Name → List ℕ
down_text cycle cycles frame =
    if nat_lt (length frame + 2) (2 * cycles) then together (codes "<text class=v y=" ∷ decimal (cycle + 1) ∷ codes ">" ∷ frame ∷ codes "</text>" ∷ []) else []

-- the frame's number, and its name beside it where it has room, or else below
unfoldable pub label_text : ℕ → List ℕ → Rectangle → List ℕ
label_text width tag r =
    if nat_lt (length tag + length r.first.frame) (2 * width)
    then together (codes "<text y=" ∷ decimal r.first.cycle ∷ codes ">" ∷ tag ∷ codes " " ∷ r.first.frame ∷ codes "</text>" ∷ [])
    else tag_start width (length tag) r.first.cycle ++ tag ++ fixed_text TextEnd ++ down_text r.first.cycle r.cycles r.first.frame

-- the rectangles of one frame, of which r is the first, with the number of the frame's row
unfoldable pub same_frame_text : Scale → Option ℕ → List Rectangle → Rectangle → List ℕ
same_frame_text scale number same r =
    link_start r.first number ++ title_text same r (set_of scale.cycles r.first.cycle same)
    ++ shape_text scale.width same r (set_of scale.cycles r.first.cycle same) ++ label_text scale.width (tag_of number) r ++ fixed_text LinkEnd

-- all rectangles of the frame, where r is the first of them
unfoldable pub rectangle_text : Scale → List Entry → List Rectangle → Rectangle → List ℕ
rectangle_text scale index all r =
    if was_drawn all r then [] else same_frame_text scale (number_in index r.first) (filter (λ other. is_of_same_frame other r) all) r

unfoldable pub rectangles_text : Scale → List Entry → List Rectangle → List ℕ
rectangles_text scale index all = flat_map (rectangle_text scale index all) all
