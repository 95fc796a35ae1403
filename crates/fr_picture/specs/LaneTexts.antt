-- Text of a lane: the slot's number, a gap, the holder's mark above and below the lane, and its rectangles. A part of
-- the drawing has its heading.
use Rattle.std.specs.Prelude.{ℕ, ◌==◌, ◌&&◌, Bool, false, length, List, [], ◌∷◌, ◌++◌, codes, decimal, Option, Some, None, if◌then◌else◌}
use Rattle.std.specs.List.{enumerate_from, flat_map}
use Rattle.fr_base.specs.Channels.{text_of_channel}
use Rattle.fr_base.specs.declared.answer.DifferenceRow.{DifferenceRow}
use Rattle.fr_base.specs.declared.answer.GrantRow.{GrantRow}
use Rattle.fr_base.specs.declared.name.Name.{Name}
use Rattle.fr_picture.specs.declared.changes.SlotChanges.{SlotChanges}
use Rattle.fr_picture.specs.declared.drawing.columns.Scale.{Scale}
use Rattle.fr_picture.specs.declared.drawing.lane.Lane.{Lane}
use Rattle.fr_picture.specs.declared.drawing.marks.Shows.{Shows}
use Rattle.fr_picture.specs.declared.drawing.marks.Shows.TheVariants.{Nothing, Slot, Gap}
use Rattle.fr_picture.specs.declared.drawing.rectangle.Rectangle.{Rectangle}
use Rattle.fr_picture.specs.declared.frame_index.Entry.{Entry}
use Rattle.fr_picture.specs.declared.plan.Plan.{Plan}
use Rattle.fr_picture.specs.declared.texts.Fixed.TheVariants.{Free, GapOfNobody, GapOfOthers, LaneEnd, LaneStart, TextEnd}
use Rattle.fr_picture.specs.Changes.{lane_changes}
use Rattle.fr_picture.specs.ChangeShapes.{changes_text}
use Rattle.fr_picture.specs.Kinds.{rectangles_text}
use Rattle.fr_picture.specs.Shares.{look_text, mark_text, number_of}
use Rattle.fr_picture.specs.Texts.{together, fixed_text}

-- the heading of a part of the drawing
unfoldable pub heading_text : Name → ℕ → List ℕ
heading_text variant first =
    together (codes "</g></svg></div>\n<h2 id=p" ∷ decimal first ∷ codes ">Variant " ∷ variant ∷ codes ": slots from " ∷ decimal first ∷ codes " on</h2>\n" ∷ [])

-- a box that scrolls, named by the heading, and the drawing in it. What it has can be focused, so it is no image.
unfoldable pub box_start : ℕ → List ℕ
box_start first =
    together (codes "<div class=plan role=group aria-labelledby=p" ∷ decimal first ∷ codes " tabindex=0><svg role=none" ∷ [])

unfoldable pub view_text : ℕ → ℕ → List ℕ
view_text height first = together (codes " viewBox=\"0 -4 138 " ∷ decimal height ∷ codes "\" preserveAspectRatio=none><use href=#cycles /><g id=g" ∷ decimal first ∷ codes ">\n" ∷ [])

-- the beginning of a part of the drawing, and the end of the part before
unfoldable pub part_text : Name → ℕ → ℕ → List ℕ
part_text variant height first = heading_text variant first ++ box_start first ++ view_text height first

unfoldable pub opens_text : Name → ℕ → Option ℕ → List ℕ
opens_text variant height None = []
opens_text variant height (Some first) = part_text variant height first

-- a gap: nobody holds its slots, or, on the page of one supplier, that supplier does not
unfoldable pub gap_text : Option Name → List ℕ
gap_text None = fixed_text GapOfNobody
gap_text (Some supplier) = fixed_text GapOfOthers

-- one slot, or the first and the last of several
unfoldable pub slots_text : ℕ → ℕ → List ℕ
slots_text first last =
    if first == last then together (decimal first ∷ codes "</text>" ∷ [])
    else together (decimal first ∷ codes " to " ∷ decimal last ∷ codes "</text>" ∷ [])

-- the slot's number, or a gap, or nothing
unfoldable pub shows_text : Option Name → Shows → List ℕ
shows_text viewer Nothing = []
shows_text viewer (Slot n) = together (codes "<text y=-2>" ∷ decimal n ∷ codes "</text>" ∷ [])
shows_text viewer (Gap first last) = gap_text viewer ++ slots_text first last

unfoldable pub free_text : Shows → List ℕ
free_text Nothing = []
free_text (Slot n) = fixed_text Free
free_text (Gap first last) = []

-- a lane that is shown and that nobody is granted
unfoldable pub ungranted_text : Shows → List GrantRow → List ℕ
ungranted_text shows [] = free_text shows
ungranted_text shows (g ∷ grants) = []

-- a granted lane, with its node, supplier, slot and channel as its title; its rectangles are drawn
-- over it
unfoldable pub holder_text : Name → Name → ℕ → List ℕ → List ℕ
holder_text node supplier slot channel =
    together (codes "<title>" ∷ node ∷ codes " of " ∷ supplier ∷ codes "\n" ∷ decimal slot ∷ codes " " ∷ channel
    ∷ codes "</title><use href=#held /><text y=-1>" ∷ [])

-- the beginning of the mark below the last cycle
unfoldable pub foot_text : ℕ → List ℕ
foot_text cycles = together (codes "</text><text y=" ∷ decimal cycles ∷ codes ">" ∷ [])

unfoldable pub grant_text : ℕ → ℕ → GrantRow → List ℕ
grant_text cycles number g =
    holder_text g.node g.supplier g.slot (text_of_channel g.channel) ++ mark_text number ++ foot_text cycles ++ mark_text number ++ fixed_text TextEnd

unfoldable pub grants_text : List Name → ℕ → List GrantRow → List ℕ
grants_text names cycles grants = flat_map (λ g. grant_text cycles (number_of names g.supplier) g) grants

-- whether nothing is drawn at a place, since it is inside a gap
unfoldable pub is_bare : Shows → List GrantRow → List Rectangle → Bool
is_bare Nothing grants rectangles = (length grants == 0) && (length rectangles == 0)
is_bare (Slot n) grants rectangles = false
is_bare (Gap first last) grants rectangles = false

-- the number of the lane's holder
unfoldable pub holder_of : List Name → List GrantRow → ℕ
holder_of names [] = 0
holder_of names (g ∷ grants) = number_of names g.supplier

unfoldable pub edge_text : ℕ → List ℕ
edge_text x = together (codes " x=" ∷ decimal x ∷ codes ">" ∷ [])

-- the beginning of a lane: the look of its holder, and its left edge
unfoldable pub start_text : ℕ → ℕ → List ℕ
start_text number x = fixed_text LaneStart ++ look_text number ++ edge_text x

-- what is drawn of a lane, in its holder's look: its grant, over it its rectangles, and over these its changes
unfoldable pub drawn_text : Plan → Scale → List Entry → List DifferenceRow → Lane → List ℕ
drawn_text plan scale index changed l =
    start_text (holder_of plan.suppliers.items l.grants.items) l.place.x ++ grants_text plan.suppliers.items scale.cycles l.grants.items
    ++ shows_text plan.supplier l.place.shows ++ ungranted_text l.place.shows l.grants.items ++ rectangles_text scale index l.rectangles.items
    ++ changes_text scale changed ++ fixed_text LaneEnd

-- a lane, where there is something to draw
unfoldable pub lane_text : Plan → Scale → List Entry → List DifferenceRow → Lane → List ℕ
lane_text plan scale index changed l =
    opens_text plan.variant scale.height l.place.opens ++ (if is_bare l.place.shows l.grants.items l.rectangles.items then []
    else drawn_text plan scale index changed l)

-- the lanes, each with the changes that are drawn in it
unfoldable pub lanes_text : Plan → Scale → List Entry → List SlotChanges → List Lane → List ℕ
lanes_text plan scale index slots lanes = flat_map (λ p. lane_text plan scale index (lane_changes slots p.0) p.1) (enumerate_from 0 lanes)
