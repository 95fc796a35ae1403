-- Table of changes: a row for each, with its sign, what it is, its frame or node, its supplier, and the rest of it. What a
-- page says of changes above its drawing.
use Rattle.std.specs.Prelude.{ℕ, ◌∷◌, ◌++◌, List, [], codes, decimal, Option, Some, None}
use Rattle.std.specs.List.{flat_map}
use Rattle.fr_base.specs.Channels.{text_of_channel, text_of_channels}
use Rattle.fr_base.specs.declared.answer.DifferenceRow.{DifferenceRow}
use Rattle.fr_base.specs.declared.answer.SeenRow.{SeenRow}
use Rattle.fr_base.specs.declared.answer.SeenRow.TheVariants.{Grant, Frame, Placement, Signal, Gap}
use Rattle.fr_base.specs.declared.name.Name.{Name}
use Rattle.fr_picture.specs.declared.changes.Changes.{Changes}
use Rattle.fr_picture.specs.declared.texts.Fixed.TheVariants as fixed
use Rattle.fr_picture.specs.ChangeShapes.{sign_of}
use Rattle.fr_picture.specs.Strips.{signal_text}
use Rattle.fr_picture.specs.Texts.{together, fixed_text}

-- the sign, the kind, the frame or node, and the supplier
unfoldable pub change_names : List ℕ → List ℕ → Name → Name → List ℕ
change_names sign kind name supplier =
    together (codes "<tr><td>" ∷ sign ∷ codes "<td>" ∷ kind ∷ codes "<td>" ∷ name ∷ codes "<td>" ∷ supplier ∷ codes "<td>" ∷ [])

-- a grant's slot and channel
unfoldable pub lane_text : ℕ → List ℕ → List ℕ
lane_text slot channel = together (decimal slot ∷ codes " " ∷ channel ∷ codes "\n" ∷ [])

-- a frame's node
unfoldable pub node_text : Name → List ℕ
node_text node = together (codes "sent by " ∷ node ∷ codes "\n" ∷ [])

-- a placement's slot, channels, base and repetition
unfoldable pub place_text : ℕ → List ℕ → ℕ → ℕ → List ℕ
place_text slot channels base repetition =
    together (decimal slot ∷ codes " " ∷ channels ∷ codes " " ∷ decimal base ∷ codes "/" ∷ decimal repetition ∷ codes "\n" ∷ [])

-- a frame's greatest gap, or that it is never sent
unfoldable pub gap_text : Option ℕ → List ℕ
gap_text None = codes "never sent\n"
gap_text (Some gap) = together (decimal gap ∷ codes " macroticks\n" ∷ [])

unfoldable pub row_text : List ℕ → SeenRow → List ℕ
row_text sign (Grant g) = change_names sign (codes "grant") g.node g.supplier ++ lane_text g.slot (text_of_channel g.channel)
row_text sign (Frame f) = change_names sign (codes "frame") f.frame f.supplier ++ node_text f.node
row_text sign (Placement frame q supplier) =
    change_names sign (codes "placement") frame supplier ++ place_text q.slot (text_of_channels q.channels) q.cycles.base q.cycles.repetition
row_text sign (Signal s) =
    change_names sign (codes "signal") s.frame s.supplier ++ signal_text s.signal.name s.signal.start s.signal.length s.signal.order ++ codes "\n"
row_text sign (Gap g) = change_names sign (codes "greatest gap") g.frame g.supplier ++ gap_text g.gap

unfoldable pub rows_text : List DifferenceRow → List ℕ
rows_text rows = flat_map (λ d. row_text (sign_of d.is_new) d.row) rows

-- the heading, and the head of the table, which each printed page repeats
unfoldable pub table_head : Name → Name → List ℕ
table_head variant from =
    together (codes "<h2 id=since>New and gone since " ∷ from ∷ codes "</h2>\n<p>What has a + is in " ∷ variant ∷ codes " and not in " ∷ from
    ∷ codes ", what has a &minus; the other way round. Where a row has changed, it stands here as it was and as it is.</p>\n<table>\n<thead><tr><th colspan=5>Variant "
    ∷ variant ∷ codes ": new and gone since " ∷ from ∷ codes "<tr><th><th>what<th>frame or node<th>supplier<th>where, or how much<tbody>\n" ∷ [])

-- the table of changes, where a page shows some
unfoldable pub changes_table : Name → Option Changes → List ℕ
changes_table variant None = []
changes_table variant (Some changes) = table_head variant changes.from ++ rows_text changes.rows ++ fixed_text fixed.SlotTableEnd

-- what the drawing's marks mean
unfoldable pub marks_text : Name → List ℕ
marks_text from =
    together (codes "<p>This page shows what is new since " ∷ from
    ∷ codes ", with a thick line and a +, and what is gone, with a dashed line and a &minus;. A + above a lane is a new grant, a &minus; below it one that is gone. <a href=#since>A table</a> lists all of it.</p>\n"
    ∷ [])

unfoldable pub since_text : Option Changes → List ℕ
since_text None = []
since_text (Some changes) = marks_text changes.from

-- the style of changes
unfoldable pub change_style : Option Changes → List ℕ
change_style None = []
change_style (Some changes) = fixed_text fixed.ChangeStyle
