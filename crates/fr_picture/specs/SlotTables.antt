-- Table of slots: a row for each grant, with slot and channel, the node and supplier that hold it,
-- the frames that are sent there and their cycles, and in how many cycles something is sent.
use Rattle.std.specs.Prelude.{ℕ, ◌+◌, ◌-◌, ◌^◌, nat_lt, min, Bool, List, [], ◌∷◌, ◌++◌, filter, codes, decimal, if◌then◌else◌}
use Rattle.std.specs.List.{flat_map, fold, list_any}
use Rattle.fr_base.specs.Channels.{text_of_channel}
use Rattle.fr_base.specs.declared.answer.GrantRow.{GrantRow}
use Rattle.fr_base.specs.declared.name.Name.{Name}
use Rattle.fr_picture.specs.declared.drawing.lane.Lane.{Lane}
use Rattle.fr_picture.specs.declared.drawing.rectangle.Rectangle.{Rectangle}
use Rattle.fr_picture.specs.declared.plan.Plan.{Plan}
use Rattle.fr_picture.specs.declared.texts.Fixed.TheVariants.{Comma, SlotRow, SlotTableEnd}
use Rattle.fr_picture.specs.Kinds.{was_drawn, is_of_same_frame, set_of, when_text}
use Rattle.fr_picture.specs.Shares.{mark_text, number_of}
use Rattle.fr_picture.specs.Texts.{together, fixed_text}

-- in how many cycles of the lane something is sent
unfoldable pub load_of : List Rectangle → ℕ
load_of rectangles = fold (λ n r. min (n + r.cycles) (2 ^ 64 - 1)) 0 rectangles

-- whether something is sent in an earlier cycle of the lane
unfoldable pub stands_behind_another : List Rectangle → Rectangle → Bool
stands_behind_another all r = list_any (λ other. nat_lt other.first.cycle r.first.cycle) all

-- ---- its text

unfoldable pub comma_text : List Rectangle → Rectangle → List ℕ
comma_text all r = if stands_behind_another all r then fixed_text Comma else []

unfoldable pub frame_text : Name → List ℕ
frame_text frame = together (codes " " ∷ frame ∷ [])

-- the text of a frame, where r is its first rectangle
unfoldable pub turn_text : ℕ → List Rectangle → Rectangle → List ℕ
turn_text cycles same r = when_text same r (set_of cycles r.first.cycle same) ++ frame_text r.first.frame

unfoldable pub sent_text : ℕ → List Rectangle → Rectangle → List ℕ
sent_text cycles all r = if was_drawn all r then [] else comma_text all r ++ turn_text cycles (filter (λ other. is_of_same_frame other r) all) r

unfoldable pub all_sent_text : ℕ → List Rectangle → List ℕ
all_sent_text cycles all = flat_map (sent_text cycles all) all

unfoldable pub lane_name_text : ℕ → List ℕ → List ℕ
lane_name_text slot channel = together (decimal slot ∷ codes " " ∷ channel ∷ codes "<td>" ∷ [])

unfoldable pub owner_text : Name → Name → List ℕ
owner_text node supplier = together (codes " " ∷ node ∷ codes " of " ∷ supplier ∷ codes "<td>" ∷ [])

unfoldable pub load_text : ℕ → ℕ → List ℕ
load_text load cycles = together (codes "<td>" ∷ decimal load ∷ codes " of " ∷ decimal cycles ∷ codes "\n" ∷ [])

-- a grant's row
unfoldable pub row_text : List Name → ℕ → List Rectangle → GrantRow → List ℕ
row_text names cycles rectangles g =
    fixed_text SlotRow ++ lane_name_text g.slot (text_of_channel g.channel) ++ mark_text (number_of names g.supplier) ++ owner_text g.node g.supplier
    ++ all_sent_text cycles rectangles ++ load_text (load_of rectangles) cycles

unfoldable pub lane_rows_text : List Name → ℕ → Lane → List ℕ
lane_rows_text names cycles l = flat_map (row_text names cycles l.rectangles.items) l.grants.items

unfoldable pub rows_text : List Name → ℕ → List Lane → List ℕ
rows_text names cycles lanes = flat_map (lane_rows_text names cycles) lanes

-- the head of the table, which each printed page repeats
unfoldable pub head_text : Name → List ℕ
head_text variant =
    together (codes "</g></svg></div>\n<h2>Slots</h2>\n<p>Before a frame's name stand its base and repetition, or its cycles. The load is the number of cycles in which something is sent.</p>\n<table>\n<thead><tr><th colspan=4>Variant "
    ∷ variant ∷ codes ": slots<tr><th>slot<th>granted to<th>sent<th>load<tbody>\n" ∷ [])

unfoldable pub slot_table_text : Plan → ℕ → List Lane → List ℕ
slot_table_text plan cycles lanes = head_text plan.variant ++ rows_text plan.suppliers.items cycles lanes ++ fixed_text SlotTableEnd
