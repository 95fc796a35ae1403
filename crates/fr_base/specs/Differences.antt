-- Difference: the rows of a variant, and those in which two variants differ, as an actor sees them: what the one has and
-- the other has not, and the other way round. They come by what they are (grants, frames, placements, signals, gaps), then
-- by their keys, and at one key what is gone comes before what is new.
use Rattle.std.specs.Prelude.{ℕ, ◌==◌, Bool, true, false, not, ◌&&◌, List, [], ◌∷◌, ◌++◌, map, filter, Option, Some, None, if◌then◌else◌, ⊤}
use Rattle.std.specs.List.{flat_map}
use Rattle.fr_base.specs.Tables.{Order, Table, get, each, from_rows}
use Rattle.fr_base.specs.Orders.{pairs_by}
use Rattle.fr_base.specs.Keys.{owned, channel_slots, numbers, placement_order}
use Rattle.fr_base.specs.Moments.{greatest_gap}
use Rattle.fr_base.specs.Names.{same_text}
use Rattle.fr_base.specs.Signals.{SignalData, text_of_order}
use Rattle.fr_base.specs.Book.{Holder, Frame, Variant}
use Rattle.fr_base.specs.Seen.{seen_grants, seen_frames}
use Rattle.fr_base.specs.declared.channel.Channel.{Channel}
use Rattle.fr_base.specs.declared.name.Name.{Name}
use Rattle.fr_base.specs.declared.params.Params.{Params}
use Rattle.fr_base.specs.declared.placement.Placement.{Placement}
use Rattle.fr_base.specs.declared.actor.Actor.{Actor}
use Rattle.fr_base.specs.declared.answer.DifferenceRow.{DifferenceRow}
use Rattle.fr_base.specs.declared.answer.SeenRow.{SeenRow}
use Rattle.fr_base.specs.declared.answer.SeenRow.TheVariants as row

-- ---- two tables

-- what is told of a key, by what stands at it in the one table and in the other
unfoldable pub differ : {K V : Type 0} → (V → V → Bool) → (K × V → SeenRow) → K → Option V → Option V → List DifferenceRow
differ same told k None None = []
differ same told k (Some old) None = record { is_new = false; row = told (k, old) } ∷ []
differ same told k None (Some new) = record { is_new = true; row = told (k, new) } ∷ []
differ same told k (Some old) (Some new) =
    if same old new then [] else record { is_new = false; row = told (k, old) } ∷ record { is_new = true; row = told (k, new) } ∷ []

-- the keys of the one table and of the other, in order
unfoldable pub keys_of_both : {K V : Type 0} {o : Order K} → Table o V → Table o V → Table o ⊤
keys_of_both old new = from_rows (map (λ e. (e.0, tt)) (old.rows ++ new.rows))

-- the rows in which the two tables differ, by key
unfoldable pub between : {K V : Type 0} {o : Order K} → (V → V → Bool) → (K × V → SeenRow) → Table o V → Table o V → List DifferenceRow
between same told old new = flat_map (λ e. differ same told e.0 (get old e.0) (get new e.0)) (keys_of_both old new).rows

-- ---- what a variant has

-- a placement's supplier and frame, and the placement
unfoldable pub placed_frames : Order ((Name × Name) × Placement)
placed_frames = pairs_by owned placement_order

-- a signal's supplier and frame, and its start
unfoldable pub starts : Order ((Name × Name) × ℕ)
starts = pairs_by owned numbers

-- the placements of frames, by supplier, frame and placement
unfoldable pub all_placements : Table owned Frame → Table placed_frames ⊤
all_placements frames = from_rows (flat_map (λ e. map (λ q. ((e.0, q.0), tt)) e.1.placements.rows) frames.rows)

-- the signals of frames, by supplier, frame and start
unfoldable pub all_signals : Table owned Frame → Table starts SignalData
all_signals frames = from_rows (flat_map (λ e. map (λ s. ((e.0, s.start), s)) e.1.signals) frames.rows)

-- ---- rows

abbrev pub same_holder : Holder → Holder → Bool
same_holder h k = same_text h.supplier k.supplier && same_text h.node k.node

abbrev pub same_signal : SignalData → SignalData → Bool
same_signal s t =
    same_text s.name t.name
    && ((s.start == t.start) && ((s.length == t.length) && same_text (text_of_order s.order) (text_of_order t.order)))

-- whether two gaps are equal, or there is none of either
abbrev pub same_gap : Option ℕ → Option ℕ → Bool
same_gap None None = true
same_gap None (Some n) = false
same_gap (Some m) None = false
same_gap (Some m) (Some n) = m == n

abbrev pub grant_seen : (ℕ × Channel) × Holder → SeenRow
grant_seen e = row.Grant (record { slot = e.0.0; channel = e.0.1; node = e.1.node; supplier = e.1.supplier })

abbrev pub frame_seen : (Name × Name) × Name → SeenRow
frame_seen e = row.Frame (record { frame = e.0.1; node = e.1; supplier = e.0.0 })

abbrev pub placement_seen : ((Name × Name) × Placement) × ⊤ → SeenRow
placement_seen e = row.Placement e.0.0.1 e.0.1 e.0.0.0

abbrev pub signal_seen : ((Name × Name) × ℕ) × SignalData → SeenRow
signal_seen e = row.Signal (record { frame = e.0.0.1; signal = e.1; supplier = e.0.0.0 })

abbrev pub gap_seen : (Name × Name) × Option ℕ → SeenRow
gap_seen e = row.Gap (record { frame = e.0.1; supplier = e.0.0; gap = e.1 })

-- the greatest gap of a frame, if it is placed
abbrev pub gap_of : Params → Frame → Option ℕ
gap_of p frame = greatest_gap p (map (λ q. q.0) frame.placements.rows)

-- ---- all rows of a variant

-- the rows of frames: their nodes, placements, signals and gaps
unfoldable pub rows_of_frames : Params → Table owned Frame → List SeenRow
rows_of_frames p frames =
    map frame_seen (each (λ f. f.node) frames).rows
    ++ map placement_seen (all_placements frames).rows
    ++ map signal_seen (all_signals frames).rows
    ++ map gap_seen (each (gap_of p) frames).rows

-- the rows that the actor sees of a variant
unfoldable pub seen_rows : Params → Actor → Variant → List SeenRow
seen_rows p actor x =
    map grant_seen (seen_grants actor x.grants).rows ++ rows_of_frames p (seen_frames actor x.frames)

-- ---- what differs

-- the rows in which grants differ from what they were before
unfoldable pub grants_differ : Table channel_slots Holder → Table channel_slots Holder → List DifferenceRow
grants_differ before now = between same_holder grant_seen before now

-- the rows in which frames differ from what they were before: their nodes, placements, signals and gaps
unfoldable pub frames_differ : Params → Table owned Frame → Table owned Frame → List DifferenceRow
frames_differ p before now =
    between same_text frame_seen (each (λ f. f.node) before) (each (λ f. f.node) now)
    ++ between (λ _ _. true) placement_seen (all_placements before) (all_placements now)
    ++ between same_signal signal_seen (all_signals before) (all_signals now)
    ++ between same_gap gap_seen (each (gap_of p) before) (each (gap_of p) now)

-- the rows in which a variant differs from another one, as the actor sees them
unfoldable pub differences : Params → Actor → Variant → Variant → List DifferenceRow
differences p actor old new =
    grants_differ (seen_grants actor old.grants) (seen_grants actor new.grants)
    ++ frames_differ p (seen_frames actor old.frames) (seen_frames actor new.frames)

-- ---- what one variant has and another has not

-- the rows that are gone
unfoldable pub gone_in : List DifferenceRow → List SeenRow
gone_in rows = map (λ r. r.row) (filter (λ r. not r.is_new) rows)

-- the rows that are new
unfoldable pub new_in : List DifferenceRow → List SeenRow
new_in rows = map (λ r. r.row) (filter (λ r. r.is_new) rows)

-- whether this value stands at a key
abbrev pub stands : {V : Type 0} → (V → V → Bool) → V → Option V → Bool
stands same v None = false
stands same v (Some w) = same v w

-- whether a table has a row
unfoldable pub has_row : {K V : Type 0} {o : Order K} → (V → V → Bool) → Table o V → K × V → Bool
has_row same t e = stands same e.1 (get t e.0)

-- the rows of a table that the other table has not
unfoldable pub lacked : {K V : Type 0} {o : Order K} → (V → V → Bool) → (K × V → SeenRow) → Table o V → Table o V → List SeenRow
lacked same told t other = map told (filter (λ e. not (has_row same other e)) t.rows)

-- the rows of a table that the other table has too
unfoldable pub shared : {K V : Type 0} {o : Order K} → (V → V → Bool) → (K × V → SeenRow) → Table o V → Table o V → List SeenRow
shared same told t other = map told (filter (has_row same other) t.rows)

-- the rows of frames that the other frames have not
unfoldable pub frames_lacked : Params → Table owned Frame → Table owned Frame → List SeenRow
frames_lacked p frames others =
    lacked same_text frame_seen (each (λ f. f.node) frames) (each (λ f. f.node) others)
    ++ lacked (λ _ _. true) placement_seen (all_placements frames) (all_placements others)
    ++ lacked same_signal signal_seen (all_signals frames) (all_signals others)
    ++ lacked same_gap gap_seen (each (gap_of p) frames) (each (gap_of p) others)

-- the rows of frames that the other frames have too
unfoldable pub frames_shared : Params → Table owned Frame → Table owned Frame → List SeenRow
frames_shared p frames others =
    shared same_text frame_seen (each (λ f. f.node) frames) (each (λ f. f.node) others)
    ++ shared (λ _ _. true) placement_seen (all_placements frames) (all_placements others)
    ++ shared same_signal signal_seen (all_signals frames) (all_signals others)
    ++ shared same_gap gap_seen (each (gap_of p) frames) (each (gap_of p) others)

-- the rows that the actor sees of a variant and not of the other one
unfoldable pub missing : Params → Actor → Variant → Variant → List SeenRow
missing p actor x other =
    lacked same_holder grant_seen (seen_grants actor x.grants) (seen_grants actor other.grants)
    ++ frames_lacked p (seen_frames actor x.frames) (seen_frames actor other.frames)

-- the rows that the actor sees of a variant and of the other one too
unfoldable pub in_both : Params → Actor → Variant → Variant → List SeenRow
in_both p actor x other =
    shared same_holder grant_seen (seen_grants actor x.grants) (seen_grants actor other.grants)
    ++ frames_shared p (seen_frames actor x.frames) (seen_frames actor other.frames)
