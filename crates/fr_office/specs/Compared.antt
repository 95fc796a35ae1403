-- Compared: what was gathered of two variants; and the rows of all kinds of one.
use Rattle.std.specs.List.{flat_map}
use Rattle.std.specs.Prelude.{◌≡◌, ◌⊎◌, Bool, true, List, [], ◌∷◌, ◌++◌, map, None, Some, Result, MatchResult}
use Rattle.fr_base.specs.Book.{Book, Frame, Variant, own, own_grants}
use Rattle.fr_base.specs.Cluster.{Cluster}
use Rattle.fr_base.specs.Differences.{differences, frame_seen, gap_seen, grant_seen, grants_differ, placed_frames, placement_seen, same_gap, same_signal, signal_seen, starts}
use Rattle.fr_base.specs.Exports.{frame_records, placement_records, signal_records}
use Rattle.fr_base.specs.Keys.{owned}
use Rattle.fr_base.specs.Merging.{merge}
use Rattle.fr_base.specs.Names.{same_text}
use Rattle.fr_base.specs.Queries.{gap_row, grants_of}
use Rattle.fr_base.specs.Sound.{IsSound}
use Rattle.fr_base.specs.Tables.{Order, Table, get}
use Rattle.fr_base.specs.declared.actor.Actor.{Actor}
use Rattle.fr_base.specs.declared.answer.DifferenceRow.{DifferenceRow}
use Rattle.fr_base.specs.declared.answer.FrameRecord.{FrameRecord}
use Rattle.fr_base.specs.declared.answer.GapRow.{GapRow}
use Rattle.fr_base.specs.declared.answer.GrantRow.{GrantRow}
use Rattle.fr_base.specs.declared.answer.LaneHolder.{LaneHolder}
use Rattle.fr_base.specs.declared.answer.PlacementRecord.{PlacementRecord}
use Rattle.fr_base.specs.declared.answer.SeenRow.{SeenRow}
use Rattle.fr_base.specs.declared.answer.SignalRecord.{SignalRecord}
use Rattle.fr_base.specs.declared.name.Name.{Name}
use Rattle.fr_base.specs.declared.params.Params.{Params}
use Rattle.fr_base.specs.declared.refusal.Refusal.{Refusal}
use Rattle.fr_base.specs.declared.refusal.Refusal.TheVariants.{NoVariant, Unavailable}
use Rattle.fr_office.specs.Kinds.{ByKind}
use Rattle.fr_office.specs.Shared.{grants_among, with_rows}
use Rattle.fr_office.specs.declared.queries.compared.ComparedRows.{ComparedRows}
use Rattle.fr_world.specs.Held.{Standing}
use Rattle.fr_world.specs.KeyedRows.{by_key, frame_entry, gap_entry, grant_entry, placement_entry, same_at, signal_entry}
use Rattle.fr_world.specs.Loads.{grants_in_lanes}
use Rattle.fr_world.specs.declared.page.ChannelSlot.{ChannelSlot}

-- This was gathered of two variants that are there; or one is not there, or the answer is
-- Unavailable. The records stand for the same book as before.
abbrev pub Compares : {X : Type 0} → Name → Name → (Params → Variant → Variant → X → Type 0) → Standing → Standing → Result X Refusal → Type 0
Compares v w says old now r = (c : Cluster) (b : Book) → old c b → now c b × MatchResult r
    (λ found. (new before : Variant) → get b.variants v ≡ Some new → get b.variants w ≡ Some before → says c.params new before found)
    (λ e. (e ≡ Unavailable) ⊎ ((e ≡ NoVariant) × ((get b.variants v ≡ None) ⊎ (get b.variants w ≡ None))))

-- In a sound book, where both variants are there, their difference was gathered as the actor sees
-- it, or the answer is Unavailable. The records stand for the same book as before.
abbrev pub SeesDifferences : Actor → Name → Name → Standing → Standing → Result (List DifferenceRow) Refusal → Type 0
SeesDifferences actor v w old now r = (c : Cluster) (b : Book) → old c b → IsSound c b → now c b × ((new before : Variant) → get b.variants v ≡ Some new → get b.variants w ≡ Some before → MatchResult r
    (λ rows. rows ≡ differences c.params actor before new)
    (λ e. e ≡ Unavailable))

-- the rows of frames, of each kind one frame's after another's
abbrev pub compared_rows : Params → Table owned Frame → ComparedRows
compared_rows p frames = record {
  frames = flat_map frame_records frames.rows;
  placements = flat_map placement_records frames.rows;
  signals = flat_map signal_records frames.rows;
  gaps = flat_map (λ e. gap_row p e ∷ []) frames.rows;
}

-- The rows of the supplier's frames in the variant were taken, and its grants were added to those that were held.
pub record AreTaken (p : Params) (s : Name) (x : Variant) (held after : List (ChannelSlot × LaneHolder)) (rows : ComparedRows) : Type 0 where
  pub rows_are : rows ≡ compared_rows p (own s x.frames)
  pub holders : grants_in_lanes after ≡ with_rows (grants_in_lanes held) (own_grants s x.grants).rows

-- the grants of these suppliers in which the variants differ
abbrev pub grants_told : List Name → Variant → Variant → List DifferenceRow
grants_told ss before new = grants_differ (grants_among ss before.grants) (grants_among ss new.grants)

-- what a merge tells of the rows of a kind, by their keys
abbrev pub kind_told : {X K V : Type 0} → Order K → (V → V → Bool) → (K × V → SeenRow) → (X → K × V) → List X → List X → List DifferenceRow
kind_told o same told entry before new = merge (by_key o entry) (same_at same entry) (λ r. told (entry r)) before new

-- what merges tell of the rows of frames, of each kind
abbrev pub rows_told : ComparedRows → ComparedRows → ByKind DifferenceRow
rows_told before new = record {
  frames = kind_told owned same_text frame_seen frame_entry before.frames new.frames;
  placements = kind_told placed_frames (λ _ _. true) placement_seen placement_entry before.placements new.placements;
  signals = kind_told starts same_signal signal_seen signal_entry before.signals new.signals;
  gaps = kind_told owned same_gap gap_seen gap_entry before.gaps new.gaps;
}

-- what merges tell of the rows of a supplier's frames
abbrev pub supplier_told : Params → Variant → Variant → Name → ByKind DifferenceRow
supplier_told p before new s = rows_told (compared_rows p (own s before.frames)) (compared_rows p (own s new.frames))

-- what merges tell of the rows of these suppliers' frames, of each kind supplier after supplier
abbrev pub suppliers_told : Params → List Name → Variant → Variant → ByKind DifferenceRow
suppliers_told p ss before new = record {
  frames = flat_map (λ s. (supplier_told p before new s).frames) ss;
  placements = flat_map (λ s. (supplier_told p before new s).placements) ss;
  signals = flat_map (λ s. (supplier_told p before new s).signals) ss;
  gaps = flat_map (λ s. (supplier_told p before new s).gaps) ss;
}

-- the rows of these suppliers in which the variants differ: grants, frames, placements, signals and gaps
abbrev pub rows_among : Params → List Name → Variant → Variant → List DifferenceRow
rows_among p ss before new =
    grants_told ss before new
    ++ (suppliers_told p ss before new).frames
    ++ (suppliers_told p ss before new).placements
    ++ (suppliers_told p ss before new).signals
    ++ (suppliers_told p ss before new).gaps

-- ---- the rows of one variant

-- the rows of these suppliers' frames in the variant, of each kind supplier after supplier
abbrev pub suppliers_rows : Params → List Name → Variant → ComparedRows
suppliers_rows p ss x = record {
  frames = flat_map (λ s. (compared_rows p (own s x.frames)).frames) ss;
  placements = flat_map (λ s. (compared_rows p (own s x.frames)).placements) ss;
  signals = flat_map (λ s. (compared_rows p (own s x.frames)).signals) ss;
  gaps = flat_map (λ s. (compared_rows p (own s x.frames)).gaps) ss;
}

-- a row of each kind as a row of a variant
abbrev pub grant_told : GrantRow → SeenRow
grant_told r = grant_seen (grant_entry r)

abbrev pub frame_told : FrameRecord → SeenRow
frame_told r = frame_seen (frame_entry r)

abbrev pub placement_told : PlacementRecord → SeenRow
placement_told r = placement_seen (placement_entry r)

abbrev pub signal_told : SignalRecord → SeenRow
signal_told r = signal_seen (signal_entry r)

abbrev pub gap_told : GapRow → SeenRow
gap_told r = gap_seen (gap_entry r)

-- of each kind the rows, as rows of a variant
abbrev pub kinds_told : ComparedRows → ByKind SeenRow
kinds_told rows = record {
  frames = map frame_told rows.frames;
  placements = map placement_told rows.placements;
  signals = map signal_told rows.signals;
  gaps = map gap_told rows.gaps;
}

-- the rows of these suppliers in the variant: grants, frames, placements, signals and gaps
abbrev pub seen_among : Params → List Name → Variant → List SeenRow
seen_among p ss x =
    map grant_told (grants_of (grants_among ss x.grants))
    ++ map frame_told (suppliers_rows p ss x).frames
    ++ map placement_told (suppliers_rows p ss x).placements
    ++ map signal_told (suppliers_rows p ss x).signals
    ++ map gap_told (suppliers_rows p ss x).gaps
