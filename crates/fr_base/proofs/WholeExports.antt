-- Part 0 of a variant's own export, where it has all records, sent as a whole replacement, changes nothing.
use Rattle.std.proofs.Common.{◌≡◌, ℕ, ◌≤◌, Bool, true, false, ◌||◌, cond, List, [], ◌∷◌, ◌++◌, map, flat_map, length, nat_lt, Option, Some, None, Result, Ok, refl, sym, ap, subst, ◌∙◌, append-nil}
use Rattle.std.specs.Prelude.{⊤, T}
use Rattle.std.specs.List.{AllByRecursion, list_any}
use Rattle.std.specs.FinMap.Entries.{find, is_sorted}
use Rattle.fr_base.specs.Tables.{Table, empty, get, left_by}
use Rattle.fr_base.specs.Keys.{owned, placement_order}
use Rattle.fr_base.specs.Cluster.{Cluster}
use Rattle.fr_base.specs.Names.{same_text}
use Rattle.fr_base.specs.Signals.{SignalData}
use Rattle.fr_base.specs.Book.{Frame, Variant, Book, is_of, own}
use Rattle.fr_base.specs.Brought.{node_for, nodes_for, placement_for, signal_for, placements_for, signals_for, had_placements, had_signals}
use Rattle.fr_base.specs.Exports.{exported, frame_records, part_of, placement_records, signal_records}
use Rattle.fr_base.specs.ExportParts.{HaveAll, all_of, joined, parts}
use Rattle.fr_base.specs.ExportedLaws.{exported_rows}
use Rattle.fr_base.specs.ImportRows.{header_of_body, rows_of_body}
use Rattle.fr_base.specs.Sound.{IsSound}
use Rattle.fr_base.specs.Step.{cleared, clear_all, free_rows, names_with, replaced, replace, outcome}
use Rattle.fr_base.specs.WholeLaws.{IsAmong, WholeExportChangesNothing}
use Rattle.fr_base.specs.declared.limits.TheConstants.{MAX_IMPORT_BYTES}
use Rattle.fr_base.specs.declared.actor.Actor.TheVariants.{Supplier}
use Rattle.fr_base.specs.declared.answer.Answer.TheVariants.{Replaced}
use Rattle.fr_base.specs.declared.answer.ReportRows.TheVariants.{FrameRecords, PlacementRecords, SignalRecords}
use Rattle.fr_base.specs.declared.import.Header.{Header}
use Rattle.fr_base.specs.declared.import.Header.TheVariants.{Frames, Placements, Signals}
use Rattle.fr_base.specs.declared.import.Row.{Row}
use Rattle.fr_base.specs.declared.import.Row.TheVariants as row
use Rattle.fr_base.specs.declared.import.RowRead.{RowRead}
use Rattle.fr_base.specs.declared.name.Name.{Name}
use Rattle.fr_base.specs.declared.placement.Placement.{Placement}
use Rattle.fr_base.proofs.TableLaws.{insert-same, same_rows}
use Rattle.fr_base.proofs.SoundTables.{get-passing}
use Rattle.fr_base.proofs.AloneCells.{same_text-itself}
use Rattle.fr_base.proofs.FrameRuns.{past_or, past_when, lifted, run_in, replace_rows-lift}
use Rattle.fr_base.proofs.BroughtLemmas.{Frees, free_rows-free, node_of, unless_brought}
use Rattle.fr_base.proofs.ClearedFrames.{StayOthers, begins-mine, begins-others, free-others}
use Rattle.fr_base.proofs.ClearedAgain.{bare_node, bare_placements, bare_signals, left_stays, is_named_with, unsigned_node, unsigned_placements, unsigned_signals}
use Rattle.fr_base.proofs.SameFileLaws.{step-replace}
use Rattle.fr_base.proofs.Filling.{marked, Fills, Filling, filled, RowFits, rows-fill}
use Rattle.fr_base.proofs.ExportParts.{export_has_parts}
use Rattle.fr_base.proofs.ExportedLaws.{again, short_enough}
use Rattle.fr_base.proofs.ExportRows.{IsOwn, own-all, items_of, places_of, signals_in, frames_as_rows, placements_as_rows, signals_as_rows, rows_of_frames, placements_bring, signals_bring, places_in, signs_in, places-whole, signals-whole, rows-fit, brought-read, all-read, length-read}
use Rattle.fr_base.proofs.TakenLaws.{among-brought, among-map, found-among, if_named-itself, tested-some}

-- ---- part 0 has all records

no_more : {A B : Type 0} (f : A → B) (xs : List A) → map f xs ≡ [] → xs ≡ []
no_more f [] h = refl
no_more f (x ∷ xs) h = cc

joined-first : {R : Type 0} (part : ℕ → List R) → joined part 1 ≡ part 0
unfolding joined
joined-first part = refl

flat-mapped : {A R : Type 0} (f : A → List R) (xs : List A) → all_of (map f xs) ≡ flat_map f xs
flat-mapped f [] = refl
flat-mapped f (x ∷ xs) = ap (λ l. f x ++ l) (flat-mapped f xs)

-- where part 1 has no records, part 0 has them all
first_has_all : {A R : Type 0} (f : A → List R) (xs : List A) (n : ℕ) → HaveAll (parts (map f xs)) n (all_of (map f xs)) → part_of 1 (map f xs) ≡ [] → part_of 0 (map f xs) ≡ flat_map f xs
first_has_all f xs n have none = sym (joined-first (parts (map f xs))) ∙ have.each_once 1 none ∙ flat-mapped f xs

module _ (c : Cluster) (b : Book) (sound : IsSound c b) (s v : Name) (x : Variant) (found : get b.variants v ≡ Some x) where
  abbrev all_own : List ((Name × Name) × Frame)
  all_own = (own s x.frames).rows

  all_rows : (header : Header) → exported_rows (exported header 1 all_own) ≡ [] → exported_rows (exported header 0 all_own) ≡ rows_of_frames header all_own
  unfolding exported
  all_rows Frames none =
      let have = (export_has_parts c b v x (Supplier s) sound found).0 in
      ap (λ l. exported_rows (FrameRecords l)) (first_has_all frame_records all_own _ have.1 (no_more _ _ none)) ∙ frames_as_rows all_own
  all_rows Placements none =
      let have = (export_has_parts c b v x (Supplier s) sound found).1 in
      ap (λ l. exported_rows (PlacementRecords l)) (first_has_all placement_records all_own _ have.1 (no_more _ _ none)) ∙ placements_as_rows all_own
  all_rows Signals none =
      let have = (export_has_parts c b v x (Supplier s) sound found).2 in
      ap (λ l. exported_rows (SignalRecords l)) (first_has_all signal_records all_own _ have.1 (no_more _ _ none)) ∙ signals_as_rows all_own

-- ---- frames that are cleared lose no more than those that the rows name

-- what is left of a frame that was cleared
abbrev left : Header → List RowRead → Name → Option Frame → Option Frame
left kind reads f o = left_by (cleared kind reads f o)

no_places : (t : Table placement_order ⊤) → map (λ e. e.0) t.rows ≡ [] → empty ≡ t
unfolding empty
no_places t none = sym (same_rows t empty (no_more (λ e. e.0) t.rows none))

unless-same : {A B : Type 0} (xs : List A) (none had : B) → (xs ≡ [] → none ≡ had) → unless_brought xs none none ≡ unless_brought xs none had
unless-same [] none had h = h refl
unless-same (x ∷ xs) none had h = refl

module _ (s : Name) (frames : Table owned Frame) (reads : List RowRead) where
  abbrev es : List ((Name × Name) × Frame)
  es = (own s frames).rows

  found-own : (f : Name) → find owned.compare (s, f) es ≡ get frames (s, f)
  unfolding get
  found-own f = get-passing owned (is_of s) frames (s, f) (same_text-itself s)

  -- a frame is named with its node
  named-own : map (λ read. read.row) reads ≡ map Ok (rows_of_frames Frames es) → (f : Name) (w : Frame) → get frames (s, f) ≡ Some w → list_any (λ read. names_with f w.node read.row) reads ≡ true
  named-own read_as f w there =
      let e = found-among owned (s, f) w es (found-own f ∙ there) in
      let here : IsAmong (row.AddFrame f w.node) (rows_of_frames Frames es) =
      subst (λ r. IsAmong r (rows_of_frames Frames es)) (λ i. row.AddFrame (ap (λ (k : Name × Name). k.1) e.2 i) (ap (λ (v : Frame). v.node) e.3 i))
      (among-map (λ (d : (Name × Name) × Frame). row.AddFrame d.0.1 d.1.node) e.0 es e.1) in
      let read : IsAmong (Ok (row.AddFrame f w.node)) (map (λ read. read.row) reads) = subst (IsAmong (Ok (row.AddFrame f w.node))) (sym read_as) (among-map Ok (row.AddFrame f w.node) (rows_of_frames Frames es) here) in
      is_named_with f w.node reads (tested-some (λ m. same_text m w.node) (nodes_for f reads) w.node (among-brought (node_for f) w.node (Ok (row.AddFrame f w.node)) reads read (if_named-itself f w.node)) (same_text-itself w.node))

  had_places : (o : Option Frame) → map (λ e. e.0) (had_placements o).rows ≡ items_of places_of o
  unfolding empty
  had_places None = refl
  had_places (Some w) = refl

  had_signs : (o : Option Frame) → had_signals o ≡ items_of signals_in o
  had_signs None = refl
  had_signs (Some w) = refl

  frees-whole : (header : Header) → map (λ read. read.row) reads ≡ map Ok (rows_of_frames header es) → (f : Name) (o : Option Frame) →
      Frees (placements_for f reads) (signals_for f reads) (left header reads f (get frames (s, f))) o → Frees (placements_for f reads) (signals_for f reads) (get frames (s, f)) o
  frees-whole Frames read_as f o frees =
      subst (λ z. Frees (placements_for f reads) (signals_for f reads) z o) (left_stays reads f (get frames (s, f)) (λ w there. named-own read_as f w there)) frees
  frees-whole Placements read_as f o frees = record {
    node = frees.node ∙ bare_node reads f (get frames (s, f));
    placements = frees.placements ∙ ap (unless_brought (placements_for f reads) empty) (bare_placements reads f (get frames (s, f)))
        ∙ unless-same (placements_for f reads) empty (had_placements (get frames (s, f))) (λ none. no_places (had_placements (get frames (s, f))) (
        had_places (get frames (s, f)) ∙ ap (items_of places_of) (sym (found-own f))
        ∙ sym (placements_bring s frames es (own s frames).sorted (own-all s frames) f)
        ∙ sym (brought-read (placement_for f) reads (rows_of_frames Placements es) read_as) ∙ none));
    signals = frees.signals ∙ ap (unless_brought (signals_for f reads) []) (bare_signals reads f (get frames (s, f)));
  }
  frees-whole Signals read_as f o frees = record {
    node = frees.node ∙ unsigned_node reads f (get frames (s, f));
    placements = frees.placements ∙ ap (unless_brought (placements_for f reads) empty) (unsigned_placements reads f (get frames (s, f)));
    signals = frees.signals ∙ ap (unless_brought (signals_for f reads) []) (unsigned_signals reads f (get frames (s, f)))
        ∙ unless-same (signals_for f reads) [] (had_signals (get frames (s, f))) (λ none. sym (
        had_signs (get frames (s, f)) ∙ ap (items_of signals_in) (sym (found-own f))
        ∙ sym (signals_bring s frames es (own s frames).sorted (own-all s frames) f)
        ∙ sym (brought-read (signal_for f) reads (rows_of_frames Signals es) read_as) ∙ none));
  }

-- ---- the rows

module _ (c : Cluster) (b : Book) (sound : IsSound c b) (s v : Name) (x : Variant) (found : get b.variants v ≡ Some x) (header : Header) (reads : List RowRead)
    (read_as : map (λ read. read.row) reads ≡ map Ok (rows_of_frames header (own s x.frames).rows)) where
  abbrev begun : Table owned Frame
  begun = clear_all s (Some header) reads x.frames

  fills : Filling s x.frames (λ f. placements_for f reads ++ []) (λ f. signals_for f reads ++ []) (free_rows s reads begun)
  unfolding StayOthers
  fills = record {
    others = λ k other. free-others s reads begun k other ∙ begins-others s (Some header) reads x.frames k other;
    mine = λ f. again (placements_for f reads) (places_in f (rows_of_frames header (own s x.frames).rows)) (signals_for f reads) (signs_in f (rows_of_frames header (own s x.frames).rows)) _ _
        (brought-read (placement_for f) reads (rows_of_frames header (own s x.frames).rows) read_as) (brought-read (signal_for f) reads (rows_of_frames header (own s x.frames).rows) read_as)
        (frees-whole s x.frames reads header read_as f _
        (subst (λ o. Frees (placements_for f reads) (signals_for f reads) o (get (free_rows s reads begun) (s, f))) (begins-mine s (Some header) reads x.frames f) (free_rows-free s f reads begun)))
        (places-whole s x.frames (own s x.frames).rows (own s x.frames).sorted (own-all s x.frames) header f)
        (signals-whole s x.frames (own s x.frames).rows (own s x.frames).sorted (own-all s x.frames) header f);
  }

  -- they give back the frames as they were
  runs_back : run_in c.params b s v x true (free_rows s reads begun) reads ≡ Ok x.frames
  runs_back =
      let run = rows-fill s x.frames c.params b v x (sound.variants v x found).1 true reads (free_rows s reads begun) (λ f. []) (λ f. [])
      (all-read (RowFits s x.frames) reads (rows_of_frames header (own s x.frames).rows) read_as (rows-fit s x.frames header (own s x.frames).rows (own-all s x.frames))) fills in
      run.1 ∙ ap Ok (filled s x.frames run.0 run.2)

pub whole_export_changes_nothing : WholeExportChangesNothing
unfolding replace outcome replaced lifted
whole_export_changes_nothing c b s v x header body sound known found open_now short is are none =
    let reads : List RowRead = rows_of_body c.params body in
    let rows : List Row = exported_rows (exported header 0 (own s x.frames).rows) in
    let read_as : map (λ read. read.row) reads ≡ map Ok (rows_of_frames header (own s x.frames).rows) = are ∙ ap (map Ok) (all_rows c b sound s v x found header none) in
    step-replace c b s v body true known (sound.variants v x found).0
    ∙ ap (outcome b) (
    past_or _ _ x _ found
    ∙ past_when _ x.released _ open_now
    ∙ past_when _ (nat_lt MAX_IMPORT_BYTES (length body)) _ (short_enough (length body) short)
    ∙ ap (λ z. Ok (replaced b (length reads) z)) (
    replace_rows-lift c.params b s v x open_now known reads (free_rows s reads (clear_all s (header_of_body body) reads x.frames))
    ∙ ap (λ h. lifted c.params b s v x (run_in c.params b s v x true (free_rows s reads (clear_all s h reads x.frames)) reads)) is
    ∙ ap (lifted c.params b s v x) (runs_back c b sound s v x found header reads read_as)))
    ∙ (λ i. record { book = record b { variants = insert-same b.variants v x found i }; answer = Replaced (length-read reads rows are i) })
