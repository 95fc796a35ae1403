-- An export that is imported elsewhere brings the supplier's frames along: first the frames are added, and then they are filled.
use Rattle.std.proofs.Common.{◌≡◌, ℕ, suc, ◌-◌, ◌≤◌, Bool, true, false, cond, nat_le, List, [], ◌∷◌, ◌++◌, map, flat_map, length, Option, Some, None, option_map, Result, Ok, IsTrue, refl, sym, ap, subst, ◌∙◌, arith, append_assoc, append-nil}
use Rattle.std.specs.Prelude.{T}
use Rattle.std.specs.List.{AllByRecursion}
use Rattle.std.specs.Ordering.{eq_by_cmp}
use Rattle.std.specs.FinMap.Entries.{find, is_sorted}
use Rattle.std.proofs.lemmas.Bool.Decides.{nat_tests}
use Rattle.std.proofs.lemmas.Grind.{flat_map-append}
use Rattle.std.proofs.lemmas.List.{map-append, length-map}
use Rattle.fr_base.specs.TableRows.{is_sorted-map}
use Rattle.fr_base.specs.Tables.{Table, empty, get, contains, len}
use Rattle.fr_base.specs.Keys.{owned}
use Rattle.fr_base.specs.Alone.{answers_to, book_after}
use Rattle.fr_base.specs.Names.{is_name}
use Rattle.fr_base.specs.Signals.{SignalData}
use Rattle.fr_base.specs.Book.{Frame, Variant, Book, is_of, own, own_grants}
use Rattle.fr_base.specs.Brought.{placement_for, signal_for}
use Rattle.fr_base.specs.Cluster.{Cluster}
use Rattle.fr_base.specs.Exports.{fitting, part_of, frame_records, placement_records, signal_records, exported}
use Rattle.fr_base.specs.ExportedLaws.{exported_rows, File, import_of, ArePartsFrom, MayBeKept, IsBroughtAlong, ExportIsImported}
use Rattle.fr_base.specs.ImportRows.{rows_of_body}
use Rattle.fr_base.specs.Sound.{IsSoundVariant}
use Rattle.fr_base.specs.Step.{RefusedAt}
use Rattle.fr_base.specs.declared.answer.Answer.{Answer}
use Rattle.fr_base.specs.declared.answer.Answer.TheVariants.{Imported}
use Rattle.fr_base.specs.declared.answer.ReportRows.TheVariants.{FrameRecords, PlacementRecords, SignalRecords}
use Rattle.fr_base.specs.declared.import.Header.{Header}
use Rattle.fr_base.specs.declared.import.Header.TheVariants.{Frames, Placements, Signals}
use Rattle.fr_base.specs.declared.import.Row.{Row}
use Rattle.fr_base.specs.declared.import.Row.TheVariants.{AddFrame, Place, AddSignal}
use Rattle.fr_base.specs.declared.import.RowRead.{RowRead}
use Rattle.fr_base.specs.declared.limits.TheConstants.{MAX_ROWS, MAX_FRAMES}
use Rattle.fr_base.specs.declared.name.Name.{Name}
use Rattle.fr_base.specs.declared.params.Params.{Params}
use Rattle.fr_base.specs.declared.placement.Placement.{Placement}
use Rattle.fr_base.proofs.SoundTables.{get-passing}
use Rattle.fr_base.proofs.SoundRows.{same_text-is}
use Rattle.fr_base.proofs.AloneCells.{same_text-itself}
use Rattle.fr_base.proofs.FrameRuns.{run_in}
use Rattle.fr_base.proofs.BroughtLemmas.{node_of}
use Rattle.fr_base.proofs.Filling.{Fills, Filling, Fits, filled, rows-fill}
use Rattle.fr_base.proofs.ExportRows.{Entry, IsOwn, own-all, all-front, all-back, all-append, fitting-whole, rows_of_frames, frames_as_rows, placements_as_rows, signals_as_rows, places_of, signals_in, items_of, marked-places, places_in, signs_in, placements_bring, signals_bring, placements_sign_none, signals_place_none, brought-read, all-read}
use Rattle.fr_base.proofs.BroughtAlong.{full, full-mine, full-others, full-own, full-sound}
use Rattle.fr_base.proofs.AddedFrames.{new_frame, news, Adding, IsAdding, rows-add}
use Rattle.fr_base.proofs.ImportedFiles.{AreRows, rows-append, Now, with_frames, AreImported, files-run, answers-append, book-append}

-- ---- parts that come one after another

module _ {E R : Type 0} (h : E → List R) where
  abbrev AreFew : List E → Type 0
  AreFew es = AllByRecursion (λ e. length (h e) ≤ MAX_ROWS) es

  fits : (e : E) → length (h e) ≤ MAX_ROWS → nat_le (length (h e)) MAX_ROWS ≡ true
  fits e few = grind (arith, nat_tests)

  nothing : (xs ys : List R) → xs ++ ys ≡ [] → (xs ≡ []) × (ys ≡ [])
  nothing [] ys e = (refl, e)
  nothing (x ∷ xs) ys e = cc

  -- where the first part has no records, there are none
  none-fit : (es : List E) → AreFew es → (fitting MAX_ROWS (map h es)).0 ≡ [] → flat_map h es ≡ []
  unfolding fitting
  none-fit [] few e = refl
  none-fit (x ∷ es) few e =
      let parts = nothing (h x) (fitting (MAX_ROWS - length (h x)) (map h es)).0 (rw (fits x few.0) at e) in
      let rest = none-fit es few.1 (ap (λ l. (fitting (MAX_ROWS - length l) (map h es)).0) (sym parts.0) ∙ parts.1) in
      λ i. parts.0 i ++ rest i

no_rows : {A : Type 0} (f : A → Row) (xs : List A) → map f xs ≡ [] → xs ≡ []
no_rows f [] e = refl
no_rows f (x ∷ xs) e = cc

-- the first part is of the first frames, and the others are those of the others
record FirstPart (header : Header) (es : List Entry) : Type 0 where
  seg : List Entry
  rest : List Entry
  all : es ≡ seg ++ rest
  rows : exported_rows (exported header 0 es) ≡ rows_of_frames header seg
  others : (part : ℕ) → exported header (suc part) es ≡ exported header part rest

first_part : (header : Header) (es : List Entry) → FirstPart header es
unfolding exported part_of
first_part Frames es = let now = fitting-whole frame_records MAX_ROWS es in
    record { seg = now.seg; rest = now.rest; all = now.all; rows = ap (λ l. exported_rows (FrameRecords l)) now.fits ∙ frames_as_rows now.seg; others = λ part. ap (λ l. FrameRecords (part_of part l)) now.left }
first_part Placements es = let now = fitting-whole placement_records MAX_ROWS es in
    record { seg = now.seg; rest = now.rest; all = now.all; rows = ap (λ l. exported_rows (PlacementRecords l)) now.fits ∙ placements_as_rows now.seg; others = λ part. ap (λ l. PlacementRecords (part_of part l)) now.left }
first_part Signals es = let now = fitting-whole signal_records MAX_ROWS es in
    record { seg = now.seg; rest = now.rest; all = now.all; rows = ap (λ l. exported_rows (SignalRecords l)) now.fits ∙ signals_as_rows now.seg; others = λ part. ap (λ l. SignalRecords (part_of part l)) now.left }

-- no frame has more records than a part
record IsFew (e : Entry) : Type 0 where
  placements : length (placement_records e) ≤ MAX_ROWS
  signals : length (signal_records e) ≤ MAX_ROWS

all_by : {X : Type 0} (P Q : X → Type 0) (xs : List X) → ((x : X) → P x → Q x) → AllByRecursion P xs → AllByRecursion Q xs
all_by P Q [] more h = tt
all_by P Q (x ∷ xs) more h = (more x h.0, all_by P Q xs more h.1)

none_left : (header : Header) (es : List Entry) → AllByRecursion IsFew es → exported_rows (exported header 0 es) ≡ [] → rows_of_frames header es ≡ []
unfolding exported part_of
none_left Frames es few e =
    sym (frames_as_rows es) ∙ ap (λ l. exported_rows (FrameRecords l)) (none-fit frame_records es (all_by IsFew _ es (λ x h. omega arith) few) (no_rows _ _ e))
none_left Placements es few e =
    sym (placements_as_rows es) ∙ ap (λ l. exported_rows (PlacementRecords l)) (none-fit placement_records es (all_by IsFew _ es (λ x h. h.placements) few) (no_rows _ _ e))
none_left Signals es few e =
    sym (signals_as_rows es) ∙ ap (λ l. exported_rows (SignalRecords l)) (none-fit signal_records es (all_by IsFew _ es (λ x h. h.signals) few) (no_rows _ _ e))

rows_of-append : (header : Header) (xs ys : List Entry) → rows_of_frames header (xs ++ ys) ≡ rows_of_frames header xs ++ rows_of_frames header ys
rows_of-append Frames xs ys = map-append (λ e. AddFrame e.0.1 e.1.node) xs ys
rows_of-append Placements xs ys = flat_map-append _ xs ys
rows_of-append Signals xs ys = flat_map-append _ xs ys

module _ (p : Params) (header : Header) where
  -- the parts behind the first are those of other frames
  later_parts : (es ds : List Entry) → ((part : ℕ) → exported header (suc part) es ≡ exported header part ds) → (n : ℕ) (files : List File) → ArePartsFrom p header es (suc n) files → ArePartsFrom p header ds n files
  later_parts es ds same n [] are = ap exported_rows (sym (same n)) ∙ are
  later_parts es ds same n (file ∷ files) are = (are.0 ∙ ap (λ r. map Ok (exported_rows r)) (same n), later_parts es ds same (suc n) files are.1)

  -- the parts, one after another, have the rows of all frames
  parts_rows : (files : List File) (es : List Entry) (more : List Row) → AllByRecursion IsFew es → ArePartsFrom p header es 0 files → AreRows p files (rows_of_frames header es ++ more) more
  parts_rows [] es more few are = ap (λ l. l ++ more) (none_left header es few are)
  parts_rows (file ∷ files) es more few are =
      let now = first_part header es in
      let rest = parts_rows files now.rest more (all-back IsFew now.seg now.rest (subst (AllByRecursion IsFew) now.all few)) (later_parts es now.rest now.others 0 files are.1) in (
        rows_of_frames header now.seg,
        (
          rows_of_frames header now.rest ++ more,
          ap (λ l. rows_of_frames header l ++ more) now.all ∙ ap (λ l. l ++ more) (rows_of-append header now.seg now.rest) ∙ append_assoc (rows_of_frames header now.seg) (rows_of_frames header now.rest) more,
          are.0 ∙ ap (map Ok) now.rows,
          rest,
        ),
      )

-- ---- frames that are added and then filled

module _ (s : Name) where
  -- a frame as it is added
  abbrev bared : Frame → Frame
  bared w = new_frame w.node

  abbrev bared_all : List Entry → List Entry
  bared_all es = map (λ e. (e.0, bared e.1)) es

  find-bared : (k : Name × Name) (es : List Entry) → find owned.compare k (bared_all es) ≡ option_map bared (find owned.compare k es)
  find-bared k [] = refl
  find-bared k (e ∷ es) = by (eq_by_cmp owned.compare k e.0) (find-bared k es)
    where
      by : (b : Bool) → find owned.compare k (bared_all es) ≡ option_map bared (find owned.compare k es) →
          cond b (Some (bared e.1)) (find owned.compare k (bared_all es)) ≡ option_map bared (cond b (Some e.1) (find owned.compare k es))
      by true h = refl
      by false h = h

  -- the rows of frames add them
  news-all : (frames : Table owned Frame) (es : List Entry) → AllByRecursion (IsOwn s frames) es → news s (rows_of_frames Frames es) ≡ bared_all es
  news-all frames [] mine = refl
  news-all frames (e ∷ es) mine =
      λ i. ((sym (same_text-is e.0.0 s mine.0.1) i, e.0.1), bared e.1) ∷ news-all frames es mine.1 i

  adding-all : (frames : Table owned Frame) (es : List Entry) → AllByRecursion (IsOwn s frames) es → AllByRecursion (IsAdding s frames) (rows_of_frames Frames es)
  adding-all frames [] mine = tt
  adding-all frames (e ∷ es) mine =
      (ap (λ n. node_of (get frames (n, e.0.1))) (sym (same_text-is e.0.0 s mine.0.1)) ∙ ap node_of mine.0.0, adding-all frames es mine.1)

  -- such a frame is filled by all that it had
  bared-fills : (o : Option Frame) → Fills (items_of places_of o) (items_of signals_in o) (option_map bared o) o
  unfolding empty
  bared-fills None = record { node = refl; placements = refl; signals = refl }
  bared-fills (Some w) = record { node = refl; placements = marked-places w.placements.rows; signals = refl }

  -- the other rows add no frame
  module _ (frames : Table owned Frame) where
    places-fit : (f n : Name) → node_of (get frames (s, f)) ≡ Some n → (qs : List Placement) → AllByRecursion (Fits s frames false) (map (Place f n) qs)
    places-fit f n of [] = tt
    places-fit f n of (q ∷ qs) = (of, places-fit f n of qs)

    signs-fit : (f : Name) (xs : List SignalData) → AllByRecursion (Fits s frames false) (map (AddSignal f) xs)
    signs-fit f [] = tt
    signs-fit f (x ∷ xs) = (tt, signs-fit f xs)

    placements-fit : (es : List Entry) → AllByRecursion (IsOwn s frames) es → AllByRecursion (Fits s frames false) (rows_of_frames Placements es)
    placements-fit [] mine = tt
    placements-fit (e ∷ es) mine =
        let of : node_of (get frames (s, e.0.1)) ≡ Some e.1.node = ap (λ n. node_of (get frames (n, e.0.1))) (sym (same_text-is e.0.0 s mine.0.1)) ∙ ap node_of mine.0.0 in
        all-append _ (map (Place e.0.1 e.1.node) (places_of e.1)) _ (places-fit e.0.1 e.1.node of (places_of e.1)) (placements-fit es mine.1)

    signals-fit : (es : List Entry) → AllByRecursion (Fits s frames false) (rows_of_frames Signals es)
    signals-fit [] = tt
    signals-fit (e ∷ es) = all-append _ (map (AddSignal e.0.1) e.1.signals) _ (signs-fit e.0.1 e.1.signals) (signals-fit es)

-- ---- the frames of the one variant in the other

module _ (c : Cluster) (b d : Book) (s v : Name) (x y : Variant) (open_now : y.released ≡ false) (named : IsTrue (is_name v)) (found : get b.variants v ≡ Some y) (known : contains b.suppliers s ≡ true)
    (here : IsSoundVariant c.params b.nodes y) (there : IsSoundVariant c.params d.nodes x)
    (same_nodes : own s b.nodes ≡ own s d.nodes) (same_grants : own_grants s y.grants ≡ own_grants s x.grants) (none : own s y.frames ≡ empty) where
  abbrev es : List Entry
  es = (own s x.frames).rows

  abbrev all : Table owned Frame
  all = full s x y none

  abbrev goal : List Entry
  goal = bared_all s es

  abbrev IsNow : Book → Table owned Frame → Type 0
  IsNow now t = Now c b s v y open_now named now t

  abbrev run : Book → Table owned Frame → List RowRead → Result (Table owned Frame) RefusedAt
  run now t reads = run_in c.params now s v (with_frames c b s v y open_now named t) false t reads

  sound : IsSoundVariant c.params b.nodes (record y { frames = all })
  sound = full-sound s x y none c.params b.nodes d.nodes same_nodes same_grants here there

  sound_in : (now : Book) (t : Table owned Frame) → IsNow now t → IsSoundVariant c.params now.nodes (record y { frames = all })
  sound_in now t is = subst (λ nodes. IsSoundVariant c.params nodes (record y { frames = all })) (sym is.nodes) sound

  sorted : T (is_sorted owned.compare goal)
  sorted = is_sorted-map owned.compare (λ w. bared s w) es (own s x.frames).sorted

  few-frames : length goal ≤ MAX_FRAMES
  unfolding len
  few-frames = subst (λ n. n ≤ MAX_FRAMES) (sym (length-map es _)) (there.frame_limit s)

  few-records : AllByRecursion IsFew es
  unfolding len
  few-records = all_by (IsOwn s x.frames) IsFew es (λ e mine.
      let frame = there.frames e.0 e.1 mine.0 in
      let placements : length e.1.placements.rows ≤ 8 = frame.limit in
      let signals : length e.1.signals ≤ 64 = frame.layout.count in
      record {
        placements = subst (λ n. n ≤ MAX_ROWS) (sym (length-map e.1.placements.rows _)) (omega (arith, placements));
        signals = subst (λ n. n ≤ MAX_ROWS) (sym (length-map e.1.signals _)) (omega (arith, signals));
      }) (own-all s x.frames)

  mine : AllByRecursion (IsOwn s all) es
  mine = all_by (IsOwn s x.frames) (IsOwn s all) es (λ e was. (full-mine s x y none e.0 was.1 ∙ was.0, was.1)) (own-all s x.frames)

  -- ---- first frames are added

  abbrev AddsRows : List Row → Table owned Frame → Type 0
  AddsRows rows t = Adding s y.frames goal rows t × AllByRecursion (IsAdding s all) rows

  adds : (now : Book) (t : Table owned Frame) → IsNow now t → (reads : List RowRead) (rows more : List Row) → map (λ read. read.row) reads ≡ map Ok rows → AddsRows (rows ++ more) t →
      (u : Table owned Frame) × (run now t reads ≡ Ok u) × AddsRows more u
  adds now t is reads rows more are holds =
      let done = rows-add s y.frames all goal sorted few-frames c.params now v (with_frames c b s v y open_now named t) (sound_in now t is) reads rows more are (all-front _ rows more holds.1) t holds.0 in
      (done.0, done.1, (done.2, all-back _ rows more holds.1))

  adds-begin : AddsRows (rows_of_frames Frames es ++ []) y.frames
  unfolding empty
  adds-begin =
      subst (λ rows. AddsRows rows y.frames) (sym (append-nil (rows_of_frames Frames es))) (
        record {
          others = λ k other. refl;
          mine = ap (λ (t : Table owned Frame). t.rows ++ news s (rows_of_frames Frames es)) none ∙ news-all s x.frames es (own-all s x.frames);
        },
        adding-all s all es mine,
      )

  -- ---- then they are filled

  abbrev FillsRows : List Row → Table owned Frame → Type 0
  FillsRows rows t = Filling s all (λ f. places_in f rows) (λ f. signs_in f rows) t × AllByRecursion (Fits s all false) rows

  fills : (now : Book) (t : Table owned Frame) → IsNow now t → (reads : List RowRead) (rows more : List Row) → map (λ read. read.row) reads ≡ map Ok rows → FillsRows (rows ++ more) t →
      (u : Table owned Frame) × (run now t reads ≡ Ok u) × FillsRows more u
  fills now t is reads rows more are holds =
      let done = rows-fill s all c.params now v (with_frames c b s v y open_now named t) (sound_in now t is) false reads t (λ f. places_in f more) (λ f. signs_in f more)
      (all-read (Fits s all false) reads rows are (all-front _ rows more holds.1))
      (subst (λ (z : (Name → List Placement) × (Name → List SignalData)). Filling s all z.0 z.1 t)
      (λ i. (
        λ f. (flat_map-append (λ r. placement_for f (Ok r)) rows more ∙ ap (λ l. l ++ places_in f more) (sym (brought-read (placement_for f) reads rows are))) i,
        λ f. (flat_map-append (λ r. signal_for f (Ok r)) rows more ∙ ap (λ l. l ++ signs_in f more) (sym (brought-read (signal_for f) reads rows are))) i,
      )) holds.0) in
      (done.0, done.1, (done.2, all-back _ rows more holds.1))

  abbrev others : List Row
  others = rows_of_frames Placements es ++ (rows_of_frames Signals es ++ [])

  fills-begin : (t : Table owned Frame) → Adding s y.frames goal [] t → FillsRows others t
  unfolding get
  fills-begin t added = (
    record {
      others = λ k other. added.others k other ∙ sym (full-others s x y none k other);
      mine = λ f.
          let o : Option Frame = find owned.compare (s, f) es in
          let is : get t (s, f) ≡ option_map (bared s) o =
          sym (get-passing owned (is_of s) t (s, f) (same_text-itself s)) ∙ ap (find owned.compare (s, f)) (sym (append-nil (own s t).rows) ∙ added.mine) ∙ find-bared s (s, f) es in
          let was : get all (s, f) ≡ o = full-mine s x y none (s, f) (same_text-itself s) ∙ sym (get-passing owned (is_of s) x.frames (s, f) (same_text-itself s)) in
          let places : places_in f others ≡ items_of places_of o =
          flat_map-append (λ r. placement_for f (Ok r)) (rows_of_frames Placements es) (rows_of_frames Signals es ++ [])
          ∙ (λ i. placements_bring s x.frames es (own s x.frames).sorted (own-all s x.frames) f i ++ (ap (places_in f) (append-nil (rows_of_frames Signals es)) ∙ signals_place_none f es) i)
          ∙ append-nil (items_of places_of o) in
          let signs : signs_in f others ≡ items_of signals_in o =
          flat_map-append (λ r. signal_for f (Ok r)) (rows_of_frames Placements es) (rows_of_frames Signals es ++ [])
          ∙ (λ i. placements_sign_none f es i ++ (ap (signs_in f) (append-nil (rows_of_frames Signals es)) ∙ signals_bring s x.frames es (own s x.frames).sorted (own-all s x.frames) f) i) in
          subst (λ (z : (List Placement × List SignalData) × (Option Frame × Option Frame)). Fills z.0.0 z.0.1 z.1.0 z.1.1)
          (λ i. ((sym places i, sym signs i), (sym is i, sym was i))) (bared-fills s o);
    },
    all-append _ (rows_of_frames Placements es) (rows_of_frames Signals es ++ []) (placements-fit s all es mine) (all-append _ (rows_of_frames Signals es) [] (signals-fit s all es) tt),
  )

  -- ---- all files

  module _ (frames placements signals : List File)
      (are_frames : ArePartsFrom c.params Frames es 0 frames) (are_placements : ArePartsFrom c.params Placements es 0 placements) (are_signals : ArePartsFrom c.params Signals es 0 signals)
      (may : MayBeKept b s (frames ++ (placements ++ signals))) where
    abbrev answered : List File → List Answer
    answered files = map (λ file. Imported (length (rows_of_body c.params file.body))) files

    first : AreImported c b s v y open_now named AddsRows adds frames (placements ++ signals) [] b
    first = files-run c b s v y open_now named AddsRows adds frames (placements ++ signals) (rows_of_frames Frames es ++ []) [] b y.frames
        (record { nodes = refl; there = found; known = known }) may (parts_rows c.params Frames frames es [] few-records are_frames) adds-begin

    abbrev mid : Book
    mid = book_after c b (map (import_of s v) frames)

    then_all : AreImported c b s v y open_now named FillsRows fills (placements ++ signals) [] [] mid
    then_all = files-run c b s v y open_now named FillsRows fills (placements ++ signals) [] others [] mid first.frames first.now
        (subst (MayBeKept mid s) (sym (append-nil (placements ++ signals))) first.may)
        (rows-append c.params placements signals others (rows_of_frames Signals es ++ []) []
        (parts_rows c.params Placements placements es (rows_of_frames Signals es ++ []) few-records are_placements)
        (parts_rows c.params Signals signals es [] few-records are_signals))
        (fills-begin first.frames first.holds.0)

    pub all-answered : answers_to c b (map (import_of s v) (frames ++ (placements ++ signals))) ≡ answered (frames ++ (placements ++ signals))
    all-answered =
        answers-append c s v frames (placements ++ signals) b
        ∙ (λ i. first.answers i ++ then_all.answers i)
        ∙ sym (map-append (λ file. Imported (length (rows_of_body c.params file.body))) frames (placements ++ signals))

    pub all-there : IsBroughtAlong s x y v (book_after c b (map (import_of s v) (frames ++ (placements ++ signals))))
    all-there =
        let full : then_all.frames ≡ all = filled s all then_all.frames then_all.holds.0 in
        record {
          frames = then_all.frames;
          there = ap (λ (z : Book). get z.variants v) (book-append c s v frames (placements ++ signals) b) ∙ then_all.now.there;
          mine = ap (own s) full ∙ full-own s x y none;
          others = λ k other. ap (λ t. get t k) full ∙ full-others s x y none k other;
        }

pub is_imported : ExportIsImported
is_imported c e b d s v w x y frames placements signals sound_b sound_d same known found_x found_y open_now nodes grants none are_frames are_placements are_signals may =
    let here = sound_b.variants v y found_y in
    let there : IsSoundVariant c.params d.nodes x = subst (λ p. IsSoundVariant p d.nodes x) (sym same) (sound_d.variants w x found_x).1 in (
      all-answered c b d s v x y open_now here.0 found_y known here.1 there nodes grants none frames placements signals are_frames are_placements are_signals may,
      all-there c b d s v x y open_now here.0 found_y known here.1 there nodes grants none frames placements signals are_frames are_placements are_signals may,
    )
