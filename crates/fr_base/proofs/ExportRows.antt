-- The records of a part of an export as rows: they are those of some whole frames, one after another.
use Rattle.std.proofs.Common.{◌≡◌, ℕ, zero, suc, ◌-◌, Bool, true, false, cond, List, [], ◌∷◌, ◌++◌, map, flat_map, length, Option, Some, None, Result, Ok, refl, sym, ap, subst, ◌∙◌, ◌⊎◌, inl, inr, append_assoc, append-nil, true≢false}
use Rattle.std.specs.Prelude.{⊤, T, nat_le}
use Rattle.std.specs.List.{AllByRecursion}
use Rattle.std.specs.Ordering.{eq_by_cmp}
use Rattle.std.specs.FinMap.Entries.{find, is_sorted, below_all}
use Rattle.std.proofs.lemmas.Bool.{cases_Bool}
use Rattle.std.proofs.lemmas.Grind.{flat_map-append}
use Rattle.fr_base.specs.TableRows.{both, first, second}
use Rattle.fr_base.specs.Tables.{Order, Table, get}
use Rattle.fr_base.specs.Keys.{owned}
use Rattle.fr_base.specs.Names.{same_text}
use Rattle.fr_base.specs.Signals.{SignalData}
use Rattle.fr_base.specs.Book.{Frame, is_of, own}
use Rattle.fr_base.specs.Exports.{fitting, part_of, frame_records, placement_records, signal_records, exported}
use Rattle.fr_base.specs.Brought.{if_named, placement_for, signal_for, had_placements, had_signals}
use Rattle.fr_base.specs.ExportedLaws.{exported_rows}
use Rattle.fr_base.specs.declared.limits.TheConstants.{MAX_ROWS}
use Rattle.fr_base.specs.declared.answer.PlacementRecord.{PlacementRecord}
use Rattle.fr_base.specs.declared.answer.SignalRecord.{SignalRecord}
use Rattle.fr_base.specs.declared.answer.ReportRows.TheVariants.{FrameRecords, PlacementRecords, SignalRecords}
use Rattle.fr_base.specs.declared.import.Header.{Header}
use Rattle.fr_base.specs.declared.import.Header.TheVariants.{Frames, Placements, Signals}
use Rattle.fr_base.specs.declared.import.Row.{Row}
use Rattle.fr_base.specs.declared.import.Row.TheVariants.{AddFrame, Place, AddSignal}
use Rattle.fr_base.specs.declared.import.RowRead.{RowRead}
use Rattle.fr_base.specs.declared.name.Name.{Name}
use Rattle.fr_base.specs.declared.placement.Placement.{Placement}
use Rattle.fr_base.specs.declared.refusal.Refusal.{Refusal}
use Rattle.fr_base.proofs.TableLaws.{equal, get-only, none_above, kept}
use Rattle.fr_base.proofs.SoundTables.{same_key, only-stood}
use Rattle.fr_base.proofs.SoundRows.{same_text-is}
use Rattle.fr_base.proofs.AloneCells.{same_text-itself}
use Rattle.fr_base.proofs.BroughtLemmas.{node_of}
use Rattle.fr_base.proofs.Filling.{RowFits, marked}

-- a frame with its key
abbrev pub Entry : Type 0
Entry = (Name × Name) × Frame

-- ---- a part is of whole frames

module _ {E R : Type 0} (h : E → List R) where
  -- the first of them, and what is left
  pub record FittingIsWhole (room : ℕ) (es : List E) : Type 0 where
    pub seg : List E
    pub rest : List E
    pub fits : (fitting room (map h es)).0 ≡ flat_map h seg
    pub left : (fitting room (map h es)).1 ≡ map h rest
    pub all : es ≡ seg ++ rest

  pub fitting-whole : (room : ℕ) (es : List E) → FittingIsWhole room es
  unfolding fitting
  fitting-whole room [] = record { seg = []; rest = []; fits = refl; left = refl; all = refl }
  fitting-whole room (e ∷ es) =
      let more = fitting-whole (room - length (h e)) es in
      elim (cases_Bool (nat_le (length (h e)) room)) [
        | inl fits ↦ record {
          seg = e ∷ more.seg;
          rest = more.rest;
          fits = rw fits (ap (λ l. h e ++ l) more.fits);
          left = rw fits more.left;
          all = ap (λ l. e ∷ l) more.all;
        }
        | inr full ↦ record { seg = []; rest = e ∷ es; fits = rw full refl; left = rw full refl; all = refl }
      ]

  -- some of them, between others
  pub record PartIsWhole (n : ℕ) (es : List E) : Type 0 where
    pub front : List E
    pub seg : List E
    pub rest : List E
    pub part : part_of n (map h es) ≡ flat_map h seg
    pub all : es ≡ front ++ (seg ++ rest)

  pub part-whole : (n : ℕ) (es : List E) → PartIsWhole n es
  unfolding part_of
  part-whole zero es = let now = fitting-whole MAX_ROWS es in record { front = []; seg = now.seg; rest = now.rest; part = now.fits; all = now.all }
  part-whole (suc n) es =
      let now = fitting-whole MAX_ROWS es in
      let more = part-whole n now.rest in
      record {
        front = now.seg ++ more.front;
        seg = more.seg;
        rest = more.rest;
        part = ap (part_of n) now.left ∙ more.part;
        all = now.all ∙ ap (λ l. now.seg ++ l) more.all ∙ sym (append_assoc now.seg more.front (more.seg ++ more.rest));
      }

-- ---- frames of a table, in order

module _ {K V : Type 0} (o : Order K) where
  -- each row of a table is found by its key
  pub rows_found : (es : List (K × V)) → T (is_sorted o.compare es) → AllByRecursion (λ e. find o.compare e.0 es ≡ Some e.1) es
  rows_found [] sorted = tt
  rows_found (x ∷ es) sorted = (here, more es (rows_found es (second _ _ sorted)))
    where
      here : find o.compare x.0 (x ∷ es) ≡ Some x.1
      here = ap (λ b. cond b (Some x.1) (find o.compare x.0 es)) (same_key o x.0)

      behind : (e : K × V) → find o.compare e.0 es ≡ Some e.1 → find o.compare e.0 (x ∷ es) ≡ Some e.1
      behind e there = elim (cases_Bool (eq_by_cmp o.compare e.0 x.0)) [
        | inl tie ↦ let none = none_above o (λ j w. true) e.0 x.0 es (equal _ tie) (first _ _ sorted) in cc
        | inr other ↦ rw other there
      ]

      more : (ds : List (K × V)) → AllByRecursion (λ e. find o.compare e.0 es ≡ Some e.1) ds → AllByRecursion (λ e. find o.compare e.0 (x ∷ es) ≡ Some e.1) ds
      more [] all = tt
      more (e ∷ ds) all = (behind e all.0, more ds all.1)

  below-front : (k : K) (xs ys : List (K × V)) → T (below_all o.compare k (xs ++ ys)) → T (below_all o.compare k xs)
  below-front k [] ys h = tt
  below-front k (x ∷ xs) ys h = both _ _ (first _ _ h) (below-front k xs ys (second _ _ h))

  sorted-front : (xs ys : List (K × V)) → T (is_sorted o.compare (xs ++ ys)) → T (is_sorted o.compare xs)
  sorted-front [] ys h = tt
  sorted-front (x ∷ xs) ys h = both _ _ (below-front x.0 xs ys (first _ _ h)) (sorted-front xs ys (second _ _ h))

  sorted-back : (xs ys : List (K × V)) → T (is_sorted o.compare (xs ++ ys)) → T (is_sorted o.compare ys)
  sorted-back [] ys h = h
  sorted-back (x ∷ xs) ys h = sorted-back xs ys (second _ _ h)

  pub sorted-mid : (front seg rest : List (K × V)) → T (is_sorted o.compare (front ++ (seg ++ rest))) → T (is_sorted o.compare seg)
  sorted-mid front seg rest h = sorted-front seg rest (sorted-back front (seg ++ rest) h)

module _ {X : Type 0} (P : X → Type 0) where
  pub all-front : (xs ys : List X) → AllByRecursion P (xs ++ ys) → AllByRecursion P xs
  all-front [] ys h = tt
  all-front (x ∷ xs) ys h = (h.0, all-front xs ys h.1)

  pub all-mid : (front seg rest : List X) → AllByRecursion P (front ++ (seg ++ rest)) → AllByRecursion P seg
  all-mid [] seg rest h = all-front seg rest h
  all-mid (x ∷ front) seg rest h = all-mid front seg rest h.1

  pub all-append : (xs ys : List X) → AllByRecursion P xs → AllByRecursion P ys → AllByRecursion P (xs ++ ys)
  all-append [] ys h k = k
  all-append (x ∷ xs) ys h k = (h.0, all-append xs ys h.1 k)

  pub all-back : (xs ys : List X) → AllByRecursion P (xs ++ ys) → AllByRecursion P ys
  all-back [] ys h = h
  all-back (x ∷ xs) ys h = all-back xs ys h.1

module _ (s : Name) (frames : Table owned Frame) where
  -- it is a frame of the supplier, and it is there
  abbrev pub IsOwn : Entry → Type 0
  IsOwn e = (get frames e.0 ≡ Some e.1) × (is_of s e.0 ≡ true)

  passed : (k : Name × Name) (o : Option Frame) (f : Frame) → kept (λ j _. is_of s j) k o ≡ Some f → is_of s k ≡ true
  passed k None f h = cc
  passed k (Some w) f h = elim (cases_Bool (is_of s k)) [ inl own ↦ own | inr other ↦ let no = rw other at h in cc ]

  pub own-all : AllByRecursion IsOwn (own s frames).rows
  unfolding get
  own-all = all (own s frames).rows (rows_found owned (own s frames).rows (own s frames).sorted)
    where
      all : (es : List Entry) → AllByRecursion (λ e. find owned.compare e.0 (own s frames).rows ≡ Some e.1) es → AllByRecursion IsOwn es
      all [] h = tt
      all (e ∷ es) h = (
        (
          only-stood owned (λ k _. is_of s k) frames e.0 e.1 h.0,
          passed e.0 (get frames e.0) e.1 (sym (get-only owned (λ k _. is_of s k) frames e.0) ∙ h.0),
        ),
        all es h.1,
      )

  -- what is found among them is there
  pub own-found : (es : List Entry) → AllByRecursion IsOwn es → (k : Name × Name) (w : Frame) → find owned.compare k es ≡ Some w → get frames k ≡ Some w
  own-found [] own k w h = cc
  own-found (e ∷ es) own k w h = elim (cases_Bool (eq_by_cmp owned.compare k e.0)) [
    | inl tie ↦ ap (get frames) (owned.exact k e.0 (equal _ tie)) ∙ own.0.0 ∙ rw tie at h
    | inr other ↦ own-found es own.1 k w (rw other at h)
  ]

-- ---- what rows of some frames bring

-- what a frame has
abbrev pub items_of : {A : Type 0} → (Frame → List A) → Option Frame → List A
items_of items None = []
items_of items (Some w) = items w

module _ {A : Type 0} (s : Name) (items : Frame → List A) (made : Name → Name → A → Row) (brings : Name → Result Row Refusal → List A)
    (brings_made : (f g n : Name) (a : A) → brings f (Ok (made g n a)) ≡ if_named f g a) where
  -- the rows of a frame
  abbrev pub block : Entry → List Row
  block e = map (made e.0.1 e.1.node) (items e.1)

  abbrev brought : Name → List Row → List A
  brought f rows = flat_map (λ r. brings f (Ok r)) rows

  brought-made : (f g n : Name) (xs : List A) → brought f (map (made g n) xs) ≡ cond (same_text g f) xs []
  brought-made f g n [] = nothing (same_text g f)
    where
      nothing : (b : Bool) → [] ≡ cond {A = List A} b [] []
      nothing true = refl
      nothing false = refl
  brought-made f g n (a ∷ xs) = elim (cases_Bool (same_text g f)) [
    | inl same ↦ let rest = brought-made f g n xs in rw (brings_made f g n a, same) (ap (λ l. a ∷ l) (rw same at rest))
    | inr other ↦ let rest = brought-made f g n xs in rw (brings_made f g n a, other) (rw other at rest)
  ]

  -- whose name is the frame's, has its key
  named_key : (f : Name) (e : Entry) → is_of s e.0 ≡ true → same_text e.0.1 f ≡ true → e.0 ≡ (s, f)
  named_key f e own same = λ i. (same_text-is e.0.0 s own i, same_text-is e.0.1 f same i)

  brought-seg : (frames : Table owned Frame) (f : Name) (seg : List Entry) → T (is_sorted owned.compare seg) → AllByRecursion (IsOwn s frames) seg →
      brought f (flat_map block seg) ≡ items_of items (find owned.compare (s, f) seg)
  brought-seg frames f [] sorted own = refl
  brought-seg frames f (e ∷ seg) sorted own =
      flat_map-append (λ r. brings f (Ok r)) (block e) (flat_map block seg)
      ∙ ap (λ l. l ++ brought f (flat_map block seg)) (brought-made f e.0.1 e.1.node (items e.1))
      ∙ ap (λ l. cond (same_text e.0.1 f) (items e.1) [] ++ l) (brought-seg frames f seg (second _ _ sorted) own.1)
      ∙ elim (cases_Bool (same_text e.0.1 f)) [
        | inl same ↦
            let key : e.0 ≡ (s, f) = named_key f e own.0.1 same in
            let tie : eq_by_cmp owned.compare (s, f) e.0 ≡ true = ap (eq_by_cmp owned.compare (s, f)) key ∙ same_key owned (s, f) in
            let none : find owned.compare (s, f) seg ≡ None = none_above owned (λ j w. true) (s, f) e.0 seg (equal _ tie) (first _ _ sorted) in
            rw (same, tie, none) (append-nil (items e.1))
        | inr other ↦
            let apart : eq_by_cmp owned.compare (s, f) e.0 ≡ false = not_tied (eq_by_cmp owned.compare (s, f) e.0) refl (λ tie.
            true≢false (sym (ap (λ (k : Name × Name). same_text k.1 f) (sym (owned.exact (s, f) e.0 (equal _ tie))) ∙ same_text-itself f) ∙ other)) in
            rw (other, apart) refl
      ]
    where
      not_tied : (b : Bool) → eq_by_cmp owned.compare (s, f) e.0 ≡ b → (eq_by_cmp owned.compare (s, f) e.0 ≡ true → ⊥) → b ≡ false
      not_tied true is never = absurd (never is)
      not_tied false is never = refl

-- ---- the rows of frames

abbrev pub places_of : Frame → List Placement
places_of w = map (λ q. q.0) w.placements.rows

abbrev pub signals_in : Frame → List SignalData
signals_in w = w.signals

abbrev pub place_block : Entry → List Row
place_block e = map (Place e.0.1 e.1.node) (places_of e.1)

abbrev pub signal_block : Entry → List Row
signal_block e = map (AddSignal e.0.1) e.1.signals

-- the rows of frames below a header
abbrev pub rows_of_frames : Header → List Entry → List Row
rows_of_frames Frames es = map (λ e. AddFrame e.0.1 e.1.node) es
rows_of_frames Placements es = flat_map place_block es
rows_of_frames Signals es = flat_map signal_block es

pub frames_as_rows : (es : List Entry) → exported_rows (FrameRecords (flat_map frame_records es)) ≡ rows_of_frames Frames es
frames_as_rows [] = refl
frames_as_rows (e ∷ es) = ap (λ l. AddFrame e.0.1 e.1.node ∷ l) (frames_as_rows es)

places_as_rows : (e : Entry) (ps : List (Placement × ⊤)) (more : List PlacementRecord) →
    exported_rows (PlacementRecords (map (λ q. record { frame = e.0.1; node = e.1.node; placement = q.0; supplier = e.0.0 }) ps ++ more)) ≡ map (Place e.0.1 e.1.node) (map (λ q. q.0) ps) ++ exported_rows (PlacementRecords more)
places_as_rows e [] more = refl
places_as_rows e (q ∷ ps) more = ap (λ l. Place e.0.1 e.1.node q.0 ∷ l) (places_as_rows e ps more)

pub placements_as_rows : (es : List Entry) → exported_rows (PlacementRecords (flat_map placement_records es)) ≡ rows_of_frames Placements es
placements_as_rows [] = refl
placements_as_rows (e ∷ es) = places_as_rows e e.1.placements.rows (flat_map placement_records es) ∙ ap (λ l. place_block e ++ l) (placements_as_rows es)

signs_as_rows : (e : Entry) (xs : List SignalData) (more : List SignalRecord) →
    exported_rows (SignalRecords (map (λ x. record { frame = e.0.1; signal = x; supplier = e.0.0 }) xs ++ more)) ≡ map (AddSignal e.0.1) xs ++ exported_rows (SignalRecords more)
signs_as_rows e [] more = refl
signs_as_rows e (x ∷ xs) more = ap (λ l. AddSignal e.0.1 x ∷ l) (signs_as_rows e xs more)

pub signals_as_rows : (es : List Entry) → exported_rows (SignalRecords (flat_map signal_records es)) ≡ rows_of_frames Signals es
signals_as_rows [] = refl
signals_as_rows (e ∷ es) = signs_as_rows e e.1.signals (flat_map signal_records es) ∙ ap (λ l. signal_block e ++ l) (signals_as_rows es)

-- the rows of a part are those of some frames, between others
pub record RowsAreWhole (header : Header) (part : ℕ) (es : List Entry) : Type 0 where
  pub front : List Entry
  pub seg : List Entry
  pub rest : List Entry
  pub rows : exported_rows (exported header part es) ≡ rows_of_frames header seg
  pub all : es ≡ front ++ (seg ++ rest)

pub rows-whole : (header : Header) (part : ℕ) (es : List Entry) → RowsAreWhole header part es
unfolding exported
rows-whole Frames part es =
    let some = part-whole frame_records part es in
    record { front = some.front; seg = some.seg; rest = some.rest; rows = ap (λ l. exported_rows (FrameRecords l)) some.part ∙ frames_as_rows some.seg; all = some.all }
rows-whole Placements part es =
    let some = part-whole placement_records part es in
    record { front = some.front; seg = some.seg; rest = some.rest; rows = ap (λ l. exported_rows (PlacementRecords l)) some.part ∙ placements_as_rows some.seg; all = some.all }
rows-whole Signals part es =
    let some = part-whole signal_records part es in
    record { front = some.front; seg = some.seg; rest = some.rest; rows = ap (λ l. exported_rows (SignalRecords l)) some.part ∙ signals_as_rows some.seg; all = some.all }

-- ---- what they bring

-- what rows bring to a frame
abbrev pub places_in : Name → List Row → List Placement
places_in f rows = flat_map (λ r. placement_for f (Ok r)) rows

abbrev pub signs_in : Name → List Row → List SignalData
signs_in f rows = flat_map (λ r. signal_for f (Ok r)) rows

module _ (f : Name) where
  frames_bring_none : (es : List Entry) → (places_in f (rows_of_frames Frames es) ≡ []) × (signs_in f (rows_of_frames Frames es) ≡ [])
  frames_bring_none [] = (refl, refl)
  frames_bring_none (e ∷ es) = frames_bring_none es

  places_sign_none : (g n : Name) (qs : List Placement) → signs_in f (map (Place g n) qs) ≡ []
  places_sign_none g n [] = refl
  places_sign_none g n (q ∷ qs) = places_sign_none g n qs

  pub placements_sign_none : (es : List Entry) → signs_in f (rows_of_frames Placements es) ≡ []
  placements_sign_none [] = refl
  placements_sign_none (e ∷ es) =
      flat_map-append (λ r. signal_for f (Ok r)) (place_block e) (flat_map place_block es)
      ∙ (λ i. places_sign_none e.0.1 e.1.node (places_of e.1) i ++ placements_sign_none es i)

  signs_place_none : (g : Name) (xs : List SignalData) → places_in f (map (AddSignal g) xs) ≡ []
  signs_place_none g [] = refl
  signs_place_none g (x ∷ xs) = signs_place_none g xs

  pub signals_place_none : (es : List Entry) → places_in f (rows_of_frames Signals es) ≡ []
  signals_place_none [] = refl
  signals_place_none (e ∷ es) =
      flat_map-append (λ r. placement_for f (Ok r)) (signal_block e) (flat_map signal_block es)
      ∙ (λ i. signs_place_none e.0.1 e.1.signals i ++ signals_place_none es i)

pub marked-places : (ps : List (Placement × ⊤)) → marked (map (λ q. q.0) ps) ≡ ps
marked-places [] = refl
marked-places (q ∷ ps) = ap (λ l. q ∷ l) (marked-places ps)

-- all of a frame's, or none
abbrev pub AllOrNone : {A : Type 0} → List A → List A → Type 0
AllOrNone some all = (some ≡ []) ⊎ (some ≡ all)

module _ (s : Name) (frames : Table owned Frame) (seg : List Entry) (sorted : T (is_sorted owned.compare seg)) (mine : AllByRecursion (IsOwn s frames) seg) where
  pub placements_bring : (f : Name) → places_in f (rows_of_frames Placements seg) ≡ items_of places_of (find owned.compare (s, f) seg)
  placements_bring f = brought-seg s places_of (λ g n q. Place g n q) placement_for (λ f g n q. refl) frames f seg sorted mine

  pub signals_bring : (f : Name) → signs_in f (rows_of_frames Signals seg) ≡ items_of signals_in (find owned.compare (s, f) seg)
  signals_bring f = brought-seg s signals_in (λ g n x. AddSignal g x) signal_for (λ f g n x. refl) frames f seg sorted mine

  found-places : (f : Name) (o : Option Frame) → find owned.compare (s, f) seg ≡ o → AllOrNone (marked (items_of places_of o)) (had_placements (get frames (s, f))).rows
  found-places f None is = inl refl
  found-places f (Some w) is = inr (marked-places w.placements.rows ∙ ap (λ o. (had_placements o).rows) (sym (own-found s frames seg mine (s, f) w is)))

  found-signals : (f : Name) (o : Option Frame) → find owned.compare (s, f) seg ≡ o → AllOrNone (items_of signals_in o) (had_signals (get frames (s, f)))
  found-signals f None is = inl refl
  found-signals f (Some w) is = inr (ap had_signals (sym (own-found s frames seg mine (s, f) w is)))

  pub places-whole : (header : Header) (f : Name) → AllOrNone (marked (places_in f (rows_of_frames header seg))) (had_placements (get frames (s, f))).rows
  places-whole Frames f = inl (ap marked (frames_bring_none f seg).0)
  places-whole Placements f = subst (λ qs. AllOrNone (marked qs) (had_placements (get frames (s, f))).rows) (sym (placements_bring f)) (found-places f _ refl)
  places-whole Signals f = inl (ap marked (signals_place_none f seg))

  pub signals-whole : (header : Header) (f : Name) → AllOrNone (signs_in f (rows_of_frames header seg)) (had_signals (get frames (s, f)))
  signals-whole Frames f = inl (frames_bring_none f seg).1
  signals-whole Placements f = inl (placements_sign_none f seg)
  signals-whole Signals f = subst (λ xs. AllOrNone xs (had_signals (get frames (s, f)))) (sym (signals_bring f)) (found-signals f _ refl)

-- ---- each is of its frame

module _ (s : Name) (frames : Table owned Frame) where
  node-own : (e : Entry) → IsOwn s frames e → node_of (get frames (s, e.0.1)) ≡ Some e.1.node
  node-own e own = ap (λ x. node_of (get frames (x, e.0.1))) (sym (same_text-is e.0.0 s own.1)) ∙ ap node_of own.0

  places-fit : (f n : Name) → node_of (get frames (s, f)) ≡ Some n → (qs : List Placement) → AllByRecursion (RowFits s frames) (map (Place f n) qs)
  places-fit f n of [] = tt
  places-fit f n of (q ∷ qs) = (of, places-fit f n of qs)

  signs-fit : (f : Name) (xs : List SignalData) → AllByRecursion (RowFits s frames) (map (AddSignal f) xs)
  signs-fit f [] = tt
  signs-fit f (x ∷ xs) = (tt, signs-fit f xs)

  pub rows-fit : (header : Header) (seg : List Entry) → AllByRecursion (IsOwn s frames) seg → AllByRecursion (RowFits s frames) (rows_of_frames header seg)
  rows-fit Frames [] mine = tt
  rows-fit Frames (e ∷ seg) mine = (node-own e mine.0, rows-fit Frames seg mine.1)
  rows-fit Placements [] mine = tt
  rows-fit Placements (e ∷ seg) mine = all-append _ (place_block e) _ (places-fit e.0.1 e.1.node (node-own e mine.0) (places_of e.1)) (rows-fit Placements seg mine.1)
  rows-fit Signals [] mine = tt
  rows-fit Signals (e ∷ seg) mine = all-append _ (signal_block e) _ (signs-fit e.0.1 e.1.signals) (rows-fit Signals seg mine.1)

-- ---- rows that are read

-- what is brought by rows that are read as these
pub brought-read : {A : Type 0} (brings : Result Row Refusal → List A) (reads : List RowRead) (rows : List Row) → map (λ read. read.row) reads ≡ map Ok rows →
    flat_map (λ read. brings read.row) reads ≡ flat_map (λ r. brings (Ok r)) rows
brought-read brings [] [] e = refl
brought-read brings [] (r ∷ rows) e = cc
brought-read brings (read ∷ reads) [] e = cc
brought-read brings (read ∷ reads) (r ∷ rows) e =
    let here : read.row ≡ Ok r = cc in
    let rest : map (λ read. read.row) reads ≡ map Ok rows = cc in
    λ i. brings (here i) ++ brought-read brings reads rows rest i

pub all-read : (P : Row → Type 0) (reads : List RowRead) (rows : List Row) → map (λ read. read.row) reads ≡ map Ok rows → AllByRecursion P rows → AllByRecursion (λ read. (r : Row) × (read.row ≡ Ok r) × P r) reads
all-read P [] [] e all = tt
all-read P [] (r ∷ rows) e all = tt
all-read P (read ∷ reads) [] e all = cc
all-read P (read ∷ reads) (r ∷ rows) e all =
    let here : read.row ≡ Ok r = cc in
    let rest : map (λ read. read.row) reads ≡ map Ok rows = cc in
    ((r, here, all.0), all-read P reads rows rest all.1)

pub length-read : (reads : List RowRead) (rows : List Row) → map (λ read. read.row) reads ≡ map Ok rows → length reads ≡ length rows
length-read [] [] e = refl
length-read [] (r ∷ rows) e = cc
length-read (read ∷ reads) [] e = cc
length-read (read ∷ reads) (r ∷ rows) e = let rest : map (λ read. read.row) reads ≡ map Ok rows = cc in ap suc (length-read reads rows rest)
