-- What the tables stand for after one frame of a variant is another.
use Rattle.std.proofs.Common.{◌≡◌, ◌≢◌, ℕ, Bool, true, false, not, cond, ◌||◌, None, Some, Option, List, [], ◌∷◌, ◌++◌, map, filter, flat_map, refl, sym, ap, ap₂, ◌∙◌, subst, subst₂, inl, inr, IsPermutation, IsTrue, true≢false}
use Rattle.std.specs.Ordering.{is_eq}
use Rattle.std.specs.List.{All, list_any}
use Rattle.std.proofs.lemmas.Bool.{false_from_ne_true}
use Rattle.std.proofs.lemmas.List.Sorted.{IsPermutation-sym, IsPermutation-trans, IsPermutation-map}
use Rattle.sqlite_keyed.proofs.ListLemmas.{IsPermutation-flat_map, map_same, filter-map}
use Rattle.fr_base.specs.Tables.{Table, get, contains, insert, remove}
use Rattle.fr_base.specs.Keys.{names, owned}
use Rattle.fr_base.specs.Book.{Frame, Variant, Book}
use Rattle.fr_base.specs.Queries.{placements_in}
use Rattle.fr_base.specs.Step.{with_variant}
use Rattle.fr_base.specs.declared.name.Name.{Name}
use Rattle.fr_base.proofs.TableLaws.{equal, get-insert}
use Rattle.fr_base.proofs.SoundTables.{insert-cases, contains-more, same_key, same_some}
use Rattle.fr_tables.specs.Rows.{FrameRow, PlacementRow, SignalRow, DroppedRow, flag, key_of}
use Rattle.fr_tables.specs.Tables.{Tables}
use Rattle.fr_tables.specs.Statements.{placement_row, signal_row, is_frame, is_placement_of, is_signal_of, is_dropped}
use Rattle.fr_store.specs.StandsFor.{HoldsRows, Stored, Entry, IsAsStored, IsFine, HasItsParent, variant_row, grant_rows, frame_row, placement_rows, signal_rows, of_frames, seen, own_or, is_hidden, of_parent}
use Rattle.fr_world.specs.Fits.{IsOpen}
use Rattle.fr_store.proofs.ApartLemmas.{apart, remove-insert}
use Rattle.fr_store.proofs.FrameSections.{section, others, parted, others_stay, others_apart}
use Rattle.fr_store.proofs.FramePartLemmas.{is_it, all_or_none}
use Rattle.fr_store.proofs.SectionLemmas.{row_at}

-- a frame's one row of its own
abbrev pub one_row : Name → Entry → List FrameRow
one_row v e = frame_row v e ∷ []

-- With the rows of any other frames, the rows of the one before are all rows before, and its rows after are all rows after.
abbrev pub Turns : {X : Type 0} → (Name → Entry → List X) → (X → Bool) → Name → Name → Name → Option Frame → Option Frame → List X → List X → Type 0
Turns {X} rows passes v s f before after all next =
    (rest : List X) → filter passes rest ≡ [] → IsPermutation (section rows v s f before ++ rest) all → IsPermutation (section rows v s f after ++ rest) next

-- so in the three tables
abbrev pub FramesTurn : Name → Name → Name → Option Frame → Option Frame → List FrameRow → List FrameRow → Type 0
FramesTurn v s f = Turns one_row (is_frame (key_of v s f)) v s f

abbrev pub PlacementsTurn : Name → Name → Name → Option Frame → Option Frame → List PlacementRow → List PlacementRow → Type 0
PlacementsTurn v s f = Turns placement_rows (is_placement_of (key_of v s f)) v s f

abbrev pub SignalsTurn : Name → Name → Name → Option Frame → Option Frame → List SignalRow → List SignalRow → Type 0
SignalsTurn v s f = Turns signal_rows (is_signal_of (key_of v s f)) v s f

-- ---- rows of another frame are not the frame's

abbrev pub Apart : {X : Type 0} → (Name → Entry → List X) → (X → Bool) → Name → Name → Name → Type 0
Apart rows passes v s f = (w : Name) (e : Entry) → is_it v s f w e.0 ≡ false → filter passes (rows w e) ≡ []

module _ (v s f : Name) where
  pub frame_apart : Apart one_row (is_frame (key_of v s f)) v s f
  frame_apart w e other = ap (λ b. cond b (frame_row w e ∷ []) []) other

  placements_apart : Apart placement_rows (is_placement_of (key_of v s f)) v s f
  placements_apart w e other =
      filter-map (is_placement_of (key_of v s f)) (placement_row (key_of w e.0.0 e.0.1)) (placements_in e.1)
      ∙ ap (map (placement_row (key_of w e.0.0 e.0.1))) (all_or_none (is_it v s f w e.0) (placements_in e.1) ∙ ap (λ b. cond b (placements_in e.1) []) other)

  signals_apart : Apart signal_rows (is_signal_of (key_of v s f)) v s f
  signals_apart w e other =
      filter-map (is_signal_of (key_of v s f)) (signal_row (key_of w e.0.0 e.0.1)) e.1.signals
      ∙ ap (map (signal_row (key_of w e.0.0 e.0.1))) (all_or_none (is_it v s f w e.0) e.1.signals ∙ ap (λ b. cond b e.1.signals []) other)

-- ---- the frames that a variant has not of its parent's

module _ (t : Tables) (b : Book) (v s f : Name) where
  -- the same are dropped in all variants, but for this frame in this variant
  pub record DropsElsewhere (drops : List DroppedRow) : Type 0 where
    pub others : (w : Name) (k : Name × Name) → (w ≡ v → k ≡ (s, f) → ⊥) → list_any (is_dropped (key_of w k.0 k.1)) drops ≡ list_any (is_dropped (key_of w k.0 k.1)) t.dropped
    pub known : All (λ d. IsTrue (contains b.variants d.variant)) drops

module _ (t : Tables) (count : ℕ) (b : Book) (h : HoldsRows t count b) (v s f : Name) where
  pub as_dropped : DropsElsewhere t b v s f t.dropped
  as_dropped = record { others = λ w k other. refl; known = h.dropped }

-- ---- a variant whose frame changes

module _ (t : Tables) (count : ℕ) (b : Book) (h : HoldsRows t count b) (v s f : Name) (x : Variant) (is : IsOpen b v x) where
  -- the variant's row, and those of the others
  abbrev parts : List (Name × Variant)
  parts = (v, x) ∷ (remove b.variants v).rows

  rows_apart : IsPermutation parts b.variants.rows
  rows_apart = subst (λ o. IsPermutation (row_at v o ++ (remove b.variants v).rows) b.variants.rows) is.there (apart names v b.variants)

  -- what it shows then: its own frames, and the parent's that are not hidden
  abbrev pub Shows : Table owned Frame → Table owned Frame → List DroppedRow → Type 0
  Shows own frames drops = (k : Name × Name) → get frames k ≡ own_or (get own k) (is_hidden drops v (h.stored v) k) (of_parent b.variants x.parent k)

  module _ (own frames : Table owned Frame) (drops : List DroppedRow) (kept : remove own (s, f) ≡ remove (h.stored v).own (s, f)) (elsewhere : DropsElsewhere t b v s f drops) (shows : Shows own frames drops)
      (sorted : (k : Name × Name) (g : Frame) → get frames k ≡ Some g → IsFine count g) where
    abbrev after : Variant
    after = record x { frames = frames }

    abbrev next : Table names Variant
    next = insert b.variants v after

    abbrev stored_after : Stored
    stored_after = record (h.stored v) { own = own }

    abbrev stored_next : Name → Stored
    stored_next w = cond (is_eq (names.compare v w)) stored_after (h.stored w)

    at_v : stored_next v ≡ stored_after
    at_v = ap (λ tie. cond tie stored_after (h.stored v)) (same_key names v)

    at_other : (w : Name) → is_eq (names.compare v w) ≡ false → stored_next w ≡ h.stored w
    at_other w other = ap (λ tie. cond tie stored_after (h.stored w)) other

    there_next : get next v ≡ Some after
    there_next = get-insert b.variants v after v ∙ ap (λ tie. cond tie (Some after) (get b.variants v)) (same_key names v)

    next_apart : IsPermutation ((v, after) ∷ (remove b.variants v).rows) next.rows
    next_apart =
        subst (λ r. IsPermutation ((v, after) ∷ r.rows) next.rows) (remove-insert names b.variants v after)
        (subst (λ o. IsPermutation (row_at v o ++ (remove next v).rows) next.rows) there_next (apart names v next))

    -- ---- the variants, and their grants

    same_overlay : (w : Name) → (stored_next w).overlay ≡ (h.stored w).overlay
    same_overlay w = by_test (is_eq (names.compare v w)) refl
      where
        by_test : (b : Bool) → is_eq (names.compare v w) ≡ b → (cond b stored_after (h.stored w)).overlay ≡ (h.stored w).overlay
        by_test true tie = ap (λ u. (h.stored u).overlay) (names.exact v w (equal _ tie))
        by_test false tie = refl

    variants_turn : IsPermutation (map (variant_row stored_next) next.rows) t.variants
    variants_turn =
        let same = map_same (variant_row stored_next) (variant_row h.stored) (λ e. ap (λ o. record (variant_row h.stored e) { overlay = flag o }) (same_overlay e.0)) next.rows in
        subst (λ rows. IsPermutation rows t.variants) (sym same)
        (IsPermutation-trans _ _ _ (IsPermutation-map (variant_row h.stored) _ _ (IsPermutation-sym _ _ next_apart))
        (IsPermutation-trans _ _ _ (IsPermutation-map (variant_row h.stored) _ _ rows_apart) h.variants))

    grants_turn : IsPermutation (flat_map grant_rows next.rows) t.grants
    grants_turn =
        IsPermutation-trans _ _ _ (IsPermutation-flat_map grant_rows _ _ (IsPermutation-sym _ _ next_apart))
        (IsPermutation-trans _ _ _ (IsPermutation-flat_map grant_rows _ _ rows_apart) h.grants)

    -- ---- the frames, placements and signals

    turned : {X : Type 0} (rows : Name → Entry → List X) (passes : X → Bool) → Apart rows passes v s f → (all all_next : List X) → IsPermutation (of_frames rows h.stored b.variants) all
        → Turns rows passes v s f (get (h.stored v).own (s, f)) (get own (s, f)) all all_next → IsPermutation (of_frames rows stored_next next) all_next
    turned rows passes apart all all_next same turns =
        let stay : others rows v s f stored_next next ≡ others rows v s f h.stored b.variants =
        others_stay rows v s f h.stored stored_next b.variants next (ap (λ st. remove st.own (s, f)) at_v ∙ kept)
        (remove-insert names b.variants v after) at_other in
        let before : IsPermutation (section rows v s f (get (h.stored v).own (s, f)) ++ others rows v s f h.stored b.variants) all =
        IsPermutation-trans _ _ _ (parted rows v s f h.stored b.variants x is.there) same in
        let split : IsPermutation (section rows v s f (get own (s, f)) ++ others rows v s f h.stored b.variants) (of_frames rows stored_next next) =
        subst₂ (λ st rest. IsPermutation (section rows v s f (get st.own (s, f)) ++ rest) (of_frames rows stored_next next)) at_v stay (parted rows v s f stored_next next after there_next) in
        IsPermutation-trans _ _ _ (IsPermutation-sym _ _ split) (turns (others rows v s f h.stored b.variants) (others_apart rows v s f passes apart h.stored b.variants) before)

    -- ---- what each variant shows

    not_released : (parent : Variant) → IsTrue parent.released → Some parent ≡ Some x → ⊥
    not_released parent released same = true≢false (sym released ∙ ap (λ (y : Variant). y.released) (same_some parent x same) ∙ is.unreleased)

    -- a parent is released, so it is another variant
    still_there : (name : Name) (parent : Variant) → get b.variants name ≡ Some parent → IsTrue parent.released → get next name ≡ get b.variants name
    still_there name parent there released = get-insert b.variants v after name ∙ by_test (is_eq (names.compare name v)) refl
      where
        by_test : (t : Bool) → is_eq (names.compare name v) ≡ t → cond t (Some after) (get b.variants name) ≡ get b.variants name
        by_test true tie = absurd (not_released parent released (sym there ∙ ap (get b.variants) (names.exact name v (equal _ tie)) ∙ is.there))
        by_test false tie = refl

    still_parent : (o : Option Name) (d : ℕ) → HasItsParent b.variants o d → HasItsParent next o d
    still_parent None d has = tt
    still_parent (Some name) d has = (has.0, still_there name has.0 has.1 has.2 ∙ has.1, has.2, has.3)

    same_parent : (o : Option Name) (d : ℕ) → HasItsParent b.variants o d → (k : Name × Name) → of_parent next o k ≡ of_parent b.variants o k
    unfolding of_parent
    same_parent None d has k = refl
    same_parent (Some name) d has k = rw (still_there name has.0 has.1 has.2)

    itself : IsAsStored count drops next stored_after v after
    unfolding seen
    itself = record {
      parent = still_parent x.parent x.depth (h.each v x is.there).parent;
      frames = λ k. shows k ∙ ap (own_or (get own k) (is_hidden drops v (h.stored v) k)) (sym (same_parent x.parent x.depth (h.each v x is.there).parent k));
      fine = sorted;
    }

    -- none of another variant's frames is dropped, or no more
    same_hidden : (w : Name) → w ≢ v → (k : Name × Name) → is_hidden t.dropped w (h.stored w) k ≡ is_hidden drops w (h.stored w) k
    same_hidden w other k = ap (λ is. not (h.stored w).overlay || is) (sym (elsewhere.others w k (λ same _. other same)))

    another : (w : Name) (y : Variant) → w ≢ v → get b.variants w ≡ Some y → IsAsStored count drops next (h.stored w) w y
    unfolding seen
    another w y other there =
        let old = h.each w y there in
        record {
          parent = still_parent y.parent y.depth old.parent;
          frames = λ k. old.frames k ∙ ap₂ (own_or (get (h.stored w).own k)) (same_hidden w other k) (sym (same_parent y.parent y.depth old.parent k));
          fine = old.fine;
        }

    other_tie : (w : Name) → w ≢ v → is_eq (names.compare v w) ≡ false
    other_tie w other = false_from_ne_true _ (λ tie. other (sym (names.exact v w (equal _ tie))))

    each_next : (w : Name) (y : Variant) → get next w ≡ Some y → IsAsStored count drops next (stored_next w) w y
    each_next w y found = elim (insert-cases b.variants v after w y found) [
      | inl it ↦ subst₂ (λ u z. IsAsStored count drops next (stored_next u) u z) (sym it.0) it.1 (subst (λ st. IsAsStored count drops next st v after) (sym at_v) itself)
      | inr other ↦ subst (λ st. IsAsStored count drops next st w y) (sym (at_other w (other_tie w other.0))) (another w y other.0 other.1)
    ]

    -- the tables with the frame's rows turned stand for the book with its variant's frames
    pub frame_changed : (fs : List FrameRow) (ps : List PlacementRow) (ss : List SignalRow) → FramesTurn v s f (get (h.stored v).own (s, f)) (get own (s, f)) t.frames fs
        → PlacementsTurn v s f (get (h.stored v).own (s, f)) (get own (s, f)) t.placements ps → SignalsTurn v s f (get (h.stored v).own (s, f)) (get own (s, f)) t.signals ss
        → HoldsRows (record t { frames = fs; placements = ps; signals = ss; dropped = drops }) count (with_variant b v after)
    frame_changed fs ps ss in_frames in_placements in_signals = record {
      suppliers = h.suppliers;
      nodes = h.nodes;
      imports = h.imports;
      stored = stored_next;
      variants = variants_turn;
      grants = grants_turn;
      frames = turned one_row (is_frame (key_of v s f)) (frame_apart v s f) t.frames fs h.frames in_frames;
      placements = turned placement_rows (is_placement_of (key_of v s f)) (placements_apart v s f) t.placements ps h.placements in_placements;
      signals = turned signal_rows (is_signal_of (key_of v s f)) (signals_apart v s f) t.signals ss h.signals in_signals;
      dropped = λ k d low. contains-more b.variants v after _ (elsewhere.known k d low);
      each = each_next;
    }
