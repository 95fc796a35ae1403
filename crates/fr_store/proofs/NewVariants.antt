-- What the tables stand for after a variant is opened.
use Rattle.std.proofs.Common.{◌≡◌, inl, inr, ℕ, pos, Bool, true, false, is_some, true≢false, IsTrue, not, cond, None, Some, List, [], ◌∷◌, ◌++◌, map, flat_map, refl, sym, ap, ap₂, ◌∙◌, subst, append-nil, IsPermutation}
use Rattle.std.specs.List.{All, AllByRecursion, list_any}
use Rattle.std.proofs.lemmas.List.Folds.{list_any_none}
use Rattle.std.specs.Ordering.{is_eq, eq_by_cmp}
use Rattle.std.proofs.lemmas.Bool.{cases_Bool, and_parts}
use Rattle.std.proofs.lemmas.List.Elements.{All-weaker}
use Rattle.std.proofs.lemmas.List.Sorted.{IsPermutation-refl}
use Rattle.sqlite_keyed.proofs.ListLemmas.{map-map}
use Rattle.sqlite.specs.State.{State}
use Rattle.fr_base.specs.Tables.{Table, empty, get, contains, insert}
use Rattle.fr_base.specs.Keys.{names, owned}
use Rattle.fr_base.specs.Cluster.{Cluster}
use Rattle.fr_base.specs.Book.{Frame, Variant, Book, empty_variant}
use Rattle.fr_base.specs.Sound.{IsOpenedFrom}
use Rattle.fr_base.specs.declared.name.Name.{Name}
use Rattle.fr_base.proofs.SoundTables.{contains-more, insert-cases, same_key}
use Rattle.fr_base.proofs.SoundRows.{same_text-is}
use Rattle.fr_base.proofs.TableLaws.{equal, get-empty}
use Rattle.fr_world.specs.BookEdits.{applied}
use Rattle.fr_world.specs.declared.edit.Edit.TheVariants.{NewVariant}
use Rattle.fr_tables.specs.Rows.{VariantRow, GrantRow, DroppedRow, flag, key_of}
use Rattle.fr_tables.specs.Tables.{Tables}
use Rattle.fr_tables.specs.Changes.{Changes, Copies, tables_of}
use Rattle.fr_tables.specs.Statements.{with_variant, with_grants, grant_for, grants_for, is_dropped}
use Rattle.fr_store.specs.StandsFor.{StandsFor, HoldsRows, Stored, Entry, HasItsParent, IsAsStored, IsFine, own_or, of_parent, seen, is_hidden, of_frames, variant_row, grant_rows, frame_row, placement_rows, signal_rows}
use Rattle.fr_store.specs.Flat.{MayOpen, filled, flat}
use Rattle.fr_store.specs.Reading.{Stands}
use Rattle.fr_store.proofs.CopiedLemmas.{grants_copied}
use Rattle.fr_store.proofs.EntryLemmas.{none_there, added_row, added_rows}
use Rattle.fr_store.proofs.StoredLemmas.{Extends, extends_new, parent_still, stored_still, itself}

-- ---- how a new variant is stored among the others

-- without frames of its own
abbrev bare : Bool → Stored
bare over = record { overlay = over; own = empty }

abbrev stored_with : (Name → Stored) → Name → Stored → Name → Stored
stored_with stored v new w = cond (eq_by_cmp names.compare v w) new (stored w)

module _ (stored : Name → Stored) (v : Name) (new : Stored) where
  stored_here : stored_with stored v new v ≡ new
  stored_here = ap (λ is. cond is new (stored v)) (same_key names v)

  stored_there : (w : Name) → is_eq (names.compare v w) ≡ false → stored_with stored v new w ≡ stored w
  stored_there w apart = ap (λ is. cond is new (stored w)) apart

  module _ {X : Type 0} (row : (Name → Stored) → Name × Variant → X) (on_name : (e : Name × Variant) (s : Name → Stored) → s e.0 ≡ stored e.0 → row s e ≡ row stored e) where
    rows_stay : (es : List (Name × Variant)) → AllByRecursion (λ e. is_eq (names.compare v e.0) ≡ false) es → map (row (stored_with stored v new)) es ≡ map (row stored) es
    rows_stay [] h = refl
    rows_stay (e ∷ es) h = ap₂ ◌∷◌ (on_name e (stored_with stored v new) (stored_there e.0 h.0)) (rows_stay es h.1)

  module _ {X : Type 0} (rows : Name → Entry → List X) where
    abbrev of_variant : (Name → Stored) → Name × Variant → List X
    of_variant s e = flat_map (rows e.0) (s e.0).own.rows

    frames_stay : (es : List (Name × Variant)) → AllByRecursion (λ e. is_eq (names.compare v e.0) ≡ false) es → flat_map (of_variant (stored_with stored v new)) es ≡ flat_map (of_variant stored) es
    frames_stay [] h = refl
    frames_stay (e ∷ es) h = ap₂ ◌++◌ (ap (λ st. flat_map (rows e.0) st.own.rows) (stored_there e.0 h.0)) (frames_stay es h.1)

-- ---- a new variant without frames of its own

module _ (t : Tables) (count : ℕ) (b : Book) (stands : HoldsRows t count b) (v : Name) (y : Variant) (over : Bool) (none : get b.variants v ≡ None) (parent : HasItsParent b.variants y.parent y.depth)
    (shows : (k : Name × Name) → get y.frames k ≡ own_or None (is_hidden t.dropped v (bare over) k) (of_parent (insert b.variants v y) y.parent k))
    (fine : (k : Name × Name) (f : Frame) → get y.frames k ≡ Some f → IsFine count f) where
  abbrev next : Table names Variant
  next = insert b.variants v y

  abbrev stored : Name → Stored
  stored = stored_with stands.stored v (bare over)

  abbrev row : VariantRow
  row = record { name = v; parent = y.parent; depth = pos y.depth; released = flag y.released; overlay = flag over }

  more : Extends b.variants next
  more = extends_new b.variants v y none

  as_new : IsAsStored count t.dropped next (bare over) v y
  unfolding seen
  as_new = record {
    parent = parent_still t.dropped b.variants next more y.parent y.depth parent;
    frames = λ k. shows k ∙ ap (λ own. own_or own (is_hidden t.dropped v (bare over) k) (of_parent next y.parent k)) (sym (get-empty owned k));
    fine = fine;
  }

  apart : (w : Name) → (w ≡ v → ⊥) → is_eq (names.compare v w) ≡ false
  apart w other = elim (cases_Bool (is_eq (names.compare v w))) [ inl tie ↦ absurd (other (sym (names.exact v w (equal _ tie)))) | inr not ↦ not ]

  each_stored : (w : Name) (z : Variant) → get next w ≡ Some z → IsAsStored count t.dropped next (stored w) w z
  each_stored w z at = elim (insert-cases b.variants v y w z at) [
    | inl here ↦ subst (λ (e : Name × Variant). IsAsStored count t.dropped next (stored e.0) e.0 e.1) (λ i. (sym here.0 i, here.1 i)) (subst (λ st. IsAsStored count t.dropped next st v y) (sym (stored_here stands.stored v (bare over))) as_new)
    | inr other ↦ subst (λ st. IsAsStored count t.dropped next st w z) (sym (stored_there stands.stored v (bare over) w (apart w other.0)))
        (stored_still t.dropped b.variants next more count (stands.stored w) w z z (itself z) (stands.each w z other.1))
  ]

  others : AllByRecursion (λ (e : Name × Variant). is_eq (names.compare v e.0) ≡ false) b.variants.rows
  others = none_there names b.variants v none

  variants_stand : IsPermutation (map (variant_row stored) next.rows) (t.variants ++ row ∷ [])
  variants_stand =
      let before = subst (λ rs. IsPermutation rs t.variants) (sym (rows_stay stands.stored v (bare over) variant_row (λ e s same. ap (λ st. record (variant_row stands.stored e) { overlay = flag st.overlay }) same) b.variants.rows others)) stands.variants in
      subst (λ r. IsPermutation (map (variant_row stored) next.rows) (t.variants ++ r ∷ [])) (ap (λ st. record row { overlay = flag st.overlay }) (stored_here stands.stored v (bare over)))
      (added_row names b.variants v y none (variant_row stored) t.variants before)

  frames_stand : {X : Type 0} (rows : Name → Entry → List X) (xs : List X) → IsPermutation (of_frames rows stands.stored b.variants) xs → IsPermutation (of_frames rows stored next) xs
  unfolding of_frames empty
  frames_stand rows xs all =
      let before = subst (λ rs. IsPermutation rs xs) (sym (frames_stay stands.stored v (bare over) rows b.variants.rows others)) all in
      let here = subst (λ st. IsPermutation (flat_map (rows v) st.own.rows) []) (sym (stored_here stands.stored v (bare over))) (IsPermutation-refl []) in
      subst (λ ys. IsPermutation (flat_map (of_variant stands.stored v (bare over) rows stored) next.rows) ys) (append-nil xs)
      (added_rows names b.variants v y none (of_variant stands.stored v (bare over) rows stored) xs [] before here)

  new_stands : (gs : List GrantRow) → IsPermutation (grant_rows (v, y)) gs → HoldsRows (with_grants gs (with_variant row t)) count (record b { variants = next })
  new_stands gs grants = record {
    suppliers = stands.suppliers;
    nodes = stands.nodes;
    imports = stands.imports;
    stored = stored;
    variants = variants_stand;
    grants = added_rows names b.variants v y none grant_rows t.grants gs stands.grants grants;
    frames = frames_stand (λ v f. frame_row v f ∷ []) t.frames stands.frames;
    placements = frames_stand placement_rows t.placements stands.placements;
    signals = frames_stand signal_rows t.signals stands.signals;
    dropped = All-weaker _ _ (λ d h. contains-more b.variants v y d.variant h) t.dropped stands.dropped;
    each = each_stored;
  }

-- ---- opened empty

module _ (v : Name) (depth : ℕ) where
  abbrev opened : Variant
  opened = record empty_variant { parent = None; depth = depth; released = false }

  abbrev pub opened_row : VariantRow
  opened_row = record { name = v; parent = None; depth = pos depth; released = pos 0; overlay = pos 0 }

  no_frames : (count : ℕ) (k : Name × Name) (f : Frame) → get opened.frames k ≡ Some f → IsFine count f
  unfolding empty_variant
  no_frames count k f at = let no : None ≡ Some f = sym (get-empty owned k) ∙ at in absurd cc

  none_shown : (t : Tables) (variants : Table names Variant) (k : Name × Name) → get opened.frames k ≡ own_or None (is_hidden t.dropped v (bare false) k) (of_parent variants None k)
  unfolding empty_variant
  none_shown t variants k = get-empty owned k

  no_rows_more : (t : Tables) → with_grants [] t ≡ t
  no_rows_more t i = record t { grants = append-nil t.grants i }

  opened_empty : (t : Tables) (count : ℕ) (b : Book) → HoldsRows t count b → get b.variants v ≡ None → HoldsRows (with_variant opened_row t) count (applied b (NewVariant v None depth))
  unfolding applied empty_variant empty
  opened_empty t count b stands none =
      subst (λ u. HoldsRows u count (applied b (NewVariant v None depth))) (no_rows_more (with_variant opened_row t))
      (new_stands t count b stands v opened false none tt (none_shown t (insert b.variants v opened)) (no_frames count) [] (IsPermutation-refl []))

  pub empty_opened : (old state : State) → Changes (with_variant opened_row) old state → (c : Cluster) (b : Book) → Stands old c b → get b.variants v ≡ None
      → Stands state c (applied b (NewVariant v None depth))
  empty_opened old state h c b stands none = record { has = h.has; for = subst (λ t. StandsFor t c (applied b (NewVariant v None depth))) (sym h.now) (record { heads = stands.for.heads; rows = opened_empty (tables_of old) c.params.cycles b stands.for.rows none }) }

-- ---- opened over a parent, with copies of its grants

-- nothing is dropped in a variant that is not there
none_dropped : (t : Tables) (b : Book) → All (λ d. IsTrue (contains b.variants d.variant)) t.dropped → (v : Name) → get b.variants v ≡ None → (k : Name × Name) → list_any (is_dropped (key_of v k.0 k.1)) t.dropped ≡ false
none_dropped t b known v none k = list_any_none (is_dropped (key_of v k.0 k.1)) t.dropped (All-weaker _ _ (λ d there. by_test d there (is_dropped (key_of v k.0 k.1) d) refl) t.dropped known)
  where
    by_test : (d : DroppedRow) → IsTrue (contains b.variants d.variant) → (is : Bool) → is_dropped (key_of v k.0 k.1) d ≡ is → is ≡ false
    by_test d there false e = refl
    by_test d there true e =
        absurd (true≢false (sym there ∙ ap (λ w. contains b.variants w) (same_text-is d.variant v (and_parts _ _ e).0) ∙ ap is_some none))

module _ (v p : Name) (depth : ℕ) where
  abbrev child : Variant → Variant
  child x = record x { parent = Some p; depth = depth; released = false }

  abbrev pub child_row : VariantRow
  child_row = record { name = v; parent = Some p; depth = pos depth; released = pos 0; overlay = pos 1 }

  turned_grants : (x : Variant) → map (grant_for v) (grant_rows (p, x)) ≡ grant_rows (v, child x)
  turned_grants x = map-map (grant_for v) _ x.grants.rows

  parent_in : (variants : Table names Variant) (x : Variant) → get variants p ≡ Some x → (k : Name × Name) → of_parent variants (Some p) k ≡ get x.frames k
  unfolding of_parent
  parent_in variants x there k = rw there refl

  -- it shows its parent's frames
  its_parents : (t : Tables) (count : ℕ) (b : Book) → HoldsRows t count b → get b.variants v ≡ None → (x : Variant) → get b.variants p ≡ Some x → (k : Name × Name)
      → get x.frames k ≡ own_or None (is_hidden t.dropped v (bare true) k) (of_parent (insert b.variants v (child x)) (Some p) k)
  its_parents t count b stands none x at k =
      let still = extends_new b.variants v (child x) none p x at in
      ap (λ frames. get frames k) (sym still.2.frames) ∙ sym (parent_in (insert b.variants v (child x)) still.0 still.1 k)
      ∙ ap (λ is. own_or None is (of_parent (insert b.variants v (child x)) (Some p) k)) (sym (none_dropped t b stands.dropped v none k))

  opened_from : (t : Tables) (count : ℕ) (b : Book) → HoldsRows t count b → get b.variants v ≡ None → IsOpenedFrom b.variants (Some p) depth → (gs : List GrantRow) → IsPermutation (grants_for p v t) gs
      → HoldsRows (with_grants gs (with_variant child_row t)) count (applied b (NewVariant v (Some p) depth))
  unfolding applied
  opened_from t count b stands none from gs grants =
      let x = from.0 in
      let at = from.1 in
      let made : HoldsRows (with_grants gs (with_variant child_row t)) count (record b { variants = insert b.variants v (child x) }) =
      new_stands t count b stands v (child x) true none from (its_parents t count b stands none x at) (stands.each p x at).fine gs
      (subst (λ rs. IsPermutation rs gs) (turned_grants x) (grants_copied t count b stands p v x at gs grants)) in
      rw at made

  pub opened_with : (old mid state : State) → Changes (with_variant child_row) old mid → Copies (grants_for p v) with_grants mid state
      → (c : Cluster) (b : Book) → Stands old c b → get b.variants v ≡ None → IsOpenedFrom b.variants (Some p) depth → Stands state c (applied b (NewVariant v (Some p) depth))
  opened_with old mid state h copies c b stands none from = record {
    has = copies.added.has;
    for = subst (λ t. StandsFor t c (applied b (NewVariant v (Some p) depth))) (sym (copies.added.now ∙ ap (with_grants copies.copies) h.now))
        (record { heads = stands.for.heads; rows = opened_from (tables_of old) c.params.cycles b stands.for.rows none from copies.copies (subst (λ t. IsPermutation (grants_for p v t) copies.copies) h.now copies.same) });
  }

-- ---- opened flat, with copies of the other's grants

module _ (v p : Name) where
  turned_flat : (x : Variant) → map (grant_for v) (grant_rows (p, x)) ≡ grant_rows (v, flat x empty)
  turned_flat x = map-map (grant_for v) _ x.grants.rows

  no_frames_yet : (x : Variant) (count : ℕ) (k : Name × Name) (f : Frame) → get (flat x empty).frames k ≡ Some f → IsFine count f
  no_frames_yet x count k f at = let no : None ≡ Some f = sym (get-empty owned k) ∙ at in absurd cc

  pub begun_flat : (old mid state : State) → Changes (with_variant (opened_row v 1)) old mid → Copies (grants_for p v) with_grants mid state
      → (c : Cluster) (b : Book) (x : Variant) → MayOpen b v p x → Stands old c b → Stands state c (filled b v x empty)
  begun_flat old mid state h copies c b x may stands =
      let gs = copies.copies in
      let same : IsPermutation (grants_for p v (tables_of old)) gs = subst (λ t. IsPermutation (grants_for p v t) gs) h.now copies.same in
      let rows : HoldsRows (with_grants gs (with_variant (opened_row v 1) (tables_of old))) c.params.cycles (filled b v x empty) =
      new_stands (tables_of old) c.params.cycles b stands.for.rows v (flat x empty) false may.new tt (λ k. get-empty owned k) (no_frames_yet x c.params.cycles) gs
      (subst (λ rs. IsPermutation rs gs) (turned_flat x) (grants_copied (tables_of old) c.params.cycles b stands.for.rows p v x may.there gs same)) in
      record {
        has = copies.added.has;
        for = subst (λ t. StandsFor t c (filled b v x empty)) (sym (copies.added.now ∙ ap (with_grants gs) h.now)) (record { heads = stands.for.heads; rows = rows });
      }
