-- What the queries show of how a variant is stored, and of whether a frame is its own.
use Rattle.std.proofs.Common.{◌≡◌, ℕ, Bool, true, false, not, cond, ◌&&◌, ◌||◌, ◌==◌, None, Some, Option, is_some, List, [], ◌∷◌, map, filter, length, refl, sym, ap, ◌∙◌, subst, IsPermutation, bytes_eq, slice_get, arith, true≢false}
use Rattle.std.specs.List.{list_any}
use Rattle.std.specs.Ordering.{int_eq}
use Rattle.std.proofs.lemmas.Bool.{and_parts, and_from}
use Rattle.std.proofs.lemmas.List.{length-map}
use Rattle.std.proofs.lemmas.List.Elements.{All-from_recursion, All-head}
use Rattle.std.proofs.lemmas.List.Folds.{list_any-append}
use Rattle.std.proofs.lemmas.List.Sorted.{IsPermutation-trans, All-permutation, list_any-IsPermutation}
use Rattle.sqlite.specs.declared.types.Value.TheVariants.{Int}
use Rattle.sqlite.specs.Order.{Row, column}
use Rattle.sqlite_keyed.proofs.ListLemmas.{filter-map, IsPermutation-filter}
use Rattle.fr_base.specs.Tables.{Table, get}
use Rattle.fr_base.specs.Keys.{names}
use Rattle.fr_base.specs.Book.{Frame, Variant, Book}
use Rattle.fr_base.specs.declared.name.Name.{Name}
use Rattle.fr_base.proofs.SoundRows.{same_text-is}
use Rattle.fr_tables.specs.Rows.{VariantRow, FrameRow, of_maybe, maybe_words, flag, key_of}
use Rattle.fr_tables.specs.Tables.{Tables}
use Rattle.fr_tables.specs.Changes.{AreListed}
use Rattle.fr_tables.specs.Statements.{is_variant, is_frame, shows_variant, shows_frame, any_order}
use Rattle.fr_store.specs.StandsFor.{HoldsRows, Stored, variant_row, own_or, of_parent, is_hidden, seen}
use Rattle.fr_store.specs.Owning.{says_over, IsStoredSo, TellsOrigin, is_own}
use Rattle.fr_store.specs.declared.applying.origin.Origin.{Origin}
use Rattle.fr_store.proofs.FrameChanges.{one_row, frame_apart}
use Rattle.fr_store.proofs.FrameSections.{section, others, parted, others_apart}
use Rattle.fr_store.proofs.HolderLemmas.{other_name}
use Rattle.fr_store.proofs.PlacementSections.{own_text, none_there}
use Rattle.fr_store.proofs.SectionLemmas.{only_row, row_at}

-- ---- tests of lists

abbrev each : {X : Type 0} → X → Bool
each x = true

-- one passes where some are left that pass
any_left : {X : Type 0} (p : X → Bool) (xs : List X) → list_any p xs ≡ list_any each (filter p xs)
any_left p [] = refl
any_left p (x ∷ xs) = elim (p x) as (λ b. b || list_any p xs ≡ list_any each (cond b (x ∷ filter p xs) (filter p xs))) [ true ↦ refl | false ↦ any_left p xs ]

any_some : {X : Type 0} (xs : List X) → not (length xs == 0) ≡ list_any each xs
any_some [] = refl
any_some (x ∷ xs) = ap not (length_more x xs)
  where
    length_more : {X : Type 0} (x : X) (xs : List X) → (length (x ∷ xs) == 0) ≡ false
    length_more x xs = grind arith

any_among : {X : Type 0} (p q : X → Bool) (xs : List X) → list_any q (filter p xs) ≡ list_any (λ x. p x && q x) xs
any_among p q [] = refl
any_among p q (x ∷ xs) = elim (p x) as (λ b. list_any q (cond b (x ∷ filter p xs) (filter p xs)) ≡ (b && q x) || list_any (λ x. p x && q x) xs) [ true ↦ ap (λ r. q x || r) (any_among p q xs) | false ↦ any_among p q xs ]

-- ---- how a variant is stored

flag_itself : (is : Bool) → int_eq (flag is) (flag is) ≡ true
flag_itself true = refl
flag_itself false = refl

same_flag : (a b : Bool) → int_eq (flag a) (flag b) ≡ true → a ≡ b
same_flag true true h = refl
same_flag true false h = absurd (true≢false (sym h))
same_flag false true h = absurd (true≢false (sym h))
same_flag false false h = refl

maybe_back : (o : Option (List ℕ)) → maybe_words (of_maybe o) ≡ o
maybe_back None = refl
maybe_back (Some w) = refl

module _ (v : Name) (t : Tables) (origin : Origin) (line : Row) (rest : List Row) (parent : column line 1 ≡ of_maybe origin.parent) (overlay : column line 4 ≡ Int (flag origin.overlay)) where
  abbrev ours : VariantRow → Bool
  ours r = int_eq r.overlay (flag origin.overlay)

  row_over : (r : VariantRow) → line ≡ shows_variant r → r.overlay ≡ flag origin.overlay
  row_over r is = let same : Int r.overlay ≡ Int (flag origin.overlay) = sym (ap (λ (s : Row). column s 4) is) ∙ overlay in cc

  row_parent : (r : VariantRow) → line ≡ shows_variant r → r.parent ≡ origin.parent
  row_parent r is = sym (maybe_back r.parent) ∙ ap maybe_words (sym (ap (λ (s : Row). column s 1) is) ∙ parent) ∙ maybe_back origin.parent

  first_of : (found : List VariantRow) → line ∷ rest ≡ map shows_variant found → (r : VariantRow) × (more : List VariantRow) × (found ≡ r ∷ more) × (line ≡ shows_variant r)
  first_of [] is = absurd cc
  first_of (r ∷ more) is = (r, more, refl, cc)

  its_parent : (found : List VariantRow) → IsPermutation (filter (is_variant v) t.variants) found → (count : ℕ) (b : Book) (stands : HoldsRows t count b) (x : Variant) → get b.variants v ≡ Some x
      → (r : VariantRow) (more : List VariantRow) → found ≡ r ∷ more → x.parent ≡ r.parent
  its_parent found same count b stands x there r more is =
      let row_of = variant_row stands.stored in
      let only : filter (is_variant v) (map row_of b.variants.rows) ≡ row_of (v, x) ∷ [] =
      filter-map (is_variant v) row_of b.variants.rows
      ∙ ap (map row_of) (only_row names (λ e. bytes_eq e.0 v) v (λ e. other_name v e.0) (λ y. own_text v) b.variants ∙ ap (row_at v) there) in
      let all : IsPermutation (row_of (v, x) ∷ []) (r ∷ more) =
      subst (IsPermutation (row_of (v, x) ∷ [])) is
      (IsPermutation-trans _ _ _ (subst (λ xs. IsPermutation xs (filter (is_variant v) t.variants)) only (IsPermutation-filter (is_variant v) _ _ stands.variants)) same) in
      All-head (λ (q : VariantRow). x.parent ≡ q.parent) _ _ (All-permutation (λ (q : VariantRow). x.parent ≡ q.parent) _ _ all (All-from_recursion (λ (q : VariantRow). x.parent ≡ q.parent) (row_of (v, x) ∷ []) (refl, tt)))

  of_rows : AreListed shows_variant (is_variant v) any_order t.variants (line ∷ rest) → TellsOrigin v t origin
  of_rows listed =
      let first = first_of listed.found listed.shown in
      let r : VariantRow = first.0 in
      record {
        overlay =
            sym (any_among (is_variant v) ours t.variants) ∙ list_any-IsPermutation ours _ _ listed.same ∙ ap (list_any ours) first.2
            ∙ ap (λ n. int_eq n (flag origin.overlay) || list_any ours first.1) (row_over r first.3) ∙ ap (λ b. b || list_any ours first.1) (flag_itself origin.overlay);
        parent = λ count b stands x there. its_parent listed.found listed.same count b stands x there r first.1 first.2 ∙ row_parent r first.3;
      }

pub origin_told : (v : Name) (t : Tables) (rows : List Row) (line : Row) (origin : Origin) → slice_get rows 0 ≡ Some line → AreListed shows_variant (is_variant v) any_order t.variants rows
    → column line 1 ≡ of_maybe origin.parent → column line 4 ≡ Int (flag origin.overlay) → TellsOrigin v t origin
origin_told v t [] line origin first listed parent overlay = absurd cc
origin_told v t (r ∷ rest) line origin first listed parent overlay =
    let same : r ≡ line = cc in
    of_rows v t origin r rest (ap (λ (s : Row). column s 1) same ∙ parent) (ap (λ (s : Row). column s 4) same ∙ overlay) listed

-- a variant that is stored so
module _ (v : Name) (over : Bool) (stored : Name → Stored) where
  any_stored : (es : List (Name × Variant)) → list_any (says_over v over) (map (variant_row stored) es) ≡ true → (stored v).overlay ≡ over
  any_stored [] h = absurd (true≢false (sym h))
  any_stored (e ∷ es) h = by_test (says_over v over (variant_row stored e)) refl h (any_stored es)
    where
      by_test : (b : Bool) → says_over v over (variant_row stored e) ≡ b → (b || list_any (says_over v over) (map (variant_row stored) es)) ≡ true
          → (list_any (says_over v over) (map (variant_row stored) es) ≡ true → (stored v).overlay ≡ over) → (stored v).overlay ≡ over
      by_test false is h more = more h
      by_test true is h more =
          let here = and_parts _ _ is in
          subst (λ w. (stored w).overlay ≡ over) (same_text-is e.0 v here.0) (same_flag (stored e.0).overlay over here.1)

pub stored_so : (t : Tables) (count : ℕ) (b : Book) (stands : HoldsRows t count b) (v : Name) (over : Bool) → IsStoredSo v over t → (stands.stored v).overlay ≡ over
stored_so t count b stands v over so = any_stored v over stands.stored b.variants.rows (list_any-IsPermutation (says_over v over) _ _ stands.variants ∙ so)

-- ---- whether a frame is the variant's own

module _ (v s f : Name) (t : Tables) where
  pub own_told : (rows : List Row) → AreListed shows_frame (is_frame (key_of v s f)) any_order t.frames rows → not (length rows == 0) ≡ is_own (key_of v s f) t
  own_told rows listed =
      ap (λ n. not (n == 0)) (ap length listed.shown ∙ length-map listed.found shows_frame) ∙ any_some listed.found
      ∙ sym (any_left (is_frame (key_of v s f)) t.frames ∙ list_any-IsPermutation each _ _ listed.same)

  -- the variant is there, and shows the frame
  abbrev pub Shown : Table names Variant → Name → Frame → Type 0
  Shown variants w g = (y : Variant) × (get variants w ≡ Some y) × (get y.frames (s, f) ≡ Some g)

  in_parent : (variants : Table names Variant) (p : Name) (g : Frame) (o : Option Variant) → get variants p ≡ o → of_parent variants (Some p) (s, f) ≡ Some g → Shown variants p g
  unfolding of_parent
  in_parent variants p g None is h = let no : None ≡ Some g = sym (rw is refl) ∙ h in absurd cc
  in_parent variants p g (Some y) is h = (y, is, sym (rw is refl) ∙ h)

  module _ (count : ℕ) (b : Book) (stands : HoldsRows t count b) (x : Variant) (there : get b.variants v ≡ Some x) where
    abbrev own : Option Frame
    own = get (stands.stored v).own (s, f)

    abbrev rest : List FrameRow
    rest = others one_row v s f stands.stored b.variants

    none_of_rest : list_any (is_frame (key_of v s f)) rest ≡ false
    none_of_rest = any_left (is_frame (key_of v s f)) rest ∙ ap (list_any each) (others_apart one_row v s f (is_frame (key_of v s f)) (frame_apart v s f) stands.stored b.variants)

    its_row : (o : Option Frame) → list_any (is_frame (key_of v s f)) (section one_row v s f o) ≡ is_some o
    its_row None = refl
    its_row (Some frame) = ap (λ b. b || false) (and_from _ _ (own_text v) (and_from _ _ (own_text s) (own_text f)))

    or_none : (b : Bool) → (b || false) ≡ b
    or_none true = refl
    or_none false = refl

    -- it is where it is one of those by which the tables stand for the book
    pub own_is : is_own (key_of v s f) t ≡ is_some own
    own_is =
        sym (list_any-IsPermutation (is_frame (key_of v s f)) _ _ (IsPermutation-trans _ _ _ (parted one_row v s f stands.stored b.variants x there) stands.frames))
        ∙ list_any-append (is_frame (key_of v s f)) (section one_row v s f own) rest
        ∙ ap (λ n. list_any (is_frame (key_of v s f)) (section one_row v s f own) || n) none_of_rest ∙ or_none _ ∙ its_row own

    -- ---- which frame it shows then

    pub own_shown : (g : Frame) → own ≡ Some g → get x.frames (s, f) ≡ Some g
    unfolding seen
    own_shown g is = (stands.each v x there).frames (s, f) ∙ ap (λ o. own_or o (is_hidden t.dropped v (stands.stored v) (s, f)) (of_parent b.variants x.parent (s, f))) is

    shown_above : (hidden : Bool) (inherited : Option Frame) (g : Frame) → own_or None hidden inherited ≡ Some g → inherited ≡ Some g
    shown_above true inherited g h = absurd cc
    shown_above false inherited g h = h

    module _ (g : Frame) (shown : get x.frames (s, f) ≡ Some g) where
      -- its own frame is the one that it shows
      pub own_as_shown : is_own (key_of v s f) t ≡ true → own ≡ Some g
      own_as_shown is = by_own own refl (sym own_is ∙ is)
        where
          by_own : (o : Option Frame) → own ≡ o → is_some o ≡ true → o ≡ Some g
          by_own None e h = absurd cc
          by_own (Some k) e h = sym (own_shown k e) ∙ shown

      -- one that is not its own is the parent's
      pub above_shows : is_own (key_of v s f) t ≡ false → (parent : Name) → x.parent ≡ Some parent → Shown b.variants parent g
      unfolding seen
      above_shows not_own parent is =
          let none : own ≡ None = none_there own (sym own_is ∙ not_own) in
          let inherited : of_parent b.variants x.parent (s, f) ≡ Some g =
          shown_above (is_hidden t.dropped v (stands.stored v) (s, f)) _ g
          (sym ((stands.each v x there).frames (s, f) ∙ ap (λ o. own_or o (is_hidden t.dropped v (stands.stored v) (s, f)) (of_parent b.variants x.parent (s, f))) none) ∙ shown) in
          in_parent b.variants parent g (get b.variants parent) refl (sym (ap (λ p. of_parent b.variants p (s, f)) is) ∙ inherited)
