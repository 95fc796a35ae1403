-- The rows of a table are those of its suppliers, one supplier after another.
use Rattle.std.proofs.Common.{◌≡◌, true, false, cond, List, [], ◌∷◌, ◌++◌, map, filter, Some, IsTrue, refl, sym, ap, ◌∙◌, inl, inr, Ordering, Less, Equal, Greater}
use Rattle.std.specs.Prelude.{T}
use Rattle.std.specs.Cmp.{tied_itself}
use Rattle.std.specs.FinMap.Entries.{below_all, is_sorted}
use Rattle.std.specs.List.{flat_map}
use Rattle.std.specs.Ordering.{is_lt, ordering_then}
use Rattle.std.proofs.lemmas.Bool.{cases_Bool}
use Rattle.std.proofs.lemmas.Grind.{flat_map-append}
use Rattle.std.proofs.lemmas.List.{map-append}
use Rattle.fr_base.specs.Book.{Frame, Book, Variant, is_of, listed, own}
use Rattle.fr_base.specs.Cluster.{Cluster}
use Rattle.fr_base.specs.Keys.{names, owned}
use Rattle.fr_base.specs.Names.{same_text}
use Rattle.fr_base.specs.Sound.{IsSound}
use Rattle.fr_base.specs.TableRows.{first, second}
use Rattle.fr_base.specs.Tables.{Table, contains, get, only}
use Rattle.fr_base.specs.declared.config.Supplier.{Supplier}
use Rattle.fr_base.specs.declared.key.Key.{Key}
use Rattle.fr_base.specs.declared.name.Name.{Name}
use Rattle.fr_base.proofs.SoundRows.{same_text-is}
use Rattle.fr_base.proofs.AloneCells.{same_text-itself}
use Rattle.fr_base.proofs.SoundTables.{value_of}
use Rattle.fr_office.proofs.ShownLaws.{flat-map}
use Rattle.fr_world.proofs.AmongLaws.{In, In-map}
use Rattle.fr_world.proofs.ApartLaws.{In-find, find-In}

less : (r : Ordering) → T (is_lt r) → r ≡ Less
less Less h = refl
less Equal h = absurd h
less Greater h = absurd h

not_less : (a : Name) → names.compare a a ≡ Less → ⊥
not_less a h = let no : Less ≡ Equal = sym h ∙ tied_itself names.total a in cc

-- of two names one is above the other, so they differ
differ : (a b : Name) → names.compare a b ≡ Less → same_text a b ≡ false
differ a b h = elim (cases_Bool (same_text a b)) [
  | inl same ↦ absurd (not_less b (ap (λ x. names.compare x b) (sym (same_text-is a b same)) ∙ h))
  | inr other ↦ other
]

differ_turned : (a b : Name) → names.compare a b ≡ Less → same_text b a ≡ false
differ_turned a b h = elim (cases_Bool (same_text b a)) [
  | inl same ↦ absurd (not_less a (ap (names.compare a) (sym (same_text-is b a same)) ∙ h))
  | inr other ↦ other
]

-- a supplier before the first of two keys in order is before the second
before : (s : Name) (k l : Name × Name) → names.compare s k.0 ≡ Less → owned.compare k l ≡ Less → names.compare s l.0 ≡ Less
unfolding owned
before s k l h below = by_first (names.compare k.0 l.0) refl below
  where
    by_first : (r : Ordering) → names.compare k.0 l.0 ≡ r → ordering_then r (names.compare k.1 l.1) ≡ Less → names.compare s l.0 ≡ Less
    by_first Less is e = names.total.trans s k.0 l.0 h is
    by_first Equal is e = ap (names.compare s) (sym (names.exact k.0 l.0 is)) ∙ h
    by_first Greater is e = cc

-- a name among some above is above
above_in : (s n : Name) (ss : List (Name × Key)) → T (below_all names.compare s ss) → In n (map (λ t. t.0) ss) → names.compare s n ≡ Less
above_in s n [] above i = absurd i
above_in s n (t ∷ ts) above (inl is) = ap (names.compare s) (sym is) ∙ less _ (first _ _ above)
above_in s n (t ∷ ts) above (inr i) = above_in s n ts (second _ _ above) i

module _ {V : Type 0} where
  -- the supplier's rows among these
  abbrev pub rows_of : Name → List ((Name × Name) × V) → List ((Name × Name) × V)
  rows_of s es = filter (λ e. is_of s e.0) es

  -- a supplier before all of them has none
  none_before : (s : Name) (e : (Name × Name) × V) (es : List ((Name × Name) × V)) → names.compare s e.0.0 ≡ Less → T (below_all owned.compare e.0 es) → rows_of s es ≡ []
  none_before s e [] h below = refl
  none_before s e (f ∷ fs) h below =
      let after : names.compare s f.0.0 ≡ Less = before s e.0 f.0 h (less _ (first _ _ below)) in
      ap (λ b. cond b (f ∷ rows_of s fs) (rows_of s fs)) (differ_turned s f.0.0 after) ∙ none_before s e fs h (second _ _ below)

  -- suppliers above have nothing of one more row
  passed : (e : (Name × Name) × V) (es : List ((Name × Name) × V)) (s : Name) (ss : List (Name × Key)) → e.0.0 ≡ s → T (below_all names.compare s ss) →
      flat_map (λ t. rows_of t.0 (e ∷ es)) ss ≡ flat_map (λ t. rows_of t.0 es) ss
  passed e es s [] is above = refl
  passed e es s (t ∷ ts) is above =
      (λ i. cond (differ e.0.0 t.0 (ap (λ x. names.compare x t.0) is ∙ less _ (first _ _ above)) i) (e ∷ rows_of t.0 es) (rows_of t.0 es)
      ++ passed e es s ts is (second _ _ above) i)

  -- one row more, the first
  one_more : (e : (Name × Name) × V) (es : List ((Name × Name) × V)) (ss : List (Name × Key)) →
      T (below_all owned.compare e.0 es) → T (is_sorted names.compare ss) → In e.0.0 (map (λ t. t.0) ss) →
      flat_map (λ t. rows_of t.0 (e ∷ es)) ss ≡ e ∷ flat_map (λ t. rows_of t.0 es) ss
  one_more e es [] below rise i = absurd i
  one_more e es (s ∷ ss) below rise i = elim (cases_Bool (same_text e.0.0 s.0)) [
    | inl same ↦
        (λ j. cond (same j) (e ∷ rows_of s.0 es) (rows_of s.0 es) ++ passed e es s.0 ss (same_text-is e.0.0 s.0 same) (first _ _ rise) j)
    | inr other ↦
        let later : In e.0.0 (map (λ t. t.0) ss) = not_first i other in
        let low : names.compare s.0 e.0.0 ≡ Less = above_in s.0 e.0.0 ss (first _ _ rise) later in
        let none : rows_of s.0 es ≡ [] = none_before s.0 e es low below in
        (λ j. cond (other j) (e ∷ rows_of s.0 es) (rows_of s.0 es) ++ one_more e es ss below (second _ _ rise) later j)
        ∙ (λ j. none j ++ (e ∷ flat_map (λ t. rows_of t.0 es) ss))
        ∙ (λ j. e ∷ (sym none j ++ flat_map (λ t. rows_of t.0 es) ss))
  ]
    where
      not_first : In e.0.0 (s.0 ∷ map (λ t. t.0) ss) → same_text e.0.0 s.0 ≡ false → In e.0.0 (map (λ t. t.0) ss)
      not_first (inl is) other = let no : true ≡ false = sym (same_text-itself s.0) ∙ ap (λ x. same_text x s.0) is ∙ other in cc
      not_first (inr i) other = i

  nothing : (ss : List (Name × Key)) → flat_map (λ t. rows_of t.0 []) ss ≡ []
  nothing [] = refl
  nothing (s ∷ ss) = nothing ss

  -- rows in order, whose suppliers are among these
  pub split : (es : List ((Name × Name) × V)) (ss : List (Name × Key)) →
      T (is_sorted owned.compare es) → T (is_sorted names.compare ss) → ((e : (Name × Name) × V) → In e es → In e.0.0 (map (λ t. t.0) ss)) →
      flat_map (λ t. rows_of t.0 es) ss ≡ es
  split [] ss sorted rise known = nothing ss
  split (e ∷ es) ss sorted rise known =
      one_more e es ss (first _ _ sorted) rise (known e (inl refl))
      ∙ ap (λ rest. e ∷ rest) (split es ss (second _ _ sorted) rise (λ f i. known f (inr i)))

-- ---- what is made of rows, supplier by supplier

pub map-flat_map : {A B R : Type 0} (g : B → R) (h : A → List B) (xs : List A) → flat_map (λ x. map g (h x)) xs ≡ map g (flat_map h xs)
map-flat_map g h [] = refl
map-flat_map g h (x ∷ xs) = ap (λ rest. map g (h x) ++ rest) (map-flat_map g h xs) ∙ sym (map-append g (h x) (flat_map h xs))

pub flat-flat_map : {A B R : Type 0} (g : B → List R) (h : A → List B) (xs : List A) → flat_map (λ x. flat_map g (h x)) xs ≡ flat_map g (flat_map h xs)
flat-flat_map g h [] = refl
flat-flat_map g h (x ∷ xs) = ap (λ rest. flat_map g (h x) ++ rest) (flat-flat_map g h xs) ∙ sym (flat_map-append g (h x) (flat_map h xs))

-- ---- in a sound book

-- the suppliers' names, in byte order
abbrev pub supplier_names : Book → List Name
supplier_names b = map (λ (e : Name × Key). e.0) b.suppliers.rows

-- as a cluster file lists them
pub names-listed : (b : Book) → map (λ (s : Supplier). s.name) (map listed b.suppliers.rows) ≡ supplier_names b
names-listed b = again b.suppliers.rows
  where
    again : (es : List (Name × Key)) → map (λ (s : Supplier). s.name) (map listed es) ≡ map (λ (e : Name × Key). e.0) es
    again [] = refl
    again (e ∷ es) = ap (λ rest. e.0 ∷ rest) (again es)

-- who is there is among them
pub among_names : (b : Book) (n : Name) → IsTrue (contains b.suppliers n) → In n (supplier_names b)
unfolding get
among_names b n h =
    let found = value_of (get b.suppliers n) h in
    In-map (λ (e : Name × Key). e.0) (n, found.0) b.suppliers.rows (find-In names b.suppliers.rows n found.0 found.1)

module _ (c : Cluster) (b : Book) (v : Name) (x : Variant) (sound : IsSound c b) (there : get b.variants v ≡ Some x) where
  -- frames that are among the variant's have suppliers that are there
  known-frames : (e : (Name × Name) × Frame) → In e x.frames.rows → In e.0.0 (supplier_names b)
  unfolding get
  known-frames e i =
      let f = (sound.variants v x there).1.frames e.0 e.1 (In-find owned x.frames.rows e x.frames.sorted i) in
      among_names b e.0.0 (sound.nodes e.0.0 e.1.node f.node).1

  -- frames of the variant are those of its suppliers, one supplier after another
  pub frames-split : (t : Table owned Frame) → ((e : (Name × Name) × Frame) → In e t.rows → In e x.frames.rows) → flat_map (λ s. (own s t).rows) (supplier_names b) ≡ t.rows
  unfolding only
  frames-split t among =
      flat-map (λ s. (own s t).rows) (λ (e : Name × Key). e.0) b.suppliers.rows
      ∙ split t.rows b.suppliers.rows t.sorted b.suppliers.sorted (λ e i. known-frames e (among e i))
