-- Frames of which no two placements share a cell: by the list of all placements, and by look-ups.
use Rattle.std.proofs.Common.{◌≡◌, true, List, [], ◌∷◌, ◌++◌, map, flat_map, Some, is_some, All, AllPairs, IsTrue, refl, sym, ap, subst, ◌∙◌, ◌⊎◌, inl, inr, arith, true≢false, cond, Equal}
use Rattle.std.specs.Prelude.{⊤, T}
use Rattle.std.specs.Ordering.{is_eq, eq_by_cmp}
use Rattle.std.specs.Cmp.{tied_itself}
use Rattle.std.specs.FinMap.Entries.{find, is_sorted}
use Rattle.std.proofs.lemmas.Bool.{cases_Bool}
use Rattle.std.proofs.lemmas.List.Elements.{All-nil, All-cons, All-append, All-contains, All-head, All-tail}
use Rattle.std.proofs.lemmas.List.Kept.{AllPairs-cons}
use Rattle.fr_base.specs.TableRows.{first, second}
use Rattle.fr_base.specs.Tables.{Order, Table, get, contains}
use Rattle.fr_base.specs.Keys.{owned, placement_order}
use Rattle.fr_base.specs.Cells.{Cell, has_cell}
use Rattle.fr_base.specs.Book.{Frame, Sender, placements_of}
use Rattle.fr_base.specs.Queries.{placements_in}
use Rattle.fr_base.specs.declared.name.Name.{Name}
use Rattle.fr_base.specs.declared.placement.Placement.{Placement}
use Rattle.fr_base.proofs.TableLaws.{equal, none_above}
use Rattle.fr_base.proofs.LayoutLaws.{AllPairs-head, AllPairs-tail}
use Rattle.fr_base.proofs.SoundTables.{same_some, value_of}
use Rattle.fr_base.proofs.SoundApart.{NoneShared}
use Rattle.fr_base.proofs.AloneCells.{entries_of}
use Rattle.fr_world.specs.Pages.{AreApart}
use Rattle.fr_world.proofs.AmongLaws.{In, In-map, map-In, In-flat_map, flat_map-In, Contains-In}

-- ---- what is among the rows of a table

module _ {K V : Type 0} (o : Order K) where
  pub find-In : (es : List (K × V)) (k : K) (v : V) → find o.compare k es ≡ Some v → In (k, v) es
  find-In [] k v e = cc
  find-In (x ∷ es) k v e = elim (cases_Bool (eq_by_cmp o.compare k x.0)) [
    | inl here ↦ inl (λ i. (sym (o.exact k x.0 (equal _ here)) i, same_some x.1 v (rw here at e) i))
    | inr other ↦ inr (find-In es k v (rw other at e))
  ]

  pub find_first : (e : K × V) (es : List (K × V)) → find o.compare e.0 (e ∷ es) ≡ Some e.1
  find_first e es = ap (λ r. cond (is_eq r) (Some e.1) (find o.compare e.0 es)) (tied_itself o.total e.0)

  pub find_later : (e : K × V) (es : List (K × V)) (k : K) (v : V) → T (is_sorted o.compare (e ∷ es)) → find o.compare k es ≡ Some v → find o.compare k (e ∷ es) ≡ Some v
  find_later e es k v sorted there = elim (cases_Bool (eq_by_cmp o.compare k e.0)) [
    | inl tie ↦ let none = none_above o (λ j w. true) k e.0 es (equal _ tie) (first _ _ sorted) in cc
    | inr other ↦ rw other there
  ]

  pub In-find : (es : List (K × V)) (e : K × V) → T (is_sorted o.compare es) → In e es → find o.compare e.0 es ≡ Some e.1
  In-find [] e sorted i = absurd i
  In-find (x ∷ es) e sorted (inl same) = subst (λ (y : K × V). find o.compare y.0 (x ∷ es) ≡ Some y.1) same (find_first x es)
  In-find (x ∷ es) e sorted (inr i) = find_later x es e.0 e.1 sorted (In-find es e (second _ _ sorted) i)

  -- no key stands twice
  pub not_later : (e x : K × V) (es : List (K × V)) → T (is_sorted o.compare (e ∷ es)) → In x es → e.0 ≡ x.0 → ⊥
  not_later e x es sorted i same =
      let tie : o.compare x.0 e.0 ≡ Equal = ap (λ k. o.compare x.0 k) same ∙ tied_itself o.total x.0 in
      let none = none_above o (λ j w. true) x.0 e.0 es tie (first _ _ sorted) in
      let there : find o.compare x.0 es ≡ Some x.1 = In-find es x (second _ _ sorted) i in
      true≢false (sym (ap is_some there) ∙ ap is_some none)

-- ---- lists by what is among their elements

module _ {X : Type 0} where
  pub In-All : (P : X → Type 0) (xs : List X) → ((x : X) → In x xs → P x) → All P xs
  In-All P [] h = All-nil P
  In-All P (x ∷ xs) h = All-cons P x xs (h x (inl refl)) (In-All P xs (λ y i. h y (inr i)))

  pub All-In : (P : X → Type 0) (xs : List X) (x : X) → All P xs → In x xs → P x
  All-In P xs x all i = All-contains P xs x all (Contains-In x xs i)

  module _ (R : X → X → Type 0) where
    pub AllPairs-In : (xs : List X) (x y : X) → AllPairs R xs → In x xs → In y xs → (x ≡ y) ⊎ (R x y ⊎ R y x)
    AllPairs-In [] x y pairs i j = absurd i
    AllPairs-In (z ∷ zs) x y pairs (inl i) (inl j) = inl (sym i ∙ j)
    AllPairs-In (z ∷ zs) x y pairs (inl i) (inr j) = inr (inl (subst (λ u. R u y) i (All-In (R z) zs y (AllPairs-head R z zs pairs) j)))
    AllPairs-In (z ∷ zs) x y pairs (inr i) (inl j) = inr (inr (subst (λ u. R u x) j (All-In (R z) zs x (AllPairs-head R z zs pairs) i)))
    AllPairs-In (z ∷ zs) x y pairs (inr i) (inr j) = AllPairs-In zs x y (AllPairs-tail R z zs pairs) i j

    pub AllPairs-append : (xs ys : List X) → AllPairs R xs → AllPairs R ys → All (λ x. All (R x) ys) xs → AllPairs R (xs ++ ys)
    AllPairs-append [] ys here there across = there
    AllPairs-append (x ∷ xs) ys here there across =
        AllPairs-cons R x (xs ++ ys) (All-append (R x) xs ys (AllPairs-head R x xs here) (All-head (λ y. All (R y) ys) x xs across))
        (AllPairs-append xs ys (AllPairs-tail R x xs here) there (All-tail (λ y. All (R y) ys) x xs across))

-- ---- a frame's placements

contains-In : (f : Frame) (q : Placement) → IsTrue (contains f.placements q) → In (q, tt) f.placements.rows
unfolding get
contains-In f q h = let there = value_of _ h in find-In placement_order f.placements.rows q there.0 there.1

In-contains : (f : Frame) (p : Placement × ⊤) → In p f.placements.rows → IsTrue (contains f.placements p.0)
unfolding get
In-contains f p i = ap is_some (In-find placement_order f.placements.rows p f.placements.sorted i)

-- what holds of each placement that a frame contains
pub contained-all : (P : Placement → Type 0) (f : Frame) → ((q : Placement) → IsTrue (contains f.placements q) → P q) → All P (placements_in f)
contained-all P f h = In-All P (placements_in f) (λ q i. let found = map-In (λ p. p.0) q f.placements.rows i in subst P found.2 (h found.0.0 (In-contains f found.0 found.1)))

pub all-contained : (P : Placement → Type 0) (f : Frame) → All P (placements_in f) → (q : Placement) → IsTrue (contains f.placements q) → P q
all-contained P f all q h = All-In P (placements_in f) q all (In-map (λ p. p.0) (q, tt) f.placements.rows (contains-In f q h))

-- ---- no cell in two placements

abbrev Apart : Sender × Placement → Sender × Placement → Type 0
Apart x y = AreApart x.1 y.1

abbrev sender : Name × Name → Frame → Sender
sender k f = record { supplier = k.0; frame = k.1; node = f.node }

In-placements : (frames : Table owned Frame) (k : Name × Name) (f : Frame) (q : Placement) → get frames k ≡ Some f → IsTrue (contains f.placements q) → In (sender k f, q) (placements_of frames)
unfolding placements_of get
In-placements frames k f q at within =
    In-flat_map entries_of (k, f) (sender k f, q) frames.rows (find-In owned frames.rows k f at) (In-map (λ p. (sender k f, p.0)) (q, tt) f.placements.rows (contains-In f q within))

pub pairs-none_shared : (frames : Table owned Frame) → AllPairs (λ x y. AreApart x.1 y.1) (placements_of frames) → NoneShared frames
pairs-none_shared frames pairs k l f g q r c at_k at_l in_f in_g has_q has_r =
    elim (AllPairs-In Apart (placements_of frames) (sender k f, q) (sender l g, r) pairs (In-placements frames k f q at_k in_f) (In-placements frames l g r at_l in_g)) [
      | inl same ↦ (ap (λ (x : Sender × Placement). (x.0.supplier, x.0.frame)) same, ap (λ (x : Sender × Placement). x.1) same)
      | inr either ↦ elim either [ inl apart ↦ absurd (apart c has_q has_r) | inr apart ↦ absurd (apart c has_r has_q) ]
    ]

-- within one frame
pairs-frame : (o : Sender) (ps : List (Placement × ⊤)) → T (is_sorted placement_order.compare ps) →
    ((p r : Placement × ⊤) (c : Cell) → In p ps → In r ps → IsTrue (has_cell p.0 c) → IsTrue (has_cell r.0 c) → p.0 ≡ r.0) → AllPairs Apart (map (λ p. (o, p.0)) ps)
pairs-frame o [] sorted one = λ i j d low high. absurd (omega arith)
pairs-frame o (p ∷ ps) sorted one =
    AllPairs-cons Apart (o, p.0) (map (λ p. (o, p.0)) ps)
    (In-All (Apart (o, p.0)) (map (λ p. (o, p.0)) ps) (λ y i c has_p has_y.
    let found = map-In (λ p. (o, p.0)) y ps i in
    not_later placement_order p found.0 ps sorted found.1 (one p found.0 c (inl refl) (inr found.1) has_p (subst (λ (x : Sender × Placement). IsTrue (has_cell x.1 c)) (sym found.2) has_y))))
    (pairs-frame o ps (second _ _ sorted) (λ q r c i j. one q r c (inr i) (inr j)))

abbrev OneEach : List ((Name × Name) × Frame) → Type 0
OneEach rows = (x y : (Name × Name) × Frame) (p r : Placement × ⊤) (c : Cell) → In x rows → In y rows → In p x.1.placements.rows → In r y.1.placements.rows →
    IsTrue (has_cell p.0 c) → IsTrue (has_cell r.0 c) → (x.0 ≡ y.0) × (p.0 ≡ r.0)

pairs-rows : (rows : List ((Name × Name) × Frame)) → T (is_sorted owned.compare rows) → OneEach rows → AllPairs Apart (flat_map entries_of rows)
pairs-rows [] sorted one = λ i j d low high. absurd (omega arith)
pairs-rows (row ∷ rows) sorted one =
    AllPairs-append Apart (entries_of row) (flat_map entries_of rows)
    (pairs-frame (sender row.0 row.1) row.1.placements.rows row.1.placements.sorted (λ p r c i j has_p has_r. (one row row p r c (inl refl) (inl refl) i j has_p has_r).1))
    (pairs-rows rows (second _ _ sorted) (λ x y p r c i j. one x y p r c (inr i) (inr j)))
    (In-All (λ x. All (Apart x) (flat_map entries_of rows)) (entries_of row) (λ x i. In-All (Apart x) (flat_map entries_of rows) (λ y j c has_x has_y.
    let mine = map-In (λ p. (sender row.0 row.1, p.0)) x row.1.placements.rows i in
    let other = flat_map-In entries_of y rows j in
    let its = map-In (λ p. (sender other.0.0 other.0.1, p.0)) y other.0.1.placements.rows other.2 in
    not_later owned row other.0 rows sorted other.1
    (one row other.0 mine.0 its.0 c (inl refl) (inr other.1) mine.1 its.1
    (subst (λ (u : Sender × Placement). IsTrue (has_cell u.1 c)) (sym mine.2) has_x)
    (subst (λ (u : Sender × Placement). IsTrue (has_cell u.1 c)) (sym its.2) has_y)).0)))

pub none_shared-pairs : (frames : Table owned Frame) → NoneShared frames → AllPairs (λ x y. AreApart x.1 y.1) (placements_of frames)
unfolding placements_of get
none_shared-pairs frames none = pairs-rows frames.rows frames.sorted (λ x y p r c i j in_x in_y.
    none x.0 y.0 x.1 y.1 p.0 r.0 c (In-find owned frames.rows x frames.sorted i) (In-find owned frames.rows y frames.sorted j) (In-contains x.1 p in_x) (In-contains y.1 r in_y))
