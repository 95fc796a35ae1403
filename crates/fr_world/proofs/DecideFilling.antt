-- Frames and placements that lie apart fill cells that are free.
use Rattle.std.proofs.Common.{◌≡◌, suc, Bool, true, false, cond, List, [], ◌∷◌, ◌++◌, map, flat_map, All, AllPairs, Option, Some, None, is_none, option_map, IsTrue, refl, sym, ap, subst, true≢false, ◌∙◌, ◌⊎◌, inl, inr, arith}
use Rattle.std.specs.Prelude.{⊤, ◌||◌}
use Rattle.std.specs.List.{list_any}
use Rattle.std.specs.List.Sorted.{IsStrictlySortedBy}
use Rattle.std.specs.Map.{keys_of}
use Rattle.std.specs.Cmp.{tied_itself, on_total, then_total, nat_cmp_total}
use Rattle.std.specs.Ordering.{is_eq}
use Rattle.std.proofs.lemmas.Bool.{cases_Bool, or_cases}
use Rattle.std.proofs.lemmas.List.{map-append}
use Rattle.std.proofs.lemmas.List.Elements.{All-nil, All-head, All-tail, All-cons, All-map}
use Rattle.std.proofs.lemmas.List.Kept.{AllPairs-cons}
use Rattle.fr_base.specs.Book as book
use Rattle.fr_base.specs.Book.{Sender, placements_of, schedule_of}
use Rattle.fr_base.specs.Cells.{Cell, cells_of, has_cell, same_cell}
use Rattle.fr_base.specs.Channels.{channel_number}
use Rattle.fr_base.specs.Keys.{owned}
use Rattle.fr_base.specs.Schedule.{fill, first_taken}
use Rattle.fr_base.specs.Step.{cell_taken}
use Rattle.fr_base.specs.Tables.{Table}
use Rattle.fr_base.specs.declared.name.Name.{Name}
use Rattle.fr_base.specs.declared.placement.Placement.{Placement}
use Rattle.fr_world.specs.declared.page.PageFrame.{PageFrame}
use Rattle.fr_world.specs.Decisions.{filled_by, taken_by}
use Rattle.fr_world.specs.Occupancies.{ShowCells, cell_refused, first_taken_cell, is_free, taken_cell}
use Rattle.fr_world.specs.Pages.{AreApart, IsKept, PageData, frame_data, frames_data, frame_of, own_rows_of}
use Rattle.fr_base.proofs.SoundCells.{same_cell-is}
use Rattle.fr_world.proofs.ApartLaws.{AllPairs-append}
use Rattle.fr_world.proofs.DecideRows.{frame_rows, frames-rows}
use Rattle.fr_world.proofs.KeyLaws.{name_cmp}

-- ---- pairs of a list

module _ {X : Type 0} (R : X → X → Type 0) where
  first-pairs : (x : X) (xs : List X) → AllPairs R (x ∷ xs) → All (R x) xs
  first-pairs x xs h = λ k d l. h 0 (suc k) d (omega arith) (omega arith)

  later-pairs : (x : X) (xs : List X) → AllPairs R (x ∷ xs) → AllPairs R xs
  later-pairs x xs h = λ i j d l m. h (suc i) (suc j) d (omega arith) (omega arith)

  all-middle : (P : X → Type 0) (xs : List X) (y : X) (ys : List X) → All P (xs ++ y ∷ ys) → P y
  all-middle P [] y ys h = All-head P y ys h
  all-middle P (x ∷ xs) y ys h = all-middle P xs y ys (All-tail P x (xs ++ y ∷ ys) h)

  pub pairs-map : {Y : Type 0} (f : Y → X) (ys : List Y) → AllPairs (λ x y. R (f x) (f y)) ys → AllPairs R (map f ys)
  pairs-map f [] h = λ i j d l m. absurd (omega arith)
  pairs-map f (y ∷ ys) h = AllPairs-cons R (f y) (map f ys) (All-map (R (f y)) f ys (λ k d l. h 0 (suc k) d (omega arith) (omega arith))) (pairs-map f ys (λ i j d l m. h (suc i) (suc j) d (omega arith) (omega arith)))

-- ---- what is apart is free

-- no two of the placements share a cell
abbrev pub Apart : List (Name × Placement) → Type 0
Apart = AllPairs (λ x y. AreApart x.1 y.1)

unfilled : (xs : List (Name × Placement)) (f : Name) (q : Placement) (ys : List (Name × Placement)) (c : Cell) → Apart (xs ++ (f, q) ∷ ys) → IsTrue (has_cell q c) → fill xs c ≡ None
unfolding fill
unfilled [] f q ys c apart has = refl
unfilled (x ∷ xs) f q ys c apart has =
    let here : AreApart x.1 q = all-middle (λ x y. AreApart x.1 y.1) (λ y. AreApart x.1 y.1) xs (f, q) ys (first-pairs (λ x y. AreApart x.1 y.1) x (xs ++ (f, q) ∷ ys) apart) in
    elim (cases_Bool (has_cell x.1 c)) [
      | inl clash ↦ absurd (here c clash has)
      | inr lacks ↦ rw lacks (unfilled xs f q ys c (later-pairs (λ x y. AreApart x.1 y.1) x (xs ++ (f, q) ∷ ys) apart) has)
    ]

same_cell-itself : (c : Cell) → same_cell c c ≡ true
same_cell-itself c = ap is_eq (tied_itself (then_total (on_total (λ (d : Cell). d.cycle) nat_cmp_total) (then_total (on_total (λ (d : Cell). d.slot) nat_cmp_total) (on_total (λ (d : Cell). channel_number d.channel) nat_cmp_total))) c)

or_now : (a b : Bool) → a ≡ true → a || b ≡ true
or_now true b h = refl
or_now false b h = cc

or_later : (a b : Bool) → b ≡ true → a || b ≡ true
or_later true b h = refl
or_later false b h = h

none_taken : {O : Type 0} (filled : Cell → Option O) (ds : List Cell) → ((c : Cell) → list_any (same_cell c) ds ≡ true → filled c ≡ None) → first_taken filled ds ≡ None
unfolding first_taken
none_taken filled [] none = refl
none_taken filled (d ∷ ds) none =
    let here : filled d ≡ None = none d (or_now (same_cell d d) _ (same_cell-itself d)) in
    rw here (none_taken filled ds (λ c h. none c (or_later (same_cell c d) _ h)))

pub free-apart : (xs : List (Name × Placement)) (f : Name) (q : Placement) (ys : List (Name × Placement)) → Apart (xs ++ (f, q) ∷ ys) → IsTrue (is_free xs q)
unfolding is_free has_cell
free-apart xs f q ys apart = ap is_none (none_taken (fill xs) (cells_of q) (λ c has. unfilled xs f q ys c apart has))

-- ---- a page's frames

-- the placements of frames, each with its frame's name
abbrev pub filled_in : List (Name × PageFrame) → List (Name × Placement)
filled_in es = flat_map (λ e. filled_by e.0 (frame_of (frame_data e.1))) es

abbrev pub named : Sender × Placement → Name × Placement
named e = (e.0.frame, e.1)

abbrev entries_of : (Name × Name) × book.Frame → List (Sender × Placement)
entries_of row = map (λ q. (record { supplier = row.0.0; frame = row.0.1; node = row.1.node }, q.0)) row.1.placements.rows

named-entries : (o : Sender) (ps : List (Placement × ⊤)) → map named (map (λ q. (o, q.0)) ps) ≡ map (λ q. (o.frame, q)) (map (λ q. q.0) ps)
named-entries o [] = refl
named-entries o (p ∷ ps) = ap (λ rest. (o.frame, p.0) ∷ rest) (named-entries o ps)

named-frames : (s : Name) (es : List (Name × PageFrame)) → map named (flat_map entries_of (frame_rows s (frames_data es))) ≡ filled_in es
named-frames s [] = refl
named-frames s (e ∷ es) =
    map-append named (entries_of ((s, e.0), frame_of (frame_data e.1))) (flat_map entries_of (frame_rows s (frames_data es)))
    ∙ (λ i. named-entries (record { supplier = s; frame = e.0; node = e.1.node }) (frame_of (frame_data e.1)).placements.rows i ++ named-frames s es i)

pub named-page : (rows : PageData) (es : List (Name × PageFrame)) → frames_data es ≡ rows.frames → IsStrictlySortedBy name_cmp (keys_of es) → map named (placements_of (own_rows_of rows).frames) ≡ filled_in es
unfolding placements_of
named-page rows es e h = ap (λ rs. map named (flat_map entries_of rs)) (frames-rows rows es e h) ∙ named-frames rows.supplier es

-- a page's placements are apart
pub page-apart : (rows : PageData) (es : List (Name × PageFrame)) → frames_data es ≡ rows.frames → IsStrictlySortedBy name_cmp (keys_of es) → IsKept rows → Apart (filled_in es)
page-apart rows es e h kept = subst Apart (named-page rows es e h) (pairs-map (λ x y. AreApart x.1 y.1) named (placements_of (own_rows_of rows).frames) kept.page.apart)

-- ---- the first taken cell, with its frame

pub fill-named : (xs : List (Sender × Placement)) (c : Cell) → fill (map named xs) c ≡ option_map (λ o. o.frame) (fill xs c)
unfolding fill
fill-named [] c = refl
fill-named (x ∷ xs) c = elim (has_cell x.1 c) as (λ b. cond b (Some x.0.frame) (fill (map named xs) c) ≡ option_map (λ o. o.frame) (cond b (Some x.0) (fill xs c))) [
  | true ↦ refl
  | false ↦ fill-named xs c
]

option_is : {A : Type 0} (r : Option A) → ((x : A) × (r ≡ Some x)) ⊎ (r ≡ None)
option_is None = inr refl
option_is (Some x) = inl (x, refl)

-- cells that have the same frames have the same first taken cell
pub taken-like : (filled : Cell → Option Name) (owners : Cell → Option Sender) → ((c : Cell) → filled c ≡ option_map (λ o. o.frame) (owners c)) → (ds : List Cell) → option_map taken_cell (first_taken filled ds) ≡ option_map taken_by (first_taken owners ds)
unfolding first_taken
taken-like filled owners same [] = refl
taken-like filled owners same (d ∷ ds) = elim (option_is (owners d)) [
  | inl o ↦ rw (same d, o.1) refl
  | inr none ↦ rw (same d, none) (taken-like filled owners same ds)
]

refused-taken : (r : Option (Cell × Sender)) → cell_refused (option_map taken_by r) ≡ cell_taken r
unfolding cell_taken
refused-taken None = refl
refused-taken (Some x) = refl

-- a placement is refused as by the schedule
pub refused-shown : (pairs : List (Name × Placement)) (frames : Table owned book.Frame) (q : Placement) → ShowCells pairs frames → cell_refused (first_taken_cell pairs q) ≡ cell_taken (first_taken (schedule_of frames) (cells_of q))
unfolding first_taken_cell
refused-shown pairs frames q shows = ap cell_refused (taken-like (fill pairs) (schedule_of frames) shows (cells_of q)) ∙ refused-taken (first_taken (schedule_of frames) (cells_of q))

-- the pairs of a page's frames show its cells
pub shown-page : (rows : PageData) (es : List (Name × PageFrame)) → frames_data es ≡ rows.frames → IsStrictlySortedBy name_cmp (keys_of es) → ShowCells (filled_in es) (own_rows_of rows).frames
unfolding schedule_of
shown-page rows es e h c = ap (λ ps. fill ps c) (sym (named-page rows es e h)) ∙ fill-named (placements_of (own_rows_of rows).frames) c

-- ---- what is free is apart

taken_none : {O : Type 0} (filled : Cell → Option O) (ds : List Cell) (c : Cell) → is_none (first_taken filled ds) ≡ true → list_any (same_cell c) ds ≡ true → filled c ≡ None
unfolding first_taken
taken_none filled [] c none h = absurd (true≢false (sym h))
taken_none filled (d ∷ ds) c none h = elim (option_is (filled d)) [
  | inl o ↦ let taken = rw o.1 at none in cc
  | inr e ↦ elim (or_cases _ _ h) [
    | inl here ↦ ap filled (same_cell-is c d here) ∙ e
    | inr later ↦ taken_none filled ds c (rw e at none) later
  ]
]

unfilled_apart : (xs : List (Name × Placement)) (q : Placement) → ((c : Cell) → has_cell q c ≡ true → fill xs c ≡ None) → All {X = Name × Placement} (λ x. AreApart x.1 q) xs
unfolding fill
unfilled_apart [] q none = All-nil (λ (x : Name × Placement). AreApart x.1 q)
unfilled_apart (x ∷ xs) q none = All-cons (λ (x : Name × Placement). AreApart x.1 q) x xs
    (λ c has clash. let filled : Some x.0 ≡ None = sym (ap (λ b. cond b (Some x.0) (fill xs c)) has) ∙ none c clash in cc)
    (unfilled_apart xs q (λ c has. by_cell c (cases_Bool (has_cell x.1 c)) (none c has)))
  where
    by_cell : (c : Cell) → (has_cell x.1 c ≡ true) ⊎ (has_cell x.1 c ≡ false) → cond (has_cell x.1 c) (Some x.0) (fill xs c) ≡ None → fill xs c ≡ None
    by_cell c (inl has) e = let filled : Some x.0 ≡ None = sym (ap (λ b. cond b (Some x.0) (fill xs c)) has) ∙ e in cc
    by_cell c (inr lacks) e = sym (ap (λ b. cond b (Some x.0) (fill xs c)) lacks) ∙ e

abbrev Alone : Name → Placement → Name × Placement → Type 0
Alone f q x = All {X = Name × Placement} (λ y. AreApart x.1 y.1) ((f, q) ∷ [])

-- a placement whose cells are free stands apart from all
pub apart-free : (xs : List (Name × Placement)) (f : Name) (q : Placement) → Apart xs → is_free xs q ≡ true → Apart (xs ++ (f, q) ∷ [])
unfolding is_free has_cell
apart-free xs f q apart free =
    AllPairs-append (λ x y. AreApart x.1 y.1) xs ((f, q) ∷ []) apart (λ i j d l m. absurd (omega (arith, l, m)))
    (lone xs (unfilled_apart xs q (λ c has. taken_none (fill xs) (cells_of q) c free has)))
  where
    lone : (ys : List (Name × Placement)) → All {X = Name × Placement} (λ x. AreApart x.1 q) ys → All (Alone f q) ys
    lone [] all = All-nil (Alone f q)
    lone (y ∷ ys) all = All-cons (Alone f q) y ys (All-cons (λ (z : Name × Placement). AreApart y.1 z.1) (f, q) [] (All-head (λ (x : Name × Placement). AreApart x.1 q) y ys all) (All-nil (λ (z : Name × Placement). AreApart y.1 z.1))) (lone ys (All-tail (λ (x : Name × Placement). AreApart x.1 q) y ys all))
