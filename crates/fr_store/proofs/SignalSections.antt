-- The rows of a frame's signals, after one is added or dropped, and their order.
use Rattle.std.proofs.Common.{◌≡◌, ℕ, suc, zero, ◌<◌, Bool, true, false, not, cond, ◌&&◌, ◌==◌, nat_lt, Less, Equal, Greater, Some, List, [], ◌∷◌, length, get_or, map, filter, refl, sym, ap, ap₂, ◌∙◌, add-one, arith, bytes_eq, IsPermutation, IsSorted}
use Rattle.std.specs.Prelude.{if◌then◌else◌}
use Rattle.std.specs.Ordering.{is_lt, on, nat_cmp}
use Rattle.std.specs.Cmp.{nat_cmp_total}
use Rattle.std.proofs.lemmas.Bool.{and_parts, and_from, false_from_ne_true, ltb-true}
use Rattle.std.proofs.lemmas.List.Kept.{IsSortedBy-filter}
use Rattle.std.proofs.lemmas.List.Sorted.{IsPermutation-refl, IsPermutation-sym, IsPermutation-trans, IsPermutation-cons, IsPermutation-map, IsPermutation-middle, ranks_by}
use Rattle.sqlite_keyed.proofs.ListLemmas.{filter-map, filter_same}
use Rattle.fr_base.specs.Book.{Frame}
use Rattle.fr_base.specs.Layouts.{with_signal, without_signal}
use Rattle.fr_base.specs.Names.{same_text}
use Rattle.fr_base.specs.Signals.{SignalData}
use Rattle.fr_base.specs.declared.name.Name.{Name}
use Rattle.fr_tables.specs.Rows.{SignalRow, key_of}
use Rattle.fr_tables.specs.Statements.{is_signal, is_signal_of, signal_row}
use Rattle.fr_store.specs.StandsFor.{signal_rows}
use Rattle.fr_store.proofs.FrameSections.{section}
use Rattle.fr_store.proofs.PlacementSections.{own_text}

lesser : (a b : ℕ) → is_lt (nat_cmp a b) ≡ nat_lt a b
lesser a b = by_tests (nat_lt a b) (a == b)
  where
    by_tests : (l e : Bool) → is_lt (cond l Less (cond e Equal Greater)) ≡ l
    by_tests true e = refl
    by_tests false true = refl
    by_tests false false = refl

not_after : (a b : ℕ) → nat_lt a b ≡ true → nat_lt b a ≡ false
not_after a b h = false_from_ne_true _ (λ k. omega (arith, ltb-true a b h, ltb-true b a k))

abbrev Rise : List SignalData → Type 0
Rise xs = IsSorted (on (λ s. s.start) nat_cmp) xs

-- the first of them, if there is one, starts no earlier than this one
abbrev NoneBefore : SignalData → List SignalData → Type 0
NoneBefore s xs = (d : SignalData) → 0 < length xs → nat_lt (get_or xs 0 d).start s.start ≡ false

rise_head : (x : SignalData) (xs : List SignalData) → Rise (x ∷ xs) → NoneBefore x xs
rise_head x xs h d some = sym (lesser (get_or xs 0 d).start x.start) ∙ h 0 d (omega arith) (omega arith)

rise_tail : (x : SignalData) (xs : List SignalData) → Rise (x ∷ xs) → Rise xs
rise_tail x xs h = λ k d low short. rw add-one (rw add-one at (h (suc k) d (omega arith) (omega arith)))

rise_cons : (x : SignalData) (xs : List SignalData) → Rise xs → NoneBefore x xs → Rise (x ∷ xs)
rise_cons x xs h first zero d low short = lesser (get_or xs 0 d).start x.start ∙ first d (omega arith)
rise_cons x xs h first (suc k) d low short = rw add-one (rw add-one at (h k d (omega arith) (omega arith)))

none_before-with : (s t : SignalData) (xs : List SignalData) → nat_lt s.start t.start ≡ false → NoneBefore t xs → NoneBefore t (with_signal s xs)
none_before-with s t [] h first d some = h
none_before-with s t (u ∷ xs) h first d some = by_test (nat_lt s.start u.start)
  where
    by_test : (b : Bool) → nat_lt (get_or (if b then s ∷ u ∷ xs else u ∷ with_signal s xs) 0 d).start t.start ≡ false
    by_test true = h
    by_test false = first d (omega arith)

pub rise-with : (s : SignalData) (xs : List SignalData) → Rise xs → Rise (with_signal s xs)
rise-with s [] h = λ k d low short. absurd (omega arith)
rise-with s (t ∷ xs) h = by_test (nat_lt s.start t.start) refl (rise-with s xs (rise_tail t xs h))
  where
    by_test : (b : Bool) → nat_lt s.start t.start ≡ b → Rise (with_signal s xs) → Rise (if b then s ∷ t ∷ xs else t ∷ with_signal s xs)
    by_test true is more = rise_cons s (t ∷ xs) h (λ d some. not_after s.start t.start is)
    by_test false is more = rise_cons t (with_signal s xs) more (none_before-with s t xs is (rise_head t xs h))

pub rise-without : (name : List ℕ) (xs : List SignalData) → Rise xs → Rise (without_signal name xs)
rise-without name xs h = IsSortedBy-filter _ (ranks_by nat_cmp_total (λ (s : SignalData). s.start)) (λ s. not (same_text s.name name)) xs h

one_signal_more : (s : SignalData) (xs : List SignalData) → IsPermutation (s ∷ xs) (with_signal s xs)
one_signal_more s [] = IsPermutation-refl (s ∷ [])
one_signal_more s (t ∷ xs) = by_test (nat_lt s.start t.start) (one_signal_more s xs)
  where
    by_test : (b : Bool) → IsPermutation (s ∷ xs) (with_signal s xs) → IsPermutation (s ∷ t ∷ xs) (if b then s ∷ t ∷ xs else t ∷ with_signal s xs)
    by_test true more = IsPermutation-refl _
    by_test false more = IsPermutation-trans _ _ _ (IsPermutation-sym _ _ (IsPermutation-middle (t ∷ []) s xs)) (IsPermutation-cons t _ _ more)

module _ (v s f : Name) (frame : Frame) where
  abbrev signal_of : SignalData → SignalRow
  signal_of = signal_row (key_of v s f)

  pub add_section : (signal : SignalData)
      → IsPermutation (signal_of signal ∷ section signal_rows v s f (Some frame)) (section signal_rows v s f (Some (record frame { signals = with_signal signal frame.signals })))
  add_section signal = IsPermutation-map signal_of _ _ (one_signal_more signal frame.signals)

  pub of_signal : (name : List ℕ) (r : SignalRow) → is_signal (key_of v s f) name r ≡ true → is_signal_of (key_of v s f) r ≡ true
  of_signal name r h =
      let one = and_parts (bytes_eq r.variant v) _ h in
      let two = and_parts (bytes_eq r.supplier s) _ one.1 in
      and_from _ _ one.0 (and_from _ _ two.0 (and_parts (bytes_eq r.frame f) _ two.1).0)

  signal_is : (name : List ℕ) (y : SignalData) → is_signal (key_of v s f) name (signal_of y) ≡ same_text y.name name
  signal_is name y = ap₂ ◌&&◌ (own_text v) (ap₂ ◌&&◌ (own_text s) (ap (λ b. b && bytes_eq y.name name) (own_text f)))

  pub drop_section : (name : List ℕ) → filter (λ r. not (is_signal (key_of v s f) name r)) (section signal_rows v s f (Some frame))
      ≡ section signal_rows v s f (Some (record frame { signals = without_signal name frame.signals }))
  drop_section name =
      filter-map (λ r. not (is_signal (key_of v s f) name r)) signal_of frame.signals
      ∙ ap (map signal_of) (filter_same (λ y. not (is_signal (key_of v s f) name (signal_of y))) (λ y. not (same_text y.name name)) (λ y. ap not (signal_is name y)) frame.signals)
