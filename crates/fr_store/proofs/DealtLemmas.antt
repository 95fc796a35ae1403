-- The rows of one frame, among rows that stand by their frames' names.
use Rattle.std.proofs.Common.{◌≡◌, ℕ, suc, zero, ◌+◌, ◌<◌, ◌≤◌, Bool, true, false, ◌&&◌, cond, List, [], ◌∷◌, ◌++◌, map, filter, take, drop, length, get_or, All, Ordering, Less, Equal, Greater, refl, sym, ap, ap₂, ◌∙◌, subst, arith, bytes_eq, true≢false, IsPermutation, IsSorted}
use Rattle.std.specs.Ordering.{is_le, is_lt, on, then_cmp, ordering_then, ordering_index}
use Rattle.std.specs.Cmp.{IsTotalOrder, tied_itself}
use Rattle.std.specs.Cmp.Lexicographic.{nat_list_cmp_total}
use Rattle.std.specs.FinMap.{nat_cmp-IsAntisymmetric, slice_cmp-IsAntisymmetric}
use Rattle.std.specs.List.{AllByRecursion}
use Rattle.std.specs.List.Sorted.{IsNonDecreasingBy, IsPartitionedBy, IsPartitionPoint}
use Rattle.std.proofs.lemmas.Cmp.{then_total, on_total, int_cmp_total}
use Rattle.std.proofs.lemmas.List.{append-nil, get_or-map, length-map, take-append-drop}
use Rattle.std.proofs.lemmas.List.Elements.{filter-append, All-from_recursion}
use Rattle.std.proofs.lemmas.List.Kept.{IsSortedBy-filter}
use Rattle.std.proofs.lemmas.List.Sorted.{ranks_by, searchable_from_sorted, IsNonDecreasingBy-drop, IsNonDecreasingBy-take}
use Rattle.std.proofs.lemmas.Slice.Eq.{bytes_eq-Decides}
use Rattle.sqlite.specs.Order.{Row}
use Rattle.sqlite_keyed.proofs.ListLemmas.{filter-map, filter_all, filter_same, IsPermutation-filter}
use Rattle.sqlite_trees.proofs.ListLemmas.{filter_none}
use Rattle.sqlite_tied.proofs.RuleLemmas.{and_assoc}
use Rattle.fr_base.specs.declared.name.Name.{Name}
use Rattle.fr_base.proofs.SoundRows.{same_text-is}
use Rattle.fr_tables.specs.Changes.{AreListed}
use Rattle.fr_tables.specs.Rows.{PlacementRow, SignalRow, key_of}
use Rattle.fr_tables.specs.Statements.{text_cmp, shows_placement, is_placed_by, is_placement_of, placements_cmp, shows_signal, is_signalled_by, is_signal_of, signals_cmp}
use Rattle.fr_store.specs.Reading.{name_shown}

-- ---- the two parts of a list

module _ {X : Type 0} (P : X → Type 0) where
  all_taken : (xs : List X) (n : ℕ) → n ≤ length xs → ((k : ℕ) (d : X) → 0 ≤ k → k < n → P (get_or xs k d)) → AllByRecursion P (take n xs)
  all_taken [] zero low h = tt
  all_taken [] (suc n) low h = tt
  all_taken (x ∷ xs) zero low h = tt
  all_taken (x ∷ xs) (suc n) low h = (h 0 x (omega arith) (omega arith), all_taken xs n (omega arith) (λ k d up below. h (suc k) d (omega arith) (omega arith)))

  all_dropped : (xs : List X) (n : ℕ) → ((k : ℕ) (d : X) → n ≤ k → k < length xs → P (get_or xs k d)) → AllByRecursion P (drop n xs)
  all_dropped [] zero h = tt
  all_dropped [] (suc n) h = tt
  all_dropped (x ∷ xs) zero h = (h 0 x (omega arith) (omega arith), all_dropped xs zero (λ k d up below. h (suc k) d (omega arith) (omega arith)))
  all_dropped (x ∷ xs) (suc n) h = all_dropped xs n (λ k d up below. h (suc k) d (omega arith) (omega arith))

-- ---- the rows of one frame

tied : (o : Ordering) → is_lt o ≡ false → is_le o ≡ true → o ≡ Equal
tied Less h k = absurd cc
tied Equal h k = refl
tied Greater h k = absurd cc

less_below : (a b : Ordering) → ordering_index a ≤ ordering_index b → is_lt b ≡ true → is_lt a ≡ true
less_below Less b up h = refl
less_below Equal Less up h = absurd (omega arith)
less_below Equal Equal up h = absurd cc
less_below Equal Greater up h = absurd cc
less_below Greater Less up h = absurd (omega arith)
less_below Greater Equal up h = absurd cc
less_below Greater Greater up h = absurd cc

at_most_below : (a b : Ordering) → ordering_index a ≤ ordering_index b → is_le b ≡ true → is_le a ≡ true
at_most_below Less b up h = refl
at_most_below Equal b up h = refl
at_most_below Greater Less up h = absurd (omega arith)
at_most_below Greater Equal up h = absurd (omega arith)
at_most_below Greater Greater up h = absurd cc

module _ (f : Name) where
  abbrev pub stands : Row → Ordering
  stands r = text_cmp (name_shown r) f

  abbrev pub is_its : Row → Bool
  is_its r = bytes_eq (name_shown r) f

  same_name : (r : Row) → is_its r ≡ true → stands r ≡ Equal
  same_name r is = ap (λ m. text_cmp m f) (same_text-is (name_shown r) f is) ∙ tied_itself nat_list_cmp_total f

  before_not : (r : Row) → is_lt (stands r) ≡ true → is_its r ≡ false
  before_not r h = by_test (is_its r) refl
    where
      by_test : (b : Bool) → is_its r ≡ b → b ≡ false
      by_test false is = refl
      by_test true is = absurd (true≢false (sym h ∙ ap is_lt (same_name r is)))

  after_not : (r : Row) → is_le (stands r) ≡ false → is_its r ≡ false
  after_not r h = by_test (is_its r) refl
    where
      by_test : (b : Bool) → is_its r ≡ b → b ≡ false
      by_test false is = refl
      by_test true is = absurd (true≢false (sym (ap is_le (same_name r is)) ∙ h))

  between : (r : Row) → is_lt (stands r) ≡ false → is_le (stands r) ≡ true → is_its r ≡ true
  between r h k = (bytes_eq-Decides (name_shown r) f).1 (slice_cmp-IsAntisymmetric nat_cmp-IsAntisymmetric (name_shown r) f (tied (stands r) h k))

  module _ (rows : List Row) (sorted : IsSorted (on name_shown text_cmp) rows) where
    rise : IsNonDecreasingBy (λ r. ordering_index (stands r)) rows
    rise = searchable_from_sorted nat_list_cmp_total name_shown rows f sorted

    -- those before the frame's stand first
    pub lesser_first : IsPartitionedBy (λ r. is_lt (stands r)) rows
    lesser_first i j d up low h = less_below (stands (get_or rows i d)) (stands (get_or rows j d)) (rise i j d up low) h

    -- and of a part of the rows those after it last
    pub greater_last : (from to : ℕ) → IsPartitionedBy (λ r. is_le (stands r)) (take to (drop from rows))
    greater_last from to i j d up low h =
        at_most_below (stands (get_or (take to (drop from rows)) i d)) (stands (get_or (take to (drop from rows)) j d))
        (IsNonDecreasingBy-take (λ r. ordering_index (stands r)) to (drop from rows) (IsNonDecreasingBy-drop (λ r. ordering_index (stands r)) from rows rise) i j d up low) h

  -- up to this point the rows stand before the frame's
  abbrev pub IsFirst : List Row → ℕ → Type 0
  IsFirst = IsPartitionPoint (λ r. is_lt (stands r) ≡ true) (λ r. is_lt (stands r) ≡ false)

  -- from this point on they stand after
  abbrev pub IsEnd : List Row → ℕ → Type 0
  IsEnd = IsPartitionPoint (λ r. is_le (stands r) ≡ true) (λ r. is_le (stands r) ≡ false)

  parts : (rows : List Row) (n : ℕ) → filter is_its rows ≡ filter is_its (take n rows) ++ filter is_its (drop n rows)
  parts rows n = ap (filter is_its) (sym (take-append-drop n rows)) ∙ filter-append is_its (take n rows) (drop n rows)

  module _ (rows : List Row) (from : ℕ) (low : from ≤ length rows) (first : IsFirst rows from) where
    none_before : filter is_its (take from rows) ≡ []
    none_before =
        filter_none is_its _ (all_taken (λ r. is_its r ≡ false) rows from low (λ k d up below. before_not (get_or rows k d) (first.0 k d up below)))

    no_lesser : All (λ r. is_lt (stands r) ≡ false) (drop from rows)
    no_lesser = All-from_recursion _ (drop from rows) (all_dropped (λ r. is_lt (stands r) ≡ false) rows from first.1)

    module _ (to : ℕ) (short : to ≤ length (drop from rows)) (end : IsEnd (drop from rows) to) where
      all_between : filter is_its (take to (drop from rows)) ≡ take to (drop from rows)
      all_between =
          filter_all is_its _ (all_taken (λ r. is_its r ≡ true) (drop from rows) to short
          (λ k d up below. between (get_or (drop from rows) k d) (no_lesser k d (omega (arith, below, short))) (end.0 k d up below)))

      none_after : filter is_its (drop to (drop from rows)) ≡ []
      none_after =
          filter_none is_its _ (all_dropped (λ r. is_its r ≡ false) (drop from rows) to (λ k d up below. after_not (get_or (drop from rows) k d) (end.1 k d up below)))

      -- between the two points stand the frame's rows
      pub between_points : take to (drop from rows) ≡ filter is_its rows
      between_points =
          sym (parts rows from ∙ ap₂ ◌++◌ none_before (parts (drop from rows) to ∙ ap₂ ◌++◌ all_between none_after) ∙ append-nil (take to (drop from rows)))

-- ---- rows by their frames' names

not_less : (a b : Ordering) → is_lt (ordering_then a b) ≡ false → is_lt a ≡ false
not_less Less b h = h
not_less Equal b h = refl
not_less Greater b h = refl

twice : {X : Type 0} (p q r : X → Bool) → ((x : X) → (p x && q x) ≡ r x) → (xs : List X) → filter q (filter p xs) ≡ filter r xs
twice p q r both [] = refl
twice p q r both (x ∷ xs) = by_test (p x) refl (both x) (twice p q r both xs)
  where
    by_test : (b : Bool) → p x ≡ b → (p x && q x) ≡ r x → filter q (filter p xs) ≡ filter r xs
        → filter q (cond b (x ∷ filter p xs) (filter p xs)) ≡ cond (r x) (x ∷ filter r xs) (filter r xs)
    by_test true is also more = λ i. cond ((ap (λ b. b && q x) (sym is) ∙ also) i) (x ∷ more i) (more i)
    by_test false is also more = λ i. cond ((ap (λ b. b && q x) (sym is) ∙ also) i) (x ∷ filter r xs) (more i)

module _ {X : Type 0} (shows : X → Row) (name_in : X → Name) (named : (x : X) → name_shown (shows x) ≡ name_in x) (rest : X → X → Ordering) where
  abbrev cmp : X → X → Ordering
  cmp = then_cmp (on name_in text_cmp) rest

  names_rise : (xs : List X) → IsSorted cmp xs → IsSorted (on name_shown text_cmp) (map shows xs)
  names_rise [] up k d low short = absurd (omega arith)
  names_rise (x ∷ xs) up k d low short =
      let here : k + 1 < length (x ∷ xs) = omega (arith, short, length-map (x ∷ xs) shows) in
      let at = λ (i : ℕ) (below : i < length (x ∷ xs)). ap name_shown (get_or-map shows (x ∷ xs) i x d below) ∙ named (get_or (x ∷ xs) i x) in
      ap₂ (λ m n. is_lt (text_cmp m n)) (at (k + 1) here) (at k (omega (arith, here)))
      ∙ not_less (text_cmp (name_in (get_or (x ∷ xs) (k + 1) x)) (name_in (get_or (x ∷ xs) k x)))
      (rest (get_or (x ∷ xs) (k + 1) x) (get_or (x ∷ xs) k x)) (up k x low here)

  module _ (passes : X → Bool) (all : List X) (rows : List Row) (h : AreListed shows passes cmp all rows) where
    -- the rows of a query that shows each frame's together stand so
    by_name : IsSorted (on name_shown text_cmp) rows
    by_name = subst (IsSorted (on name_shown text_cmp)) (sym h.shown) (names_rise h.found h.sorted)

    module _ (total : IsTotalOrder cmp) (f : Name) (one : X → Bool) (both : (x : X) → (passes x && bytes_eq (name_in x) f) ≡ one x) where
      abbrev is_in : X → Bool
      is_in x = bytes_eq (name_in x) f

      -- and those of one frame are the rows of a query of that frame
      of_one : AreListed shows one cmp all (filter (is_its f) rows)
      of_one = record {
        found = filter is_in h.found;
        same = subst (λ xs. IsPermutation xs (filter is_in h.found)) (twice passes is_in one both all) (IsPermutation-filter is_in _ _ h.same);
        sorted = IsSortedBy-filter _ (ranks_by total (λ x. x)) is_in h.found h.sorted;
        shown = ap (filter (is_its f)) h.shown ∙ filter-map (is_its f) shows h.found
            ∙ ap (map shows) (filter_same (λ x. is_its f (shows x)) is_in (λ x. ap (λ m. bytes_eq m f) (named x)) h.found);
      }

      dealt : (whole its : List Row) → whole ≡ rows → (IsSorted (on name_shown text_cmp) whole → its ≡ filter (is_its f) whole) → AreListed shows one cmp all its
      dealt whole its is deal = subst (AreListed shows one cmp all) (sym (deal (subst (IsSorted (on name_shown text_cmp)) (sym is) by_name) ∙ ap (filter (is_its f)) is)) of_one

-- ---- placements and signals

module _ (v s f : Name) (rows whole its : List Row) (is : whole ≡ rows) (deal : IsSorted (on name_shown text_cmp) whole → its ≡ filter (is_its f) whole) where
  placements_total : IsTotalOrder placements_cmp
  placements_total =
      then_total (on_total (λ p. p.frame) nat_list_cmp_total) (then_total (on_total (λ p. p.slot) int_cmp_total) (then_total (on_total (λ p. p.channels) nat_list_cmp_total)
      (then_total (on_total (λ p. p.base) int_cmp_total) (on_total (λ p. p.repetition) int_cmp_total))))

  pub placements_dealt : (all : List PlacementRow) → AreListed shows_placement (is_placed_by v s) placements_cmp all rows
      → AreListed shows_placement (is_placement_of (key_of v s f)) placements_cmp all its
  placements_dealt all h =
      dealt shows_placement (λ p. p.frame) (λ p. refl) _ (is_placed_by v s) all rows h placements_total f (is_placement_of (key_of v s f))
      (λ p. and_assoc (bytes_eq p.variant v) (bytes_eq p.supplier s) (bytes_eq p.frame f)) whole its is deal

  signals_total : IsTotalOrder signals_cmp
  signals_total = then_total (on_total (λ x. x.frame) nat_list_cmp_total) (on_total (λ x. x.name) nat_list_cmp_total)

  pub signals_dealt : (all : List SignalRow) → AreListed shows_signal (is_signalled_by v s) signals_cmp all rows
      → AreListed shows_signal (is_signal_of (key_of v s f)) signals_cmp all its
  signals_dealt all h =
      dealt shows_signal (λ x. x.frame) (λ x. refl) _ (is_signalled_by v s) all rows h signals_total f (is_signal_of (key_of v s f))
      (λ x. and_assoc (bytes_eq x.variant v) (bytes_eq x.supplier s) (bytes_eq x.frame f)) whole its is deal
