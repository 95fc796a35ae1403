-- A query in the order of keys, no two of which are the same, has one answer.
use Rattle.std.proofs.Common.{◌≡◌, Bool, true, false, cond, List, [], ◌∷◌, map, filter, Ordering, Less, Equal, Greater, refl, ap, ◌∙◌, IsPermutation, is_lt}
use Rattle.std.specs.Prelude.{T}
use Rattle.std.specs.List.{AllByRecursion}
use Rattle.std.specs.Cmp.{IsTotalOrder}
use Rattle.std.specs.FinMap.Entries.{is_sorted, below_all}
use Rattle.std.proofs.lemmas.List.Sorted.{IsPermutation-trans}
use Rattle.sqlite.specs.Order.{Row}
use Rattle.sqlite_trees.specs.Tree.{IsAscending}
use Rattle.sqlite_keyed.proofs.ListLemmas.{IsPermutation-filter}
use Rattle.sqlite_keyed.proofs.SortLemmas.{sorted_unique}
use Rattle.fr_base.specs.TableRows.{first, second}
use Rattle.fr_base.specs.Tables.{Order, Table}
use Rattle.fr_tables.specs.Changes.{AreListed}

less : (r : Ordering) → T (is_lt r) → r ≡ Less
less Less h = refl
less Equal h = absurd h
less Greater h = absurd h

module _ {K V : Type 0} (o : Order K) where
  -- the one entry's key is before the other's
  abbrev pub IsBefore : K × V → K × V → Type 0
  IsBefore e f = o.compare e.0 f.0 ≡ Less

  before_all : (k : K) (es : List (K × V)) → T (below_all o.compare k es) → AllByRecursion (λ f. o.compare k f.0 ≡ Less) es
  before_all k [] h = tt
  before_all k (e ∷ es) h = (less _ (first _ _ h), before_all k es (second _ _ h))

  rows_rise : (es : List (K × V)) → T (is_sorted o.compare es) → IsAscending IsBefore es
  rows_rise [] h = tt
  rows_rise (e ∷ es) h = (before_all e.0 es (first _ _ h), rows_rise es (second _ _ h))

  -- a table's rows rise by their keys
  pub rises : (t : Table o V) → IsAscending IsBefore t.rows
  rises t = rows_rise t.rows t.sorted

module _ {X : Type 0} (p : X → Bool) (R S : X → X → Type 0) (kept : (x y : X) → p x ≡ true → p y ≡ true → R x y → S x y) where
  all_kept : (x : X) (ys : List X) → p x ≡ true → AllByRecursion (R x) ys → AllByRecursion (S x) (filter p ys)
  all_kept x [] here h = tt
  all_kept x (y ∷ ys) here h = by_test (p y) refl (all_kept x ys here h.1)
    where
      by_test : (b : Bool) → p y ≡ b → AllByRecursion (S x) (filter p ys) → AllByRecursion (S x) (cond b (y ∷ filter p ys) (filter p ys))
      by_test true e more = (kept x y here e h.0, more)
      by_test false e more = more

  -- what rises, rises among those that pass
  pub rises_among : (xs : List X) → IsAscending R xs → IsAscending S (filter p xs)
  rises_among [] up = tt
  rises_among (x ∷ xs) up = by_test (p x) refl (rises_among xs up.1)
    where
      by_test : (b : Bool) → p x ≡ b → IsAscending S (filter p xs) → IsAscending S (cond b (x ∷ filter p xs) (filter p xs))
      by_test true e more = (all_kept x xs e up.0, more)
      by_test false e more = more

module _ {X : Type 0} (shows : X → Row) (passes : X → Bool) (cmp : X → X → Ordering) (total : IsTotalOrder cmp) where
  -- where those that pass rise in the query's order, these are its rows
  pub are_listed : (xs all : List X) (rows : List Row) → IsPermutation xs all → IsAscending (λ x y. cmp x y ≡ Less) (filter passes xs) → AreListed shows passes cmp all rows
      → rows ≡ map shows (filter passes xs)
  are_listed xs all rows same rising h =
      let found : h.found ≡ filter passes xs = sorted_unique cmp total (filter passes xs) h.found rising (IsPermutation-trans _ _ _ (IsPermutation-filter passes _ _ same) h.same) h.sorted in
      h.shown ∙ ap (map shows) found
