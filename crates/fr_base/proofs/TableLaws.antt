-- What stands in a table after it was made, changed or filtered.
use Rattle.std.proofs.Common.{◌≡◌, Bool, true, false, cond, List, [], ◌∷◌, filter, Option, Some, None, refl, sym, ap, ◌∙◌, Ordering, Less, Equal, Greater}
use Rattle.std.specs.Prelude.{T}
use mathlib.Core.HLevel.{Σ_prop_path}
use lib.Dec.{T_prop}
use Rattle.std.specs.Ordering.{is_lt, is_eq, eq_by_cmp}
use Rattle.std.specs.FinMap.Entries.{put, find, find-put, same_entries, is_sorted, below_all, by_order}
use Rattle.fr_base.specs.TableRows.{first, second}
use Rattle.fr_base.specs.Tables.{Order, Table, empty, get, insert, only, from_rows}

less : (r : Ordering) → T (is_lt r) → r ≡ Less
less Less h = refl
less Equal h = absurd h
less Greater h = absurd h

pub equal : (r : Ordering) → is_eq r ≡ true → r ≡ Equal
equal Less h = cc
equal Equal h = refl
equal Greater h = cc

-- a key below all goes to the front
pub put_front : {K V : Type 0} (R : K → K → Ordering) (k : K) (v : V) (es : List (K × V)) → T (below_all R k es) → put R k v es ≡ (k, v) ∷ es
put_front R k v [] h = refl
put_front R k v (e ∷ es) h = ap (λ r. by_order r ((k, v) ∷ e ∷ es) ((e.0, v) ∷ es) (e ∷ put R k v es)) (less (R k e.0) (first _ _ h))

module _ {K V : Type 0} {o : Order K} where
  -- tables with the same rows are the same
  pub same_rows : (s t : Table o V) → s.rows ≡ t.rows → s ≡ t
  same_rows s t e =
      let pairs : ◌≡◌ {A = (es : List (K × V)) × T (is_sorted o.compare es)} (s.rows, s.sorted) (t.rows, t.sorted) = Σ_prop_path (λ es. T_prop _) e in
      λ i. record { rows = (pairs i).0; sorted = (pairs i).1 }

  -- tables that answer every look-up alike are the same
  pub same_table : (s t : Table o V) → ((k : K) → get s k ≡ get t k) → s ≡ t
  unfolding get
  same_table s t alike = same_rows s t (same_entries o.compare o.total o.exact s.rows t.rows s.sorted t.sorted alike)

  pub get-insert : (t : Table o V) (k : K) (v : V) (q : K) → get (insert t k v) q ≡ cond (eq_by_cmp o.compare q k) (Some v) (get t q)
  unfolding get insert
  get-insert t k v q = find-put o.compare o.total q k v t.rows

module _ {K V : Type 0} (o : Order K) where
  pub get-empty : (k : K) → get (empty {V = V} {o = o}) k ≡ None
  unfolding get empty
  get-empty k = refl

  -- the table of rows in order has these rows
  pub rows-from_rows : (es : List (K × V)) → T (is_sorted o.compare es) → (from_rows {o = o} es).rows ≡ es
  unfolding from_rows insert empty
  rows-from_rows [] h = refl
  rows-from_rows (e ∷ es) h =
      ap (put o.compare e.0 e.1) (rows-from_rows es (second _ _ h)) ∙ put_front o.compare e.0 e.1 es (first _ _ h)

  -- a look-up finds the first row of its key
  pub get-from_rows : (es : List (K × V)) (k : K) → get (from_rows {o = o} es) k ≡ find o.compare k es
  unfolding from_rows
  get-from_rows [] k = get-empty k
  get-from_rows (e ∷ es) k = get-insert (from_rows es) e.0 e.1 k ∙ ap (cond (eq_by_cmp o.compare k e.0) (Some e.1)) (get-from_rows es k)

-- a value that passes the test
abbrev pub kept : {K V : Type 0} → (K → V → Bool) → K → Option V → Option V
kept p k None = None
kept p k (Some v) = cond (p k v) (Some v) None

module _ {K V : Type 0} (o : Order K) (p : K → V → Bool) where
  pub none_above : (k j : K) (es : List (K × V)) → o.compare k j ≡ Equal → T (below_all o.compare j es) → find o.compare k es ≡ None
  none_above k j [] tie h = refl
  none_above k j (e ∷ es) tie h =
      let step : o.compare k e.0 ≡ Less = o.total.congr k j e.0 tie ∙ less (o.compare j e.0) (first _ _ h) in
      ap (λ r. cond (is_eq r) (Some e.1) (find o.compare k es)) step ∙ none_above k j es tie (second _ _ h)

  find-filter : (k : K) (es : List (K × V)) → T (is_sorted o.compare es) → find o.compare k (filter (λ e. p e.0 e.1) es) ≡ kept p k (find o.compare k es)
  find-filter k [] h = refl
  find-filter k (e ∷ es) h =
      let rest = find-filter k es (second _ _ h) in
      elim (is_eq (o.compare k e.0)) as (λ t. is_eq (o.compare k e.0) ≡ t → find o.compare k (cond (p e.0 e.1) (e ∷ filter (λ e. p e.0 e.1) es) (filter (λ e. p e.0 e.1) es)) ≡ kept p k (cond t (Some e.1) (find o.compare k es))) [
        | true ↦ λ t.
            let tie : o.compare k e.0 ≡ Equal = equal (o.compare k e.0) t in
            let same : k ≡ e.0 = o.exact k e.0 tie in
            let none = none_above k e.0 es tie (first _ _ h) in
            elim (p e.0 e.1) as (λ b. p e.0 e.1 ≡ b → find o.compare k (cond b (e ∷ filter (λ e. p e.0 e.1) es) (filter (λ e. p e.0 e.1) es)) ≡ cond (p k e.1) (Some e.1) None) [
              | true ↦ λ b. ap (λ r. cond r (Some e.1) (find o.compare k (filter (λ e. p e.0 e.1) es))) t ∙ sym (ap (λ r. cond r (Some e.1) None) (ap (λ j. p j e.1) same ∙ b))
              | false ↦ λ b. rest ∙ ap (kept p k) none ∙ sym (ap (λ r. cond r (Some e.1) None) (ap (λ j. p j e.1) same ∙ b))
            ] refl
        | false ↦ λ t.
            elim (p e.0 e.1) as (λ b. find o.compare k (cond b (e ∷ filter (λ e. p e.0 e.1) es) (filter (λ e. p e.0 e.1) es)) ≡ kept p k (find o.compare k es)) [
              | true ↦ ap (λ r. cond r (Some e.1) (find o.compare k (filter (λ e. p e.0 e.1) es))) t ∙ rest
              | false ↦ rest
            ]
      ] refl

  -- a look-up in the rows that pass a test
  pub get-only : (t : Table o V) (k : K) → get (only p t) k ≡ kept p k (get t k)
  unfolding get only
  get-only t k = find-filter k t.rows t.sorted

module _ {K V : Type 0} {o : Order K} where
  same_if : (t : Table o V) (k : K) (v : V) (q : K) (b : Bool) → eq_by_cmp o.compare q k ≡ b → get t k ≡ Some v → cond b (Some v) (get t q) ≡ get t q
  same_if t k v q true e found = sym found ∙ ap (get t) (sym (o.exact q k (equal (o.compare q k) e)))
  same_if t k v q false e found = refl

  -- what stands at a key already, put there again
  pub insert-same : (t : Table o V) (k : K) (v : V) → get t k ≡ Some v → insert t k v ≡ t
  insert-same t k v found = same_table (insert t k v) t (λ q. get-insert t k v q ∙ same_if t k v q (eq_by_cmp o.compare q k) refl found)
