-- A `BTreeMap`'s entries beside the table that they stand for.
use Rattle.std.proofs.Common.{◌≡◌, Bor, Bool, true, false, ◌||◌, cond, List, [], ◌∷◌, map, length, Option, Some, None, Result, Ok, Err, OnErr, is_some, option_map, refl, sym, ap, subst, ◌∙◌, Ordering, Less, Equal, Greater}
use Rattle.std.specs.Prelude.{T, ⊤}
use Rattle.std.specs.Option.{option_copied}
use Rattle.std.specs.Ordering.{is_lt, is_eq, eq_by_cmp, match_ordering}
use Rattle.std.specs.FinMap.Entries.{put, find, find-put, is_sorted, is_sorted-put, below_all, by_order}
use Rattle.std.specs.Map.{keys_of, lookup, set_value}
use Rattle.std.specs.BTreeMap.{insert_entry, is_at}
use Rattle.std.specs.BTreeSet.{insert_key}
use Rattle.std.specs.List.{AllByRecursion, list_any}
use Rattle.std.specs.List.Sorted.{IsStrictlySortedBy}
use Rattle.std.proofs.lemmas.List.{length-map}
use Rattle.fr_base.specs.TableRows.{both}
use Rattle.fr_base.specs.Tables.{Order, get, contains, len, insert, from_rows}
use Rattle.fr_base.proofs.TableLaws.{same_rows, same_table, get-insert, rows-from_rows, get-from_rows}
use Rattle.fr_world.specs.Maps.{table_of, set_of}

module _ {J K U V : Type 0} (cmp : J → J → Ordering) (o : Order K) (key : J → K) (value : U → V) (alike : (x y : J) → cmp x y ≡ o.compare (key x) (key y)) where
  -- the rows of some entries
  abbrev pub rows : List (J × U) → List (K × V)
  rows es = map (λ e. (key e.0, value e.1)) es

  below : (x : J) (es : List (J × U)) → AllByRecursion (λ y. cmp x y ≡ Less) (keys_of es) → T (below_all o.compare (key x) (rows es))
  below x [] h = tt
  below x (e ∷ es) h = both _ _ (subst (λ r. T (is_lt r)) (sym h.0 ∙ alike x e.0) tt) (below x es h.1)

  -- keys that rise give rows in order
  pub sorted : (es : List (J × U)) → IsStrictlySortedBy cmp (keys_of es) → T (is_sorted o.compare (rows es))
  unfolding IsStrictlySortedBy
  sorted [] h = tt
  sorted (e ∷ es) h = both _ _ (below e.0 es h.0) (sorted es h.1)

  pub rows-insert_entry : (es : List (J × U)) (k : J) (u : U) → rows (insert_entry cmp es k u) ≡ put o.compare (key k) (value u) (rows es)
  rows-insert_entry [] k u = refl
  rows-insert_entry (e ∷ es) k u =
      subst (λ r. rows (match_ordering (cmp k e.0) ((k, u) ∷ e ∷ es) ((e.0, u) ∷ es) (e ∷ insert_entry cmp es k u))
      ≡ by_order r ((key k, value u) ∷ rows (e ∷ es)) ((key e.0, value u) ∷ rows es) ((key e.0, value e.1) ∷ put o.compare (key k) (value u) (rows es)))
      (alike k e.0)
      (elim (cmp k e.0) as (λ r. rows (match_ordering r ((k, u) ∷ e ∷ es) ((e.0, u) ∷ es) (e ∷ insert_entry cmp es k u))
      ≡ by_order r ((key k, value u) ∷ rows (e ∷ es)) ((key e.0, value u) ∷ rows es) ((key e.0, value e.1) ∷ put o.compare (key k) (value u) (rows es))) [
        | Less ↦ refl
        | Equal ↦ refl
        | Greater ↦ ap (λ rest. (key e.0, value e.1) ∷ rest) (rows-insert_entry es k u)
      ])

  -- what a look-up finds
  pub find-rows : (es : List (J × U)) (k : J) → find o.compare (key k) (rows es) ≡ option_map value (lookup (is_at (cmp k)) es)
  find-rows [] k = refl
  find-rows (e ∷ es) k =
      subst (λ r. cond (is_eq r) (Some (value e.1)) (find o.compare (key k) (rows es)) ≡ option_map value (lookup (is_at (cmp k)) (e ∷ es)))
      (alike k e.0)
      (elim (is_eq (cmp k e.0)) as (λ b. cond b (Some (value e.1)) (find o.compare (key k) (rows es)) ≡ option_map value (cond b (Some e.1) (lookup (is_at (cmp k)) es))) [
        | true ↦ refl
        | false ↦ find-rows es k
      ])

  pub get-table_of : (es : List (J × U)) (k : J) → get (table_of o key value es) (key k) ≡ option_map value (lookup (is_at (cmp k)) es)
  unfolding table_of
  get-table_of es k = get-from_rows o (rows es) (key k) ∙ find-rows es k

  pub rows-table_of : (es : List (J × U)) → IsStrictlySortedBy cmp (keys_of es) → (table_of o key value es).rows ≡ rows es
  unfolding table_of
  rows-table_of es h = rows-from_rows o (rows es) (sorted es h)

  -- a key below all of them is not found
  absent_below : (x k : J) (es : List (J × U)) → cmp k x ≡ Less → AllByRecursion (λ y. cmp x y ≡ Less) (keys_of es) → is_some (lookup (is_at (cmp k)) es) ≡ false
  absent_below x k [] l h = refl
  absent_below x k (e ∷ es) l h =
      let here : cmp k e.0 ≡ Less = alike k e.0 ∙ o.total.trans (key k) (key x) (key e.0) (sym (alike k x) ∙ l) (sym (alike x e.0) ∙ h.0) in
      ap (λ r. is_some (cond (is_eq r) (Some e.1) (lookup (is_at (cmp k)) es))) here ∙ absent_below x k es l h.1

  pub rows-set_value : (es : List (J × U)) (k : J) (u : U) → IsStrictlySortedBy cmp (keys_of es) → is_some (lookup (is_at (cmp k)) es) ≡ true → rows (set_value (is_at (cmp k)) es u) ≡ put o.compare (key k) (value u) (rows es)
  unfolding IsStrictlySortedBy
  rows-set_value [] k u h found = cc
  rows-set_value (e ∷ es) k u h found =
      subst (λ r. rows (set_value (is_at (cmp k)) (e ∷ es) u)
      ≡ by_order r ((key k, value u) ∷ rows (e ∷ es)) ((key e.0, value u) ∷ rows es) ((key e.0, value e.1) ∷ put o.compare (key k) (value u) (rows es)))
      (alike k e.0)
      (elim (cmp k e.0) as (λ r. cmp k e.0 ≡ r → is_some (cond (is_eq r) (Some e.1) (lookup (is_at (cmp k)) es)) ≡ true →
      rows (cond (is_eq r) ((e.0, u) ∷ es) (e ∷ set_value (is_at (cmp k)) es u))
      ≡ by_order r ((key k, value u) ∷ rows (e ∷ es)) ((key e.0, value u) ∷ rows es) ((key e.0, value e.1) ∷ put o.compare (key k) (value u) (rows es))) [
        | Less ↦ λ l f. let none = absent_below e.0 k es l h.0 in cc
        | Equal ↦ λ l f. refl
        | Greater ↦ λ l f. ap (λ rest. (key e.0, value e.1) ∷ rest) (rows-set_value es k u h.1 f)
      ] refl found)

  -- a map with one more entry, or another value at a key, as a table
  same_put : (es fs : List (J × U)) (k : J) (u : U) → IsStrictlySortedBy cmp (keys_of es) → rows fs ≡ put o.compare (key k) (value u) (rows es) → table_of o key value fs ≡ insert (table_of o key value es) (key k) (value u)
  unfolding table_of insert
  same_put es fs k u h e =
      same_rows _ _ (rows-from_rows o (rows fs) (subst (λ rs. T (is_sorted o.compare rs)) (sym e) (is_sorted-put o.compare o.total (key k) (value u) (rows es) (sorted es h)))
      ∙ e ∙ ap (put o.compare (key k) (value u)) (sym (rows-from_rows o (rows es) (sorted es h))))

  pub table_of-insert_entry : (es : List (J × U)) (k : J) (u : U) → IsStrictlySortedBy cmp (keys_of es) → table_of o key value (insert_entry cmp es k u) ≡ insert (table_of o key value es) (key k) (value u)
  table_of-insert_entry es k u h = same_put es (insert_entry cmp es k u) k u h (rows-insert_entry es k u)

  pub table_of-set_value : (es : List (J × U)) (k : J) (u : U) → IsStrictlySortedBy cmp (keys_of es) → is_some (lookup (is_at (cmp k)) es) ≡ true → table_of o key value (set_value (is_at (cmp k)) es u) ≡ insert (table_of o key value es) (key k) (value u)
  table_of-set_value es k u h found = same_put es (set_value (is_at (cmp k)) es u) k u h (rows-set_value es k u h found)

  -- after a value was written through what a look-up lent
  pub table_of-lent : (es fs : List (J × U)) (k : J) (u v : U) → IsStrictlySortedBy cmp (keys_of es) → Some v ≡ lookup (is_at (cmp k)) es → fs ≡ set_value (is_at (cmp k)) es u → table_of o key value fs ≡ insert (table_of o key value es) (key k) (value u)
  table_of-lent es fs k u v h found e = ap (table_of o key value) e ∙ table_of-set_value es k u h (ap is_some (sym found))

  pub len-table_of : (es : List (J × U)) → IsStrictlySortedBy cmp (keys_of es) → len (table_of o key value es) ≡ length es
  unfolding len
  len-table_of es h = ap length (rows-table_of es h) ∙ length-map es (λ e. (key e.0, value e.1))

module _ {J K : Type 0} (cmp : J → J → Ordering) (o : Order K) (key : J → K) (alike : (x y : J) → cmp x y ≡ o.compare (key x) (key y)) where
  -- the rows of some keys
  abbrev pub set_rows : List J → List (K × ⊤)
  set_rows ks = map (λ k. (key k, tt)) ks

  below_keys : (x : J) (ks : List J) → AllByRecursion (λ y. cmp x y ≡ Less) ks → T (below_all o.compare (key x) (set_rows ks))
  below_keys x [] h = tt
  below_keys x (k ∷ ks) h = both _ _ (subst (λ r. T (is_lt r)) (sym h.0 ∙ alike x k) tt) (below_keys x ks h.1)

  sorted_keys : (ks : List J) → IsStrictlySortedBy cmp ks → T (is_sorted o.compare (set_rows ks))
  unfolding IsStrictlySortedBy
  sorted_keys [] h = tt
  sorted_keys (k ∷ ks) h = both _ _ (below_keys k ks h.0) (sorted_keys ks h.1)

  set_rows-insert_key : (ks : List J) (k : J) → set_rows (insert_key cmp ks k) ≡ put o.compare (key k) tt (set_rows ks)
  set_rows-insert_key [] k = refl
  set_rows-insert_key (x ∷ xs) k =
      subst (λ r. set_rows (insert_key cmp (x ∷ xs) k)
      ≡ by_order r ((key k, tt) ∷ set_rows (x ∷ xs)) ((key x, tt) ∷ set_rows xs) ((key x, tt) ∷ put o.compare (key k) tt (set_rows xs)))
      (alike k x)
      (elim (cmp k x) as (λ r. set_rows (match_ordering r (k ∷ x ∷ xs) (x ∷ xs) (x ∷ insert_key cmp xs k))
      ≡ by_order r ((key k, tt) ∷ set_rows (x ∷ xs)) ((key x, tt) ∷ set_rows xs) ((key x, tt) ∷ put o.compare (key k) tt (set_rows xs))) [
        | Less ↦ refl
        | Equal ↦ refl
        | Greater ↦ ap (λ rest. (key x, tt) ∷ rest) (set_rows-insert_key xs k)
      ])

  find-set_rows : (ks : List J) (k : J) → is_some (find o.compare (key k) (set_rows ks)) ≡ list_any (is_at (cmp k)) ks
  find-set_rows [] k = refl
  find-set_rows (x ∷ xs) k =
      subst (λ r. is_some (cond (is_eq r) (Some tt) (find o.compare (key k) (set_rows xs))) ≡ list_any (is_at (cmp k)) (x ∷ xs))
      (alike k x)
      (elim (is_eq (cmp k x)) as (λ b. is_some (cond b (Some tt) (find o.compare (key k) (set_rows xs))) ≡ (b || list_any (is_at (cmp k)) xs)) [
        | true ↦ refl
        | false ↦ find-set_rows xs k
      ])

  pub contains-set_of : (ks : List J) (k : J) → contains (set_of o key ks) (key k) ≡ list_any (is_at (cmp k)) ks
  unfolding set_of
  contains-set_of ks k = ap is_some (get-from_rows o (set_rows ks) (key k)) ∙ find-set_rows ks k

  pub rows-set_of : (ks : List J) → IsStrictlySortedBy cmp ks → (set_of o key ks).rows ≡ set_rows ks
  unfolding set_of
  rows-set_of ks h = rows-from_rows o (set_rows ks) (sorted_keys ks h)

  pub set_of-insert_key : (ks : List J) (k : J) → set_of o key (insert_key cmp ks k) ≡ insert (set_of o key ks) (key k) tt
  unfolding set_of
  set_of-insert_key ks k =
      same_table _ _ (λ q. get-from_rows o (set_rows (insert_key cmp ks k)) q ∙ ap (find o.compare q) (set_rows-insert_key ks k) ∙ find-put o.compare o.total q (key k) tt (set_rows ks)
      ∙ sym (get-insert (from_rows (set_rows ks)) (key k) tt q ∙ ap (cond (eq_by_cmp o.compare q (key k)) (Some tt)) (get-from_rows o (set_rows ks) q)))

  pub len-set_of : (ks : List J) → IsStrictlySortedBy cmp ks → len (set_of o key ks) ≡ length ks
  unfolding len
  len-set_of ks h = ap length (rows-set_of ks h) ∙ length-map ks (λ k. (key k, tt))

-- a function leaves a value there
pub is_some-map : {X Y : Type 0} (f : X → Y) (r : Option X) → is_some (option_map f r) ≡ is_some r
is_some-map f None = refl
is_some-map f (Some x) = refl

-- what a reference in an option points to, under a function
pub copied_map : {X Y : Type 0} (f : X → Y) (r : Option (Bor X)) → option_map (λ b. f b.now) r ≡ option_map f (option_copied r)
copied_map f None = refl
copied_map f (Some b) = refl

-- what holds, holds where a call failed
pub on_err_holds : {A E : Type 0} (r : Result A E) (P : Type 0) → P → OnErr r P
on_err_holds (Ok x) P h = tt
on_err_holds (Err e) P h = h
