-- What is left of a `BTreeMap`'s entries and a `BTreeSet`'s keys after one was removed, as tables.
use Rattle.std.proofs.Common.{◌≡◌, Bool, true, false, not, cond, List, [], ◌∷◌, map, filter, Option, Some, None, refl, sym, ap, subst, ◌∙◌, inl, inr, Ordering, Less, Equal}
use Rattle.std.specs.Prelude.{T, ⊤}
use Rattle.std.specs.Ordering.{is_eq, eq_by_cmp}
use Rattle.std.specs.FinMap.Entries.{is_sorted}
use Rattle.std.specs.Map.{keys_of, remove_entry}
use Rattle.std.specs.Set.{remove_key}
use Rattle.std.specs.BTreeMap.{is_at}
use Rattle.std.specs.List.{AllByRecursion}
use Rattle.std.specs.List.Sorted.{IsStrictlySortedBy}
use Rattle.std.proofs.lemmas.Bool.{cases_Bool}
use Rattle.fr_base.specs.TableRows.{is_sorted-filter}
use Rattle.fr_base.specs.Tables.{Order, Table, from_rows, get, only, remove}
use Rattle.fr_base.proofs.TableLaws.{equal, get-only, kept, same_rows, same_table, rows-from_rows}
use Rattle.fr_world.specs.Maps.{table_of, set_of}
use Rattle.fr_world.proofs.MapLaws.{rows, sorted, set_rows}

module _ {J K : Type 0} (cmp : J → J → Ordering) (o : Order K) (key : J → K) (alike : (x y : J) → cmp x y ≡ o.compare (key x) (key y)) where
  -- whether a row's key is another
  abbrev other : {V : Type 0} → J → K × V → Bool
  other k row = not (eq_by_cmp o.compare (key k) row.0)

  -- a key that ties with one below y is below y
  tied_below : (k x y : J) → cmp k x ≡ Equal → cmp x y ≡ Less → o.compare (key k) (key y) ≡ Less
  tied_below k x y tie less = o.total.congr (key k) (key x) (key y) (sym (alike k x) ∙ tie) ∙ sym (alike x y) ∙ less

  module _ {U V : Type 0} (value : U → V) where
    -- no key above one that ties with k is k's
    all_other : (k x : J) (es : List (J × U)) → cmp k x ≡ Equal → AllByRecursion (λ y. cmp x y ≡ Less) (keys_of es) → filter (other k) (rows cmp o key value alike es) ≡ rows cmp o key value alike es
    all_other k x [] tie h = refl
    all_other k x (e ∷ es) tie h =
        let row : K × V = (key e.0, value e.1) in
        let rest = rows cmp o key value alike es in
        ap (λ r. cond (not (is_eq r)) (row ∷ filter (other k) rest) (filter (other k) rest)) (tied_below k x e.0 tie h.0)
        ∙ ap (λ kept. row ∷ kept) (all_other k x es tie h.1)

    rows-remove_entry : (es : List (J × U)) (k : J) → IsStrictlySortedBy cmp (keys_of es) → filter (other k) (rows cmp o key value alike es) ≡ rows cmp o key value alike (remove_entry (is_at (cmp k)) es)
    unfolding IsStrictlySortedBy
    rows-remove_entry [] k h = refl
    rows-remove_entry (e ∷ es) k h =
        let row : K × V = (key e.0, value e.1) in
        let rest = rows cmp o key value alike es in
        subst (λ r. cond (not (is_eq r)) (row ∷ filter (other k) rest) (filter (other k) rest) ≡ rows cmp o key value alike (remove_entry (is_at (cmp k)) (e ∷ es)))
        (alike k e.0)
        (elim (is_eq (cmp k e.0)) as (λ b. is_eq (cmp k e.0) ≡ b → cond (not b) (row ∷ filter (other k) rest) (filter (other k) rest) ≡ rows cmp o key value alike (cond b es (e ∷ remove_entry (is_at (cmp k)) es))) [
          | true ↦ λ t. all_other k e.0 es (equal (cmp k e.0) t) h.0
          | false ↦ λ t. ap (λ kept. row ∷ kept) (rows-remove_entry es k h.1)
        ] refl)

    pub table_of-remove_entry : (es : List (J × U)) (k : J) → IsStrictlySortedBy cmp (keys_of es) → table_of o key value (remove_entry (is_at (cmp k)) es) ≡ remove (table_of o key value es) (key k)
    unfolding table_of remove only
    table_of-remove_entry es k h =
        let left = rows-remove_entry es k h in
        let in_order : T (is_sorted o.compare (rows cmp o key value alike (remove_entry (is_at (cmp k)) es))) =
        subst (λ rs. T (is_sorted o.compare rs)) left (is_sorted-filter o.compare (other k) (rows cmp o key value alike es) (sorted cmp o key value alike es h)) in
        same_rows _ _ (rows-from_rows o _ in_order ∙ sym left ∙ ap (filter (other k)) (sym (rows-from_rows o _ (sorted cmp o key value alike es h))))

module _ {J K : Type 0} (cmp : J → J → Ordering) (o : Order K) (key : J → K) (alike : (x y : J) → cmp x y ≡ o.compare (key x) (key y)) where
  -- the keys of a set, as the entries of a map
  abbrev units : List J → List (J × ⊤)
  units ks = map (λ k. (k, tt)) ks

  abbrev unit : ⊤ → ⊤
  unit _ = tt

  rows-units : (ks : List J) → rows cmp o key unit alike (units ks) ≡ set_rows cmp o key alike ks
  rows-units [] = refl
  rows-units (k ∷ ks) = ap (λ rest. (key k, tt) ∷ rest) (rows-units ks)

  table_of-units : (ks : List J) → table_of o key unit (units ks) ≡ set_of o key ks
  unfolding table_of set_of
  table_of-units ks = ap from_rows (rows-units ks)

  keys-units : (ks : List J) → keys_of (units ks) ≡ ks
  keys-units [] = refl
  keys-units (k ∷ ks) = ap (λ rest. k ∷ rest) (keys-units ks)

  units-remove : (test : J → Bool) (ks : List J) → units (remove_key test ks) ≡ remove_entry test (units ks)
  units-remove test [] = refl
  units-remove test (k ∷ ks) =
      elim (test k) as (λ b. units (cond b ks (k ∷ remove_key test ks)) ≡ cond b (units ks) ((k, tt) ∷ remove_entry test (units ks))) [
        | true ↦ refl
        | false ↦ ap (λ rest. (k, tt) ∷ rest) (units-remove test ks)
      ]

  pub set_of-remove_key : (ks : List J) (k : J) → IsStrictlySortedBy cmp ks → set_of o key (remove_key (is_at (cmp k)) ks) ≡ remove (set_of o key ks) (key k)
  set_of-remove_key ks k h =
      sym (table_of-units (remove_key (is_at (cmp k)) ks))
      ∙ ap (table_of o key unit) (units-remove (is_at (cmp k)) ks)
      ∙ table_of-remove_entry cmp o key alike unit (units ks) k (subst (IsStrictlySortedBy cmp) (sym (keys-units ks)) h)
      ∙ ap (λ t. remove t (key k)) (table_of-units ks)

-- where nothing stands nothing is removed
pub remove-none : {K V : Type 0} (o : Order K) (t : Table o V) (k : K) → get t k ≡ None → remove t k ≡ t
unfolding remove
remove-none {K = K} {V = V} o t k none = same_table _ _ (λ q. get-only o kept_row t q ∙ still q)
  where
    kept_row : K → V → Bool
    kept_row j _ = not (eq_by_cmp o.compare k j)

    other_key : (q : K) (x : Option V) → eq_by_cmp o.compare k q ≡ false → kept kept_row q x ≡ x
    other_key q None e = refl
    other_key q (Some v) e = ap (λ b. cond (not b) (Some v) None) e

    still : (q : K) → kept kept_row q (get t q) ≡ get t q
    still q = elim (cases_Bool (eq_by_cmp o.compare k q)) [
      | inl e ↦ let absent : get t q ≡ None = ap (get t) (sym (o.exact k q (equal _ e))) ∙ none in ap (kept kept_row q) absent ∙ sym absent
      | inr e ↦ other_key q (get t q) e
    ]
