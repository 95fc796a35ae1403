-- A variant's rows among all rows, and their copies for another variant.
use Rattle.std.proofs.Common.{◌≡◌, ℕ, true, false, Some, List, [], map, filter, flat_map, refl, ap, ◌∙◌, subst, IsPermutation, bytes_eq}
use Rattle.std.specs.List.{AllByRecursion}
use Rattle.std.specs.Ordering.{is_eq}
use Rattle.std.proofs.lemmas.List.Sorted.{IsPermutation-trans, IsPermutation-map}
use Rattle.std.proofs.lemmas.Slice.Eq.{bytes_eq-Decides}
use Rattle.sqlite_keyed.proofs.ListLemmas.{filter_all, filter_none, all_of, all_weaker, all_map, IsPermutation-filter}
use Rattle.fr_base.specs.Tables.{Table, get}
use Rattle.fr_base.specs.Keys.{names}
use Rattle.fr_base.specs.Book.{Variant, Book}
use Rattle.fr_base.specs.declared.name.Name.{Name}
use Rattle.fr_tables.specs.Rows.{GrantRow}
use Rattle.fr_tables.specs.Tables.{Tables}
use Rattle.fr_tables.specs.Statements.{grant_for, grants_for}
use Rattle.fr_store.specs.StandsFor.{HoldsRows, grant_rows}
use Rattle.fr_store.proofs.HolderLemmas.{other_name}
use Rattle.fr_store.proofs.SectionLemmas.{at, only_at}

-- ---- the rows of one variant

module _ {X : Type 0} (variant : X → Name) (rows : Name × Variant → List X) (own : (e : Name × Variant) → AllByRecursion (λ r. variant r ≡ e.0) (rows e)) where
  its_rows : (e : Name × Variant) → filter (λ r. bytes_eq (variant r) e.0) (rows e) ≡ rows e
  its_rows e =
      filter_all (λ r. bytes_eq (variant r) e.0) (rows e) (all_weaker (λ r. variant r ≡ e.0) (λ r. bytes_eq (variant r) e.0 ≡ true) (λ r h. (bytes_eq-Decides (variant r) e.0).1 h) (rows e) (own e))

  no_others : (v : Name) (e : Name × Variant) → is_eq (names.compare v e.0) ≡ false → filter (λ r. bytes_eq (variant r) v) (rows e) ≡ []
  no_others v e apart =
      filter_none (λ r. bytes_eq (variant r) v) (rows e)
      (all_weaker (λ r. variant r ≡ e.0) (λ r. bytes_eq (variant r) v ≡ false) (λ r h. ap (λ w. bytes_eq w v) h ∙ other_name v e.0 apart) (rows e) (own e))

  pub section : (variants : Table names Variant) (v : Name) (x : Variant) → get variants v ≡ Some x → filter (λ r. bytes_eq (variant r) v) (flat_map rows variants.rows) ≡ rows (v, x)
  section variants v x there =
      only_at names rows (λ r. bytes_eq (variant r) v) v (no_others v) variants ∙ ap (at rows (λ r. bytes_eq (variant r) v) v) there ∙ its_rows (v, x)

  -- copies of them for another variant are those of all that are its
  pub copied : (variants : Table names Variant) (v : Name) (x : Variant) → get variants v ≡ Some x → (into : X → X) (xs ys : List X) → IsPermutation (flat_map rows variants.rows) xs
      → IsPermutation (map into (filter (λ r. bytes_eq (variant r) v) xs)) ys → IsPermutation (map into (rows (v, x))) ys
  copied variants v x there into xs ys all same =
      let found : IsPermutation (filter (λ r. bytes_eq (variant r) v) (flat_map rows variants.rows)) (filter (λ r. bytes_eq (variant r) v) xs) = IsPermutation-filter _ _ _ all in
      let here : IsPermutation (rows (v, x)) (filter (λ r. bytes_eq (variant r) v) xs) = subst (λ rs. IsPermutation rs (filter (λ r. bytes_eq (variant r) v) xs)) (section variants v x there) found in
      IsPermutation-trans _ _ _ (IsPermutation-map into _ _ here) same

-- ---- each table's rows

its_grants : (e : Name × Variant) → AllByRecursion (λ (g : GrantRow). g.variant ≡ e.0) (grant_rows e)
its_grants e = all_map (λ (g : GrantRow). g.variant ≡ e.0) _ e.1.grants.rows (all_of _ (λ g. refl) e.1.grants.rows)

module _ (t : Tables) (count : ℕ) (b : Book) (stands : HoldsRows t count b) (p v : Name) (x : Variant) (there : get b.variants p ≡ Some x) where
  pub grants_copied : (ys : List GrantRow) → IsPermutation (grants_for p v t) ys → IsPermutation (map (grant_for v) (grant_rows (p, x))) ys
  grants_copied ys same = copied (λ (g : GrantRow). g.variant) grant_rows its_grants b.variants p x there (grant_for v) t.grants ys stands.grants same
