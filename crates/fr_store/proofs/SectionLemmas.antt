-- Lists that are made of a table's rows, and what of them is of one key.
use Rattle.std.proofs.Common.{◌≡◌, Bool, true, false, cond, None, Some, Option, List, [], ◌∷◌, ◌++◌, filter, flat_map, Equal, refl, sym, ap, ap₂, ◌∙◌, append-nil}
use Rattle.std.specs.Prelude.{T}
use Rattle.std.specs.Ordering.{is_eq}
use Rattle.std.specs.FinMap.Entries.{is_sorted, find}
use Rattle.std.proofs.lemmas.List.Elements.{filter-append}
use Rattle.sqlite_keyed.proofs.ListLemmas.{flat_map-one}
use Rattle.fr_base.specs.TableRows.{first, second}
use Rattle.fr_base.specs.Tables.{Order, Table, get}
use Rattle.fr_base.proofs.TableLaws.{equal, none_above}

-- what passes of a key's list, if there is one
abbrev pub at : {K V X : Type 0} → (K × V → List X) → (X → Bool) → K → Option V → List X
at f p k None = []
at f p k (Some v) = filter p (f (k, v))

-- the row of a key, if there is one
abbrev pub row_at : {K V : Type 0} → K → Option V → List (K × V)
row_at k None = []
row_at k (Some v) = (k, v) ∷ []

module _ {K V X : Type 0} (o : Order K) (f : K × V → List X) (p : X → Bool) (k : K)
    (others : (e : K × V) → is_eq (o.compare k e.0) ≡ false → filter p (f e) ≡ []) where
  among : (es : List (K × V)) → T (is_sorted o.compare es) → filter p (flat_map f es) ≡ at f p k (find o.compare k es)
  among [] h = refl
  among (e ∷ es) h = filter-append p (f e) (flat_map f es) ∙ by_test (is_eq (o.compare k e.0)) refl (among es (second _ _ h))
    where
      by_test : (b : Bool) → is_eq (o.compare k e.0) ≡ b → filter p (flat_map f es) ≡ at f p k (find o.compare k es)
          → filter p (f e) ++ filter p (flat_map f es) ≡ at f p k (cond b (Some e.1) (find o.compare k es))
      by_test true is more =
          let tie : o.compare k e.0 ≡ Equal = equal (o.compare k e.0) is in
          let same : k ≡ e.0 = o.exact k e.0 tie in
          let none = none_above o (λ k v. true) k e.0 es tie (first _ _ h) in
          ap₂ ◌++◌ (ap (λ j. filter p (f (j, e.1))) (sym same)) (more ∙ ap (at f p k) none) ∙ append-nil (filter p (f (k, e.1)))
      by_test false is more = ap₂ ◌++◌ (others e is) more

  -- what passes is of the one key
  pub only_at : (t : Table o V) → filter p (flat_map f t.rows) ≡ at f p k (get t k)
  unfolding get
  only_at t = among t.rows t.sorted

module _ {K V : Type 0} (o : Order K) (p : K × V → Bool) (k : K) (others : (e : K × V) → is_eq (o.compare k e.0) ≡ false → p e ≡ false) (itself : (v : V) → p (k, v) ≡ true) where
  at_key : (v : Option V) → at (λ e. e ∷ []) p k v ≡ row_at k v
  at_key None = refl
  at_key (Some v) = ap (λ b. cond b ((k, v) ∷ []) []) (itself v)

  -- what passes is the row of the one key
  pub only_row : (t : Table o V) → filter p t.rows ≡ row_at k (get t k)
  only_row t =
      ap (filter p) (sym (flat_map-one t.rows)) ∙ only_at o (λ e. e ∷ []) p k (λ e h. ap (λ b. cond b (e ∷ []) []) (others e h)) t ∙ at_key (get t k)
