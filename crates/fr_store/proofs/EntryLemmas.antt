-- Lists that are made of a table's rows, where the row of one key changes or is new.
use Rattle.std.proofs.Common.{◌≡◌, Bool, false, not, cond, None, Some, List, [], ◌∷◌, ◌++◌, map, flat_map, filter, refl, sym, ap, ap₂, ◌∙◌, subst, IsPermutation}
use Rattle.std.specs.List.{All, AllByRecursion}
use Rattle.std.specs.Ordering.{is_eq, eq_by_cmp}
use Rattle.std.proofs.lemmas.Bool.{not-true}
use Rattle.std.proofs.lemmas.List.Elements.{All-head, All-weaker, filter-append, filter_passes, recursion_from_All}
use Rattle.std.proofs.lemmas.List.Sorted.{IsPermutation-refl, IsPermutation-sym, IsPermutation-trans, IsPermutation-map, IsPermutation-append, IsPermutation-append_comm, All-permutation}
use Rattle.sqlite_keyed.proofs.ListLemmas.{IsPermutation-flat_map, IsPermutation-filter}
use Rattle.fr_base.specs.Tables.{Order, Table, get, insert, remove, only}
use Rattle.fr_base.proofs.SoundTables.{same_key}
use Rattle.fr_base.proofs.TableLaws.{get-insert}
use Rattle.fr_store.proofs.ApartLemmas.{apart, remove-insert}
use Rattle.fr_store.proofs.ApplyLemmas.{put_new, one_at_end}
use Rattle.fr_store.proofs.SectionLemmas.{row_at}

module _ {K V : Type 0} (o : Order K) (t : Table o V) (k : K) where
  abbrev pub IsApart : K × V → Type 0
  IsApart e = is_eq (o.compare k e.0) ≡ false

  abbrev rest : List (K × V)
  rest = (remove t k).rows

  others_apart : All IsApart rest
  unfolding remove only
  others_apart = All-weaker _ IsApart (λ e h. not-true _ h) _ (filter_passes (λ e. not (eq_by_cmp o.compare k e.0)) t.rows)

  pub each_apart : AllByRecursion IsApart rest
  each_apart = recursion_from_All IsApart rest others_apart

  -- the row at the key, and the others
  pub with_rest : (v : V) → get t k ≡ Some v → IsPermutation ((k, v) ∷ rest) t.rows
  with_rest v there = subst (λ x. IsPermutation (row_at k x ++ rest) t.rows) there (apart o k t)

  -- where none stands at the key, all rows are others
  pub none_there : get t k ≡ None → AllByRecursion IsApart t.rows
  none_there none = recursion_from_All IsApart t.rows (All-permutation IsApart _ _ (subst (λ x. IsPermutation (row_at k x ++ rest) t.rows) none (apart o k t)) others_apart)

  got : (w : V) → get (insert t k w) k ≡ Some w
  got w = get-insert t k w k ∙ ap (λ b. cond b (Some w) (get t k)) (same_key o k)

  pub then_rest : (w : V) → IsPermutation ((k, w) ∷ rest) (insert t k w).rows
  then_rest w =
      subst (λ (u : Table o V). IsPermutation ((k, w) ∷ u.rows) (insert t k w).rows) (remove-insert o t k w)
      (subst (λ x. IsPermutation (row_at k x ++ (remove (insert t k w) k).rows) (insert t k w).rows) (got w) (apart o k (insert t k w)))

  module _ (v w : V) (there : get t k ≡ Some v) where
    module _ {X : Type 0} (f : K × V → List X) (xs : List X) (all : IsPermutation (flat_map f t.rows) xs) where
      abbrev of_others : List X
      of_others = flat_map f rest

      came : IsPermutation (f (k, w) ++ of_others) (flat_map f (insert t k w).rows)
      came = IsPermutation-flat_map f _ _ (then_rest w)

      was : IsPermutation (f (k, v) ++ of_others) xs
      was = IsPermutation-trans _ _ _ (IsPermutation-flat_map f _ _ (with_rest v there)) all

      -- what does not change with the row's value stays
      pub same_of : f (k, w) ≡ f (k, v) → IsPermutation (flat_map f (insert t k w).rows) xs
      same_of same = IsPermutation-trans _ _ _ (IsPermutation-sym _ _ came) (subst (λ ys. IsPermutation (ys ++ of_others) xs) (sym same) was)

      -- one more of the row is one more of all
      pub more_of : (x : X) → IsPermutation (x ∷ f (k, v)) (f (k, w)) → IsPermutation (flat_map f (insert t k w).rows) (xs ++ x ∷ [])
      more_of x one =
          let own : IsPermutation (f (k, w) ++ of_others) (x ∷ (f (k, v) ++ of_others)) = IsPermutation-append _ _ _ _ (IsPermutation-sym _ _ one) (IsPermutation-refl of_others) in
          IsPermutation-trans _ _ _ (IsPermutation-sym _ _ came) (IsPermutation-trans _ _ _ own (one_at_end x _ _ was))

      all_pass : (p : X → Bool) → ((e : K × V) → IsApart e → filter p (f e) ≡ f e) → (es : List (K × V)) → AllByRecursion IsApart es → filter p (flat_map f es) ≡ flat_map f es
      all_pass p other [] a = refl
      all_pass p other (e ∷ es) a = filter-append p (f e) (flat_map f es) ∙ ap₂ ◌++◌ (other e a.0) (all_pass p other es a.1)

      -- where of the row those are left that pass, and all of the others' pass, those are left that pass
      pub less_of : (p : X → Bool) → filter p (f (k, v)) ≡ f (k, w) → ((e : K × V) → IsApart e → filter p (f e) ≡ f e) → IsPermutation (flat_map f (insert t k w).rows) (filter p xs)
      less_of p own other =
          let left : filter p (f (k, v) ++ of_others) ≡ f (k, w) ++ of_others = filter-append p (f (k, v)) of_others ∙ ap₂ ◌++◌ own (all_pass p other rest each_apart) in
          IsPermutation-trans _ _ _ (IsPermutation-sym _ _ came) (subst (λ ys. IsPermutation ys (filter p xs)) left (IsPermutation-filter p _ _ was))

    module _ {X : Type 0} (row : K × V → X) (xs : List X) (all : IsPermutation (map row t.rows) xs) where
      all_stay : (turn : X → X) → ((e : K × V) → IsApart e → turn (row e) ≡ row e) → (es : List (K × V)) → AllByRecursion IsApart es → map turn (map row es) ≡ map row es
      all_stay turn other [] a = refl
      all_stay turn other (e ∷ es) a = ap₂ ◌∷◌ (other e a.0) (all_stay turn other es a.1)

      own_row : IsPermutation (row (k, v) ∷ map row rest) xs
      own_row = IsPermutation-trans _ _ _ (IsPermutation-map row _ _ (with_rest v there)) all

      -- the row is turned into the new one, and the others stay
      pub turned_of : (turn : X → X) → turn (row (k, v)) ≡ row (k, w) → ((e : K × V) → IsApart e → turn (row e) ≡ row e) → IsPermutation (map row (insert t k w).rows) (map turn xs)
      turned_of turn own other =
          let turned : map turn (row (k, v) ∷ map row rest) ≡ row (k, w) ∷ map row rest = ap₂ ◌∷◌ own (all_stay turn other rest each_apart) in
          IsPermutation-trans _ _ _ (IsPermutation-sym _ _ (IsPermutation-map row _ _ (then_rest w))) (subst (λ ys. IsPermutation ys (map turn xs)) turned (IsPermutation-map turn _ _ own_row))

      -- what does not change with the row's value stays
      pub same_row_of : row (k, w) ≡ row (k, v) → IsPermutation (map row (insert t k w).rows) xs
      same_row_of same = IsPermutation-trans _ _ _ (IsPermutation-sym _ _ (IsPermutation-map row _ _ (then_rest w))) (subst (λ x. IsPermutation (x ∷ map row rest) xs) (sym same) own_row)

      -- what holds of all holds of the row
      pub holds_of : (P : X → Type 0) → All P xs → P (row (k, v))
      holds_of P h = All-head P _ _ (All-permutation P _ _ (IsPermutation-sym _ _ own_row) h)

  -- a row of a new key is one more, and what is made of it is added
  module _ (w : V) (new : get t k ≡ None) where
    joined : IsPermutation ((k, w) ∷ t.rows) (insert t k w).rows
    unfolding get insert
    joined = put_new o.compare k w t.rows new

    pub added_row : {X : Type 0} (row : K × V → X) (xs : List X) → IsPermutation (map row t.rows) xs → IsPermutation (map row (insert t k w).rows) (xs ++ row (k, w) ∷ [])
    added_row row xs all = IsPermutation-trans _ _ _ (IsPermutation-sym _ _ (IsPermutation-map row _ _ joined)) (one_at_end (row (k, w)) _ _ all)

    pub added_rows : {X : Type 0} (f : K × V → List X) (xs ys : List X) → IsPermutation (flat_map f t.rows) xs → IsPermutation (f (k, w)) ys → IsPermutation (flat_map f (insert t k w).rows) (xs ++ ys)
    added_rows f xs ys all own =
        IsPermutation-trans _ _ _ (IsPermutation-sym _ _ (IsPermutation-flat_map f _ _ joined))
        (IsPermutation-trans _ _ _ (IsPermutation-append_comm (f (k, w)) (flat_map f t.rows)) (IsPermutation-append _ _ _ _ all own))
