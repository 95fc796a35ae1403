-- A table's rows apart from the one at a key, and lists that are made of them.
use Rattle.std.proofs.Common.{◌≡◌, Bool, true, false, not, cond, None, Some, Option, List, [], ◌∷◌, ◌++◌, filter, flat_map, Equal, refl, sym, ap, ap₂, ◌∙◌, subst, subst₂, ◌⊎◌, inl, inr, IsPermutation, true≢false}
use Rattle.std.specs.Prelude.{T}
use Rattle.std.specs.Ordering.{is_eq, eq_by_cmp}
use Rattle.std.specs.FinMap.Entries.{is_sorted, find}
use Rattle.std.proofs.lemmas.List.Elements.{filter-append}
use Rattle.std.proofs.lemmas.List.Sorted.{IsPermutation-refl, IsPermutation-sym, IsPermutation-trans, IsPermutation-cons, IsPermutation-middle}
use Rattle.fr_base.specs.TableRows.{first, second}
use Rattle.fr_base.specs.Tables.{Order, Table, Fate, Becomes, Gone, get, insert, only, remove, settle}
use Rattle.fr_base.proofs.TableLaws.{equal, get-insert, kept, none_above}
use Rattle.fr_base.proofs.AloneTables.{get-remove, only-settle_other}
use Rattle.fr_base.proofs.SoundTables.{same_key, insert-cases, remove-stood, get-remove_other, only-insert_other}
use Rattle.fr_store.proofs.SectionLemmas.{row_at}

-- ---- lists that are made of the rows that pass a test

pub flat_map_among : {A X : Type 0} (p : A → Bool) (f g : A → List X) → ((a : A) → p a ≡ true → f a ≡ g a) → (xs : List A) → flat_map f (filter p xs) ≡ flat_map g (filter p xs)
flat_map_among p f g same [] = refl
flat_map_among p f g same (x ∷ xs) = by_test (p x) refl (flat_map_among p f g same xs)
  where
    by_test : (b : Bool) → p x ≡ b → flat_map f (filter p xs) ≡ flat_map g (filter p xs) → flat_map f (cond b (x ∷ filter p xs) (filter p xs)) ≡ flat_map g (cond b (x ∷ filter p xs) (filter p xs))
    by_test true is more = ap₂ ◌++◌ (same x is) more
    by_test false is more = more

pub nothing_among : {A X : Type 0} (p : A → Bool) (q : X → Bool) (f : A → List X) → ((a : A) → p a ≡ true → filter q (f a) ≡ []) → (xs : List A) → filter q (flat_map f (filter p xs)) ≡ []
nothing_among p q f none [] = refl
nothing_among p q f none (x ∷ xs) = by_test (p x) refl (nothing_among p q f none xs)
  where
    by_test : (b : Bool) → p x ≡ b → filter q (flat_map f (filter p xs)) ≡ [] → filter q (flat_map f (cond b (x ∷ filter p xs) (filter p xs))) ≡ []
    by_test true is more = filter-append q (f x) (flat_map f (filter p xs)) ∙ ap₂ ◌++◌ (none x is) more
    by_test false is more = more

-- ---- the row at a key, and the others

module _ {K V : Type 0} (o : Order K) (k : K) where
  abbrev others : List (K × V) → List (K × V)
  others es = filter (λ e. not (eq_by_cmp o.compare k e.0)) es

  apart_in : (es : List (K × V)) → T (is_sorted o.compare es) → IsPermutation (row_at k (find o.compare k es) ++ others es) es
  apart_in [] h = IsPermutation-refl []
  apart_in (e ∷ es) h = by_test (is_eq (o.compare k e.0)) refl (apart_in es (second _ _ h))
    where
      by_test : (b : Bool) → is_eq (o.compare k e.0) ≡ b → IsPermutation (row_at k (find o.compare k es) ++ others es) es
          → IsPermutation (row_at k (cond b (Some e.1) (find o.compare k es)) ++ cond (not b) (e ∷ others es) (others es)) (e ∷ es)
      by_test true is more =
          let tie : o.compare k e.0 ≡ Equal = equal (o.compare k e.0) is in
          let same : k ≡ e.0 = o.exact k e.0 tie in
          let none : find o.compare k es ≡ None = none_above o (λ k v. true) k e.0 es tie (first _ _ h) in
          rw (ap {B = K × V} (λ j. (j, e.1)) same) (IsPermutation-cons e _ _ (rw none at more))
      by_test false is more =
          IsPermutation-trans _ _ _ (IsPermutation-middle (row_at k (find o.compare k es)) e (others es)) (IsPermutation-cons e _ _ more)

  -- the row at the key and the others are all rows
  pub apart : (t : Table o V) → IsPermutation (row_at k (get t k) ++ (remove t k).rows) t.rows
  unfolding get remove only
  apart t = apart_in t.rows t.sorted

-- what then stands at the key
abbrev pub becomes : {V : Type 0} → Fate V → Option V
becomes (Becomes v) = Some v
becomes Gone = None

module _ {K V : Type 0} (o : Order K) (t : Table o V) (k : K) where
  kept_itself : (x : Option V) → kept (λ j _. not (eq_by_cmp o.compare k j)) k x ≡ None
  kept_itself None = refl
  kept_itself (Some v) = ap (λ b. cond (not b) (Some v) None) (same_key o k)

  untied : (q : K) → eq_by_cmp o.compare k q ≡ false → eq_by_cmp o.compare q k ≡ false
  untied q other = by_test (eq_by_cmp o.compare q k) refl
    where
      by_test : (b : Bool) → eq_by_cmp o.compare q k ≡ b → b ≡ false
      by_test false e = refl
      by_test true e = absurd (true≢false (sym (ap (λ j. eq_by_cmp o.compare k j) (o.exact q k (equal _ e)) ∙ same_key o k) ∙ other))

  pub get-settle : (fate : Fate V) → get (settle t k fate) k ≡ becomes fate
  unfolding settle
  get-settle (Becomes v) = get-insert t k v k ∙ ap (λ b. cond b (Some v) (get t k)) (same_key o k)
  get-settle Gone = get-remove o (λ k v. true) t k k ∙ kept_itself (get t k)

  -- what stands at another key stands there still
  pub get-settle_other : (fate : Fate V) (q : K) → eq_by_cmp o.compare k q ≡ false → get (settle t k fate) q ≡ get t q
  unfolding settle
  get-settle_other (Becomes v) q other = get-insert t k v q ∙ ap (λ b. cond b (Some v) (get t q)) (untied q other)
  get-settle_other Gone q other = get-remove_other o t k q other

  -- what stands at any key then is that, or stood there before
  pub settle-cases : (fate : Fate V) (q : K) (w : V) → get (settle t k fate) q ≡ Some w → (becomes fate ≡ Some w) ⊎ (get t q ≡ Some w)
  unfolding settle
  settle-cases (Becomes v) q w is = elim (insert-cases t k v q w is) [ inl here ↦ inl (ap Some here.1) | inr there ↦ inr there.1 ]
  settle-cases Gone q w is = inr (remove-stood o t k q w is)

  -- the others stay
  pub remove-settle : (fate : Fate V) → remove (settle t k fate) k ≡ remove t k
  unfolding remove
  remove-settle fate = only-settle_other o (λ j. not (eq_by_cmp o.compare k j)) t k fate (ap not (same_key o k))

  pub remove-insert : (v : V) → remove (insert t k v) k ≡ remove t k
  unfolding remove
  remove-insert v = only-insert_other o (λ j. not (eq_by_cmp o.compare k j)) t k v (ap not (same_key o k))

  -- a row of a new key is one row more
  pub insert_new : (v : V) → get t k ≡ None → IsPermutation ((k, v) ∷ t.rows) (insert t k v).rows
  unfolding settle
  insert_new v new =
      let before : IsPermutation (remove t k).rows t.rows = subst (λ x. IsPermutation (row_at k x ++ (remove t k).rows) t.rows) new (apart o k t) in
      let after : IsPermutation ((k, v) ∷ (remove t k).rows) (insert t k v).rows =
      subst₂ (λ x u. IsPermutation (row_at k x ++ u.rows) (insert t k v).rows) (get-settle (Becomes v)) (remove-insert v) (apart o k (insert t k v)) in
      IsPermutation-trans _ _ _ (IsPermutation-cons (k, v) _ _ (IsPermutation-sym _ _ before)) after
