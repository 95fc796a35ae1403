-- Tables of which some rows are left out, and tables whose values are changed alike, after a change.
use Rattle.std.proofs.Common.{◌≡◌, Bool, true, false, not, cond, List, [], ◌∷◌, map, Option, Some, None, refl, sym, ap, ◌∙◌, inl, inr}
use Rattle.std.specs.Option.{option_map}
use Rattle.std.specs.Ordering.{is_eq, eq_by_cmp}
use Rattle.std.specs.FinMap.Entries.{find}
use Rattle.std.proofs.lemmas.Bool.{cases_Bool}
use Rattle.std.proofs.lemmas.List.{length-map}
use Rattle.fr_base.specs.Tables.{Order, Table, empty, get, len, insert, only, each, remove, Fate, Becomes, Gone, settle}
use Rattle.fr_base.proofs.TableLaws.{equal, get-insert, get-only, same_rows, same_table, kept}
use Rattle.fr_base.proofs.SoundTables.{get-passing, only-insert, only-insert_other}

-- ---- each value changed alike

find-map : {K V W : Type 0} (o : Order K) (f : V → W) (k : K) (es : List (K × V)) → find o.compare k (map (λ e. (e.0, f e.1)) es) ≡ option_map f (find o.compare k es)
find-map o f k [] = refl
find-map o f k (e ∷ es) = elim (is_eq (o.compare k e.0)) as (λ b. cond b (Some (f e.1)) (find o.compare k (map (λ e. (e.0, f e.1)) es)) ≡ option_map f (cond b (Some e.1) (find o.compare k es))) [
  | true ↦ refl
  | false ↦ find-map o f k es
]

module _ {K V W : Type 0} (o : Order K) (f : V → W) where
  pub get-each : (t : Table o V) (k : K) → get (each f t) k ≡ option_map f (get t k)
  unfolding get each
  get-each t k = find-map o f k t.rows

  pub len-each : (t : Table o V) → len (each f t) ≡ len t
  unfolding len each
  len-each t = length-map t.rows (λ e. (e.0, f e.1))

  pub each-empty : each f (empty {o = o}) ≡ empty
  unfolding each empty
  each-empty = same_rows _ _ refl

  option_map-cond : (b : Bool) (v : V) (x : Option V) → option_map f (cond b (Some v) x) ≡ cond b (Some (f v)) (option_map f x)
  option_map-cond true v x = refl
  option_map-cond false v x = refl

  pub each-insert : (t : Table o V) (k : K) (v : V) → each f (insert t k v) ≡ insert (each f t) k (f v)
  each-insert t k v = same_table _ _ (λ q.
      get-each (insert t k v) q ∙ ap (option_map f) (get-insert t k v q) ∙ option_map-cond (eq_by_cmp o.compare q k) v (get t q)
      ∙ sym (get-insert (each f t) k (f v) q ∙ ap (cond (eq_by_cmp o.compare q k) (Some (f v))) (get-each t q)))

-- ---- rows that pass a test

module _ {K V : Type 0} (o : Order K) (p : K → V → Bool) where
  kept-kept : (k : K) (x : Option V) → kept p k (kept p k x) ≡ kept p k x
  kept-kept k None = refl
  kept-kept k (Some v) = elim (p k v) as (λ b. p k v ≡ b → kept p k (cond b (Some v) None) ≡ cond b (Some v) None) [
    | true ↦ λ h. ap (λ b. cond b (Some v) None) h
    | false ↦ λ h. refl
  ] refl

  pub only-empty : only p (empty {o = o}) ≡ empty
  unfolding only empty
  only-empty = same_rows _ _ refl

  -- those that pass all pass
  pub only-only : (t : Table o V) → only p (only p t) ≡ only p t
  only-only t = same_table _ _ (λ q. get-only o p (only p t) q ∙ ap (kept p q) (get-only o p t q) ∙ kept-kept q (get t q) ∙ sym (get-only o p t q))

  pub get-remove : (t : Table o V) (k q : K) → get (remove t k) q ≡ kept (λ j _. not (eq_by_cmp o.compare k j)) q (get t q)
  unfolding remove
  get-remove t k q = get-only o (λ j _. not (eq_by_cmp o.compare k j)) t q

  kept-swap : (r : K → V → Bool) (k : K) (x : Option V) → kept p k (kept r k x) ≡ kept r k (kept p k x)
  kept-swap r k None = refl
  kept-swap r k (Some v) = elim (p k v) as (λ b. p k v ≡ b → kept p k (cond (r k v) (Some v) None) ≡ kept r k (cond b (Some v) None)) [
    | true ↦ λ h. elim (r k v) as (λ c. kept p k (cond c (Some v) None) ≡ cond c (Some v) None) [ true ↦ ap (λ b. cond b (Some v) None) h | false ↦ refl ]
    | false ↦ λ h. elim (r k v) as (λ c. kept p k (cond c (Some v) None) ≡ None) [ true ↦ ap (λ b. cond b (Some v) None) h | false ↦ refl ]
  ] refl

  pub only-remove : (t : Table o V) (k : K) → only p (remove t k) ≡ remove (only p t) k
  unfolding remove
  only-remove t k =
      let r : K → V → Bool = λ j _. not (eq_by_cmp o.compare k j) in
      same_table _ _ (λ q.
      get-only o p (only r t) q ∙ ap (kept p q) (get-only o r t q) ∙ kept-swap r q (get t q)
      ∙ sym (get-only o r (only p t) q ∙ ap (kept r q) (get-only o p t q)))

  kept-tied : (k q : K) (v : V) → eq_by_cmp o.compare q k ≡ true → kept p q (Some v) ≡ kept p k (Some v)
  kept-tied k q v e = ap (λ b. cond b (Some v) None) (ap (λ j. p j v) (o.exact q k (equal _ e)))

  module _ (t : Table o V) (k : K) (v : V) where
    shown_at : p k v ≡ true → (q : K) (b : Bool) → eq_by_cmp o.compare q k ≡ b → kept p q (cond b (Some v) (get t q)) ≡ cond b (Some v) (kept p q (get t q))
    shown_at passes q true e = kept-tied k q v e ∙ ap (λ b. cond b (Some v) None) passes
    shown_at passes q false e = refl

    -- a row that passes is put among those that do
    pub only-put : p k v ≡ true → only p (insert t k v) ≡ insert (only p t) k v
    only-put passes = same_table _ _ (λ q.
        get-only o p (insert t k v) q ∙ ap (kept p q) (get-insert t k v q) ∙ shown_at passes q (eq_by_cmp o.compare q k) refl
        ∙ sym (get-insert (only p t) k v q ∙ ap (cond (eq_by_cmp o.compare q k) (Some v)) (get-only o p t q)))

    hidden_at : p k v ≡ false → kept p k (get t k) ≡ None → (q : K) (b : Bool) → eq_by_cmp o.compare q k ≡ b → kept p q (cond b (Some v) (get t q)) ≡ kept p q (get t q)
    hidden_at fails before q true e = kept-tied k q v e ∙ ap (λ b. cond b (Some v) None) fails ∙ sym (ap (λ j. kept p j (get t j)) (o.exact q k (equal _ e)) ∙ before)
    hidden_at fails before q false e = refl

    -- a row that does not pass, where none stood that does
    pub only-put_other : p k v ≡ false → kept p k (get t k) ≡ None → only p (insert t k v) ≡ only p t
    only-put_other fails before = same_table _ _ (λ q.
        get-only o p (insert t k v) q ∙ ap (kept p q) (get-insert t k v q) ∙ hidden_at fails before q (eq_by_cmp o.compare q k) refl ∙ sym (get-only o p t q))

  module _ (t : Table o V) (k : K) where
    still_at : kept p k (get t k) ≡ None → (q : K) → kept (λ j _. not (eq_by_cmp o.compare k j)) q (kept p q (get t q)) ≡ kept p q (get t q)
    still_at before q = elim (cases_Bool (eq_by_cmp o.compare k q)) [
      | inl e ↦ let none : kept p q (get t q) ≡ None = ap (λ j. kept p j (get t j)) (sym (o.exact k q (equal _ e))) ∙ before in
          ap (kept (λ j _. not (eq_by_cmp o.compare k j)) q) none ∙ sym none
      | inr e ↦ kept_at q (kept p q (get t q)) e
    ]
      where
        kept_at : (q : K) (x : Option V) → eq_by_cmp o.compare k q ≡ false → kept (λ j _. not (eq_by_cmp o.compare k j)) q x ≡ x
        kept_at q None e = refl
        kept_at q (Some v) e = ap (λ b. cond (not b) (Some v) None) e

    -- a row that does not pass is taken out
    pub only-remove_other : kept p k (get t k) ≡ None → only p (remove t k) ≡ only p t
    only-remove_other before = same_table _ _ (λ q. ap (λ u. get u q) (only-remove t k) ∙ get-remove (only p t) k q ∙ ap (kept (λ j _. not (eq_by_cmp o.compare k j)) q) (get-only o p t q) ∙ still_at before q ∙ sym (get-only o p t q))

-- ---- rows whose key passes a test

module _ {K V : Type 0} (o : Order K) (p : K → Bool) (t : Table o V) (k : K) where
  kept_no_key : (x : Option V) → p k ≡ false → kept (λ j _. p j) k x ≡ None
  kept_no_key None e = refl
  kept_no_key (Some v) e = ap (λ b. cond b (Some v) None) e

  -- it is found among them
  pub get-own : p k ≡ true → get (only (λ j _. p j) t) k ≡ get t k
  get-own e = get-passing o p t k e

  -- what becomes of it becomes of it there
  pub only-settle : (x : Fate V) → p k ≡ true → only (λ j _. p j) (settle t k x) ≡ settle (only (λ j _. p j) t) k x
  unfolding settle
  only-settle (Becomes v) e = only-insert o p t k v e
  only-settle Gone e = only-remove o (λ j _. p j) t k

  -- what becomes of any other changes nothing there
  pub only-settle_other : (x : Fate V) → p k ≡ false → only (λ j _. p j) (settle t k x) ≡ only (λ j _. p j) t
  unfolding settle
  only-settle_other (Becomes v) e = only-insert_other o p t k v e
  only-settle_other Gone e = only-remove_other o (λ j _. p j) t k (kept_no_key (get t k) e)
