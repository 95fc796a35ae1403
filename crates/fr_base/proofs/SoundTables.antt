-- Rows of a table after one was put in or taken out, and how many there are.
use Rattle.std.proofs.Common.{◌≡◌, ◌≢◌, ℕ, ◌+◌, ◌≤◌, ◌<◌, Bool, true, false, cond, not, List, [], ◌∷◌, length, filter, Option, Some, None, is_some, IsTrue, refl, sym, ap, subst, ◌∙◌, ◌⊎◌, inl, inr, arith, true≢false}
use Rattle.std.specs.Ordering.{is_eq, eq_by_cmp}
use Rattle.std.specs.Cmp.{tied_itself}
use Rattle.std.specs.FinMap.Entries.{length-put}
use Rattle.std.proofs.lemmas.Bool.{cases_Bool}
use Rattle.std.proofs.lemmas.List.Sums.{length-filter, count_by-le-length}
use Rattle.fr_base.specs.Tables.{Order, Table, get, contains, len, insert, only, remove}
use Rattle.fr_base.proofs.TableLaws.{equal, get-insert, get-only, same_table, kept}

pub same_some : {A : Type 0} (x y : A) → Some x ≡ Some y → x ≡ y
same_some x y e = cc

-- what is there, where something is
pub value_of : {A : Type 0} (o : Option A) → is_some o ≡ true → (x : A) × (o ≡ Some x)
value_of None h = cc
value_of (Some x) h = (x, refl)

pub some_there : {A : Type 0} (o : Option A) (x : A) → o ≡ Some x → is_some o ≡ true
some_there o x e = ap is_some e

some_either : {A : Type 0} (b : Bool) (x : A) (o : Option A) → is_some o ≡ true → is_some (cond b (Some x) o) ≡ true
some_either true x o h = refl
some_either false x o h = h

at_most : (there : Bool) (m n : ℕ) → m ≤ n → IsTrue there ⊎ (m < n) → cond there m (m + 1) ≤ n
at_most true m n few room = few
at_most false m n few (inl there) = absurd (true≢false (sym there))
at_most false m n few (inr room) = omega (arith, room)

kept_none : {K V : Type 0} (p : K → Bool) (q : K) (o : Option V) → p q ≡ false → kept (λ k _. p k) q o ≡ None
kept_none p q None e = refl
kept_none p q (Some v) e = ap (λ b. cond b (Some v) None) e

kept_all : {K V : Type 0} (p : K → Bool) (q : K) (o : Option V) → p q ≡ true → kept (λ k _. p k) q o ≡ o
kept_all p q None e = refl
kept_all p q (Some v) e = ap (λ b. cond b (Some v) None) e

module _ {K : Type 0} (o : Order K) where
  -- a key ties with itself
  pub same_key : (k : K) → eq_by_cmp o.compare k k ≡ true
  same_key k = ap is_eq (tied_itself o.total k)

  -- keys that don't tie are not the same
  pub other_key : (q k : K) → eq_by_cmp o.compare q k ≡ false → q ≢ k
  other_key q k e same = true≢false (sym (ap (λ x. eq_by_cmp o.compare x k) same ∙ same_key k) ∙ e)

module _ {K V : Type 0} {o : Order K} where
  -- a row that is put in over another leaves nothing of it
  pub insert-again : (t : Table o V) (k : K) (v w : V) → insert (insert t k v) k w ≡ insert t k w
  insert-again t k v w = same_table _ _ (λ q. get-insert (insert t k v) k w q ∙ by_test q (eq_by_cmp o.compare q k) refl ∙ sym (get-insert t k w q))
    where
      by_test : (q : K) (b : Bool) → eq_by_cmp o.compare q k ≡ b → cond (eq_by_cmp o.compare q k) (Some w) (get (insert t k v) q) ≡ cond (eq_by_cmp o.compare q k) (Some w) (get t q)
      by_test q true e = rw e refl
      by_test q false e = rw e (get-insert t k v q ∙ ap (λ b. cond b (Some v) (get t q)) e)

  -- what is put in stands at its key
  pub get-put : (t : Table o V) (k : K) (v : V) → get (insert t k v) k ≡ Some v
  get-put t k v = get-insert t k v k ∙ ap (λ b. cond b (Some v) (get t k)) (same_key o k)

  -- after a row was put in, what stands at a key is that row, or stood there before
  pub insert-cases : (t : Table o V) (k : K) (v : V) (q : K) (w : V) → get (insert t k v) q ≡ Some w → ((q ≡ k) × (v ≡ w)) ⊎ ((q ≢ k) × (get t q ≡ Some w))
  insert-cases t k v q w e =
      let found : cond (eq_by_cmp o.compare q k) (Some v) (get t q) ≡ Some w = sym (get-insert t k v q) ∙ e in
      elim (cases_Bool (eq_by_cmp o.compare q k)) [
        | inl h ↦ inl (o.exact q k (equal _ h), same_some v w (ap (λ b. cond b (Some v) (get t q)) (sym h) ∙ found))
        | inr h ↦ inr (other_key o q k h, ap (λ b. cond b (Some v) (get t q)) (sym h) ∙ found)
      ]

  -- what is there stays
  pub contains-more : (t : Table o V) (k : K) (v : V) (q : K) → IsTrue (contains t q) → IsTrue (contains (insert t k v) q)
  contains-more t k v q h = ap is_some (get-insert t k v q) ∙ some_either (eq_by_cmp o.compare q k) v (get t q) h

  pub contains-cases : (t : Table o V) (k : K) (v : V) (q : K) → IsTrue (contains (insert t k v) q) → (q ≡ k) ⊎ IsTrue (contains t q)
  contains-cases t k v q h =
      let there = value_of (get (insert t k v) q) h in
      elim (insert-cases t k v q there.0 there.1) [ inl e ↦ inl e.0 | inr e ↦ inr (some_there (get t q) there.0 e.1) ]

  -- one more row, or another value in a row
  pub len-within : (t : Table o V) (k : K) (v : V) (n : ℕ) → len t ≤ n → IsTrue (contains t k) ⊎ (len t < n) → len (insert t k v) ≤ n
  unfolding len get insert
  len-within t k v n few room = subst (λ m. m ≤ n) (sym (length-put o.compare o.total k v t.rows t.sorted)) (at_most (contains t k) (len t) n few room)

kept_some : {K V : Type 0} (p : K → V → Bool) (q : K) (o : Option V) (v : V) → kept p q o ≡ Some v → o ≡ Some v
kept_some p q None v e = e
kept_some p q (Some w) v e = elim (cases_Bool (p q w)) [
  | inl h ↦ rw h at e
  | inr h ↦ let none = rw h at e in cc
]

-- what passes the test stood there before
pub only-stood : {K V : Type 0} (o : Order K) (p : K → V → Bool) (t : Table o V) (k : K) (v : V) → get (only p t) k ≡ Some v → get t k ≡ Some v
only-stood o p t k v e = kept_some p k (get t k) v (sym (get-only o p t k) ∙ e)

-- what stood there before passes a test that its key passes
pub get-passing : {K V : Type 0} (o : Order K) (p : K → Bool) (t : Table o V) (k : K) → IsTrue (p k) → get (only (λ j _. p j) t) k ≡ get t k
get-passing o p t k passes = get-only o (λ j _. p j) t k ∙ kept_all p k (get t k) passes

module _ {K V : Type 0} (o : Order K) (p : K → Bool) (t : Table o V) (k : K) (v : V) where
  moved : IsTrue (p k) → (q : K) (b : Bool) → eq_by_cmp o.compare q k ≡ b → kept (λ j _. p j) q (cond b (Some v) (get t q)) ≡ cond b (Some v) (kept (λ j _. p j) q (get t q))
  moved passes q true e = kept_all p q (Some v) (ap p (o.exact q k (equal _ e)) ∙ passes)
  moved passes q false e = refl

  -- a row whose key passes the test is put among those that do
  pub only-insert : IsTrue (p k) → only (λ j _. p j) (insert t k v) ≡ insert (only (λ j _. p j) t) k v
  only-insert passes = same_table _ _ (λ q.
      get-only o (λ j _. p j) (insert t k v) q
      ∙ ap (kept (λ j _. p j) q) (get-insert t k v q)
      ∙ moved passes q (eq_by_cmp o.compare q k) refl
      ∙ sym (get-insert (only (λ j _. p j) t) k v q ∙ ap (cond (eq_by_cmp o.compare q k) (Some v)) (get-only o (λ j _. p j) t q)))

  hidden : p k ≡ false → (q : K) (b : Bool) → eq_by_cmp o.compare q k ≡ b → kept (λ j _. p j) q (cond b (Some v) (get t q)) ≡ kept (λ j _. p j) q (get t q)
  hidden fails q true e =
      let fails_here : p q ≡ false = ap p (o.exact q k (equal _ e)) ∙ fails in
      kept_none p q (Some v) fails_here ∙ sym (kept_none p q (get t q) fails_here)
  hidden fails q false e = refl

  -- any other leaves those as they were
  pub only-insert_other : p k ≡ false → only (λ j _. p j) (insert t k v) ≡ only (λ j _. p j) t
  only-insert_other fails = same_table _ _ (λ q.
      get-only o (λ j _. p j) (insert t k v) q
      ∙ ap (kept (λ j _. p j) q) (get-insert t k v q)
      ∙ hidden fails q (eq_by_cmp o.compare q k) refl
      ∙ sym (get-only o (λ j _. p j) t q))

  -- the rows that pass are at most so many, still
  pub only-within : (n : ℕ) → len (only (λ j _. p j) t) ≤ n → (IsTrue (p k) → IsTrue (contains t k) ⊎ (len (only (λ j _. p j) t) < n)) → len (only (λ j _. p j) (insert t k v)) ≤ n
  only-within n few room =
      elim (cases_Bool (p k)) [
        | inl passes ↦ subst (λ u. len u ≤ n) (sym (only-insert passes)) (len-within _ k v n few (elim (room passes) [ inl there ↦ inl (ap is_some (get-passing o p t k passes) ∙ there) | inr more ↦ inr more ]))
        | inr fails ↦ subst (λ u. len u ≤ n) (sym (only-insert_other fails)) few
      ]

-- ---- a row is taken out

filter_twice : {X : Type 0} (p q : X → Bool) (xs : List X) → length (filter p (filter q xs)) ≤ length (filter p xs)
filter_twice p q [] = omega arith
filter_twice p q (x ∷ xs) = by_tests (p x) (q x) refl (filter_twice p q xs)
  where
    by_tests : (a b : Bool) → p x ≡ a → length (filter p (filter q xs)) ≤ length (filter p xs) → length (filter p (cond b (x ∷ filter q xs) (filter q xs))) ≤ length (cond a (x ∷ filter p xs) (filter p xs))
    by_tests true true e rest = rw e (omega (arith, rest))
    by_tests false true e rest = rw e (rest)
    by_tests true false e rest = omega (arith, rest)
    by_tests false false e rest = rest

module _ {K V : Type 0} (o : Order K) (t : Table o V) (k : K) where
  -- what is left stood there before
  pub remove-stood : (q : K) (v : V) → get (remove t k) q ≡ Some v → get t q ≡ Some v
  unfolding remove
  remove-stood q v e = only-stood o (λ j _. not (eq_by_cmp o.compare k j)) t q v e

  pub contains-fewer : (q : K) → IsTrue (contains (remove t k) q) → IsTrue (contains t q)
  contains-fewer q h = let there = value_of (get (remove t k) q) h in some_there (get t q) there.0 (remove-stood q there.0 there.1)

  -- what stands at another key is left
  pub get-remove_other : (q : K) → eq_by_cmp o.compare k q ≡ false → get (remove t k) q ≡ get t q
  unfolding remove
  get-remove_other q other = get-passing o (λ j. not (eq_by_cmp o.compare k j)) t q (ap not other)

  -- there are no more rows than before
  pub len-remove : (n : ℕ) → len t ≤ n → len (remove t k) ≤ n
  unfolding len remove only
  len-remove n few =
      let passes : K × V → Bool = λ e. not (eq_by_cmp o.compare k e.0) in
      omega (arith, few, length-filter passes t.rows, count_by-le-length passes t.rows)

  -- nor more that pass a test
  pub only-remove : (p : K → V → Bool) (n : ℕ) → len (only p t) ≤ n → len (only p (remove t k)) ≤ n
  unfolding len remove only
  only-remove p n few = omega (arith, few, filter_twice (λ e. p e.0 e.1) (λ e. not (eq_by_cmp o.compare k e.0)) t.rows)
