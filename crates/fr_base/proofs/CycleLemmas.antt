-- Lemmas on cycle sets.
use Rattle.std.proofs.Common.{◌≡◌, ◌≢◌, ℕ, zero, suc, ◌+◌, ◌%◌, ◌<◌, ◌≤◌, Bool, true, false, ◌&&◌, eqb, leb, List, [], ◌∷◌, Option, Some, None, refl, sym, ◌∙◌, ap, subst, ◌⊎◌, inl, inr, arith, IsTrue}
use Rattle.std.proofs.lemmas.Nat.Gcd.{dvd_of_mod-eq-zero, le_of_dvd}
use Rattle.std.proofs.lemmas.Bool.{eqb-true, eq-eqb, ne_eqb, ltb-true, leb-true, and_parts, and_from, and_left, cases_Bool, cases_eq, cases_lt, true≢false}
use Rattle.std.proofs.Math.Bool.{and_comm}
use Rattle.std.specs.List.{filter, find, list_all, list_any, range_with_len}
use Rattle.fr_base.specs.Cycles.{Cycles, is_cycle_count, is_repetition, are_cycles, selects, all_cycles, cycles_of, has_cycle, first_common}

-- a divisor is at most the number
pub divisor_within : (n r : ℕ) → 0 < n → n % r ≡ 0 → r ≤ n
divisor_within n r some e = le_of_dvd some (dvd_of_mod-eq-zero r e)

-- a number of a range passes a test that all of the range pass
pub all-range : (p : ℕ → Bool) (a n k : ℕ) → a ≤ k → k < a + n → list_all p (range_with_len a n) ≡ true → p k ≡ true
all-range p a zero k l h all = absurd (omega arith)
all-range p a (suc n) k l h all =
    let parts = and_parts (p a) _ all in
    elim (cases_eq a k) [ inl e ↦ rw (← e) parts.0 | inr ne ↦ all-range p (a + 1) n k (omega (arith, ne)) (omega arith) parts.1 ]

-- a repetition is at least 1 and at most the count
pub in_range : (n r : ℕ) → 0 < n → is_repetition n r ≡ true → (1 ≤ r) × (r ≤ n)
in_range n r some h =
    let parts = and_parts (leb 1 r) _ h in
    (leb-true 1 r parts.0, divisor_within n r some (eqb-true _ _ parts.1))

-- the numbers of a set of cycles: the count is at most 64, the repetition at most the count, the base below the repetition
pub record Within (s : Cycles) : Type 0 where
  pub some : 8 ≤ s.count
  pub most : s.count ≤ 64
  pub from_one : 1 ≤ s.repetition
  pub repetition : s.repetition ≤ s.count
  pub base : s.base < s.repetition

pub count_within : (n : ℕ) → is_cycle_count n ≡ true → (8 ≤ n) × (n ≤ 64)
count_within n h =
    let range = and_parts _ _ (and_parts (leb 8 n && leb n 64) _ h).0 in
    (leb-true 8 n range.0, leb-true n 64 range.1)

pub within : (s : Cycles) → IsTrue (are_cycles s) → Within s
within s h =
    let parts = and_parts (is_cycle_count s.count) _ h in
    let count = count_within s.count parts.0 in
    let set = and_parts (is_repetition s.count s.repetition) _ parts.1 in
    let known = in_range s.count s.repetition (omega (arith, count.0)) set.0 in
    record { some = count.0; most = count.1; from_one = known.0; repetition = known.1; base = ltb-true s.base s.repetition set.1 }

-- a search of a range gives a number that passes where none before it does
pub find-range_Some : (p : ℕ → Bool) (a n k : ℕ) → a ≤ k → k < a + n → p k ≡ true → ((j : ℕ) → j < k → p j ≡ false) → find p (range_with_len a n) ≡ Some k
find-range_Some p a zero k l h t below = absurd (omega arith)
find-range_Some p a (suc n) k l h t below = elim (cases_eq a k) [
  | inl e ↦ rw e (rw t refl)
  | inr ne ↦ rw (below a (omega (arith, ne))) (find-range_Some p (a + 1) n k (omega (arith, ne)) (omega arith) t below)
]

-- and nothing where none passes
pub find-range_None : (p : ℕ → Bool) (a n : ℕ) → ((j : ℕ) → j < a + n → p j ≡ false) → find p (range_with_len a n) ≡ None
find-range_None p a zero none = refl
find-range_None p a (suc n) none = rw (none a (omega arith)) (find-range_None p (a + 1) n (λ j h. none j (omega arith)))

-- a search of what a test keeps
pub find-filter : {X : Type 0} (p q : X → Bool) (xs : List X) → find p (filter q xs) ≡ find (λ x. q x && p x) xs
find-filter p q [] = refl
find-filter p q (x ∷ xs) = elim (cases_Bool (q x)) [
  | inl e ↦ rw e (rw (find-filter p q xs) refl)
  | inr e ↦ rw e (find-filter p q xs)
]

-- a number that is not in the range is not among those that a test keeps of it
any-filter_range_out : (q : ℕ → Bool) (c a n : ℕ) → (c < a) ⊎ (a + n ≤ c) → list_any (eqb c) (filter q (range_with_len a n)) ≡ false
any-filter_range_out q c a zero out = refl
any-filter_range_out q c a (suc n) out =
    let ne : eqb c a ≡ false = ne_eqb c a (λ e. elim out [ inl l ↦ omega arith | inr l ↦ omega arith ]) in
    let rest = any-filter_range_out q c (a + 1) n (elim out [ inl l ↦ inl (omega arith) | inr l ↦ inr (omega arith) ]) in
    elim (cases_Bool (q a)) [ inl e ↦ rw e (rw (ne, rest) refl) | inr e ↦ rw e rest ]

-- a number of the range is among them where it passes
any-filter_range_in : (q : ℕ → Bool) (c a n : ℕ) → a ≤ c → c < a + n → list_any (eqb c) (filter q (range_with_len a n)) ≡ q c
any-filter_range_in q c a zero l h = absurd (omega arith)
any-filter_range_in q c a (suc n) l h = elim (cases_eq c a) [
  | inl here ↦ elim (cases_Bool (q a)) [
    | inl e ↦ rw (here, e) (rw (eq-eqb a a refl) refl)
    | inr e ↦ rw (here, e) (any-filter_range_out q a (a + 1) n (inl (omega arith)))
  ]
  | inr ne ↦
      let rest = any-filter_range_in q c (a + 1) n (omega (arith, ne)) (omega arith) in
      elim (cases_Bool (q a)) [ inl e ↦ rw e (rw (ne_eqb c a ne, rest) refl) | inr e ↦ rw e rest ]
]

-- a cycle is in a set where the set selects it
pub has_cycle-in : (s : Cycles) (c : ℕ) → c < s.count → has_cycle s c ≡ selects s c
unfolding has_cycle cycles_of all_cycles
has_cycle-in s c h = any-filter_range_in (selects s) c 0 s.count (omega arith) (omega arith)

-- no set has a cycle past the last one
pub has_cycle-out : (s : Cycles) (c : ℕ) → s.count ≤ c → has_cycle s c ≡ false
unfolding has_cycle cycles_of all_cycles
has_cycle-out s c h = any-filter_range_out (selects s) c 0 s.count (inr (omega arith))

-- a set has no cycle past the last one
pub below-has_cycle : (s : Cycles) (c : ℕ) → has_cycle s c ≡ true → c < s.count
below-has_cycle s c h = elim (cases_lt c s.count) [ inl l ↦ l | inr l ↦ absurd (true≢false (sym h ∙ has_cycle-out s c l)) ]

-- whether both sets have the cycle
abbrev pub both_have : Cycles → Cycles → ℕ → Bool
both_have s t c = has_cycle s c && has_cycle t c

-- a cycle that is first among those of both sets
pub record IsFirstCommon (s t : Cycles) (c : ℕ) : Type 0 where
  pub first : has_cycle s c ≡ true
  pub second : has_cycle t c ≡ true
  pub below : (j : ℕ) → j < c → both_have s t j ≡ false

-- below a bound a test passes at a least number, or nowhere
least : (p : ℕ → Bool) (n : ℕ) → ((k : ℕ) × (p k ≡ true) × ((j : ℕ) → j < k → p j ≡ false)) ⊎ ((j : ℕ) → j < n → p j ≡ false)
least p zero = inr (λ j h. absurd (omega arith))
least p (suc n) = elim (least p n) [
  | inl found ↦ inl found
  | inr none ↦ elim (cases_Bool (p n)) [
    | inl t ↦ inl (n, t, none)
    | inr f ↦ inr (λ j h. elim (cases_eq j n) [ inl e ↦ rw e f | inr ne ↦ none j (omega (arith, ne)) ])
  ]
]

-- there is a first common cycle, or no common one
pub first_or_none : (s t : Cycles) → ((c : ℕ) × IsFirstCommon s t c) ⊎ ((j : ℕ) → both_have s t j ≡ false)
first_or_none s t = elim (least (both_have s t) s.count) [
  | inl found ↦ let has = and_parts _ _ found.1 in inl (found.0, record { first = has.0; second = has.1; below = found.2 })
  | inr none ↦ inr (λ j. elim (cases_lt j s.count) [ inl l ↦ none j l | inr l ↦ and_left _ _ (has_cycle-out s j l) ])
]

-- the first common cycle is the answer
pub first_common_is : (s t : Cycles) (c : ℕ) → IsFirstCommon s t c → first_common s t ≡ Some c
unfolding first_common cycles_of all_cycles
first_common_is s t c h =
    let l = below-has_cycle s c h.first in
    find-filter (has_cycle t) (selects s) (range_with_len 0 s.count)
    ∙ find-range_Some (λ k. selects s k && has_cycle t k) 0 s.count c (omega arith) (omega (arith, l)) (and_from _ _ (sym (has_cycle-in s c l) ∙ h.first) h.second)
    (λ j m. let low : j < s.count = omega (arith, m, l) in ap (λ b. b && has_cycle t j) (sym (has_cycle-in s j low)) ∙ h.below j m)

-- where no cycle is in both, there is no answer
pub first_common_nowhere : (s t : Cycles) → ((j : ℕ) → both_have s t j ≡ false) → first_common s t ≡ None
unfolding first_common cycles_of all_cycles
first_common_nowhere s t none =
    find-filter (has_cycle t) (selects s) (range_with_len 0 s.count)
    ∙ find-range_None (λ k. selects s k && has_cycle t k) 0 s.count
    (λ j l. let low : j < s.count = omega (arith, l) in ap (λ b. b && has_cycle t j) (sym (has_cycle-in s j low)) ∙ none j)

None≢Some : (c : ℕ) → (let none : Option ℕ = None in none ≢ Some c)
None≢Some c e = cc

-- what is answered is the first common cycle
pub IsFirstCommon-answered : (s t : Cycles) (c : ℕ) → first_common s t ≡ Some c → IsFirstCommon s t c
IsFirstCommon-answered s t c e = elim (first_or_none s t) [
  | inl found ↦ let answers : Some found.0 ≡ Some c = sym (first_common_is s t found.0 found.1) ∙ e in
      let same : found.0 ≡ c = cc in
      subst (λ k. IsFirstCommon s t k) same found.1
  | inr none ↦ absurd (None≢Some c (sym (first_common_nowhere s t none) ∙ e))
]

-- where nothing is answered, no cycle is in both
pub none_common : (s t : Cycles) → first_common s t ≡ None → (j : ℕ) → both_have s t j ≡ false
none_common s t e = elim (first_or_none s t) [
  | inl found ↦ absurd (None≢Some found.0 (sym e ∙ first_common_is s t found.0 found.1))
  | inr none ↦ none
]

-- the order of the two sets does not matter
pub first_common_comm : (s t : Cycles) → first_common s t ≡ first_common t s
first_common_comm s t = elim (first_or_none s t) [
  | inl found ↦
      let back : IsFirstCommon t s found.0 = record { first = found.1.second; second = found.1.first; below = λ j l. and_comm (has_cycle t j) (has_cycle s j) ∙ found.1.below j l } in
      first_common_is s t _ found.1 ∙ sym (first_common_is t s _ back)
  | inr none ↦ first_common_nowhere s t none ∙ sym (first_common_nowhere t s (λ j. and_comm (has_cycle t j) (has_cycle s j) ∙ none j))
]
