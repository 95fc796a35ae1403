-- The word of a cycle set: every bit of each is compared.
use Rattle.std.proofs.Common.{◌≡◌, ℕ, zero, suc, ◌*◌, ◌-◌, ◌/◌, ◌%◌, ◌<◌, ◌≤◌, ◌||◌, ◌&&◌, Bool, true, false, cond, not, eqb, leb, refl, sym, ap, ◌∙◌, inl, inr, arith, bit_and, w64, Some, None, IsTrue}
use Rattle.std.specs.Prelude.{◌^◌, min}
use Rattle.std.specs.Int.{bit_at, trailing_zeros}
use Rattle.std.specs.List.{list_all, range_with_len}
use Rattle.std.proofs.lemmas.Bool.{and_parts, cases_lt, eqb-true, leb-true}
use Rattle.std.proofs.lemmas.Nat.Bits.{bit_at_above, bit_at_and, bit_at-lt, bit_at-zero, bit_at-trailing_zeros}
use Rattle.fr_base.specs.Cycles.{Cycles, are_cycles, first_common, has_cycle, is_bit_set, is_cycle_count, is_repetition}
use Rattle.fr_base.proofs.CycleLemmas.{all-range, both_have, first_common_is, first_common_nowhere, has_cycle-in, has_cycle-out, within}

-- of so many ones as the count is, the first of each repetition, from the base on
abbrev pub word_of : ℕ → ℕ → ℕ → ℕ
word_of n b r = (2 ^ n - 1) / (2 ^ r - 1) * 2 ^ b % 18446744073709551616

abbrev right_bit : ℕ → ℕ → ℕ → ℕ → Bool
right_bit n r b c = eqb (bit_at (word_of n b r) c) (cond (eqb (c % r) b) 1 0)

abbrev right_word : ℕ → ℕ → ℕ → Bool
right_word n r b = list_all (right_bit n r b) (range_with_len 0 n)

abbrev right_words : ℕ → ℕ → Bool
right_words n r = not (is_repetition n r) || list_all (λ b. leb (suc (word_of n b r)) (2 ^ n) && right_word n r b) (range_with_len 0 r)

abbrev right_counts : ℕ → Bool
right_counts n = not (is_cycle_count n) || list_all (right_words n) (range_with_len 1 n)

all_right : list_all right_counts (range_with_len 8 57) ≡ true
all_right = refl

-- so many ones are what is left of 64 of them
abbrev right_ones : ℕ → Bool
right_ones n = eqb (18446744073709551615 / 2 ^ (64 - n)) (2 ^ n - 1) && leb 1 (2 ^ n - 1)

ones-right : (n : ℕ) → 1 ≤ n → n ≤ 64 → right_ones n ≡ true
ones-right n low high = all-range right_ones 1 64 n low (omega (arith, high)) refl

pub ones_are : (n : ℕ) → 1 ≤ n → n ≤ 64 → 18446744073709551615 / 2 ^ (64 - n) ≡ 2 ^ n - 1
ones_are n low high = eqb-true _ _ (and_parts _ _ (ones-right n low high)).0

pub ones-some : (n : ℕ) → 1 ≤ n → n ≤ 64 → 0 < 2 ^ n - 1
ones-some n low high = leb-true 1 (2 ^ n - 1) (and_parts _ _ (ones-right n low high)).1

one_or_none : (b : Bool) → eqb (cond b 1 0) 1 ≡ b
one_or_none true = refl
one_or_none false = refl

-- the word of a set is below the power of its count, and its bits below that are right
checked : (s : Cycles) → IsTrue (are_cycles s) → (leb (suc (word_of s.count s.base s.repetition)) (2 ^ s.count) && right_word s.count s.repetition s.base) ≡ true
checked s h =
    let w = within s h in
    let parts = and_parts (is_cycle_count s.count) _ h in
    let set = and_parts (is_repetition s.count s.repetition) _ parts.1 in
    let counts : right_counts s.count ≡ true = all-range right_counts 8 57 s.count w.some (omega (arith, w.most)) all_right in
    let words : list_all (right_words s.count) (range_with_len 1 s.count) ≡ true = rw parts.0 at counts in
    let each : right_words s.count s.repetition ≡ true = all-range (right_words s.count) 1 s.count s.repetition w.from_one (omega (arith, w.repetition)) words in
    let bases : list_all (λ b. leb (suc (word_of s.count b s.repetition)) (2 ^ s.count) && right_word s.count s.repetition b) (range_with_len 0 s.repetition) ≡ true = rw set.0 at each in
    all-range (λ b. leb (suc (word_of s.count b s.repetition)) (2 ^ s.count) && right_word s.count s.repetition b) 0 s.repetition s.base (omega arith) (omega (arith, w.base)) bases

word_small : (s : Cycles) → IsTrue (are_cycles s) → word_of s.count s.base s.repetition < 2 ^ s.count
word_small s h = leb-true (suc (word_of s.count s.base s.repetition)) (2 ^ s.count) (and_parts _ _ (checked s h)).0

low_bit : (s : Cycles) → IsTrue (are_cycles s) → (c : ℕ) → c < s.count → is_bit_set (word_of s.count s.base s.repetition) c ≡ has_cycle s c
low_bit s h c low =
    let word : right_word s.count s.repetition s.base ≡ true = (and_parts _ _ (checked s h)).1 in
    let bit = all-range (right_bit s.count s.repetition s.base) 0 s.count c (omega arith) (omega (arith, low)) word in
    ap (λ n. eqb n 1) (eqb-true _ _ bit) ∙ one_or_none (eqb (c % s.repetition) s.base) ∙ sym (has_cycle-in s c low)

-- the word's bits are the cycles
pub word-has_cycle : (s : Cycles) → IsTrue (are_cycles s) → (c : ℕ) → is_bit_set (word_of s.count s.base s.repetition) c ≡ has_cycle s c
word-has_cycle s h c = elim (cases_lt c s.count) [
  | inl low ↦ low_bit s h c low
  | inr high ↦ ap (λ n. eqb n 1) (bit_at_above (word_of s.count s.base s.repetition) s.count c (word_small s h) high) ∙ sym (has_cycle-out s c high)
]

-- ---- the cycles that two words have

lesser-one : (m n : ℕ) → m < 2 → n < 2 → eqb (min m n) 1 ≡ (eqb m 1 && eqb n 1)
lesser-one zero zero l h = refl
lesser-one zero (suc zero) l h = refl
lesser-one (suc zero) zero l h = refl
lesser-one (suc zero) (suc zero) l h = refl
lesser-one (suc (suc m)) n l h = absurd (omega (arith, l))
lesser-one zero (suc (suc n)) l h = absurd (omega (arith, h))
lesser-one (suc zero) (suc (suc n)) l h = absurd (omega (arith, h))

-- a bit is set in both words
pub is_set-and : (a b k : ℕ) → is_bit_set (bit_and a b) k ≡ (is_bit_set a k && is_bit_set b k)
is_set-and a b k = ap (λ n. eqb n 1) (bit_at_and a b k) ∙ lesser-one (bit_at a k) (bit_at b k) (bit_at-lt a k) (bit_at-lt b k)

pub is_set-none : (k : ℕ) → is_bit_set 0 k ≡ false
is_set-none k = ap (λ n. eqb n 1) (bit_at-zero k)

module _ (s t : Cycles) (v w : ℕ) (shows : (k : ℕ) → is_bit_set v k ≡ has_cycle s k) (shows_too : (k : ℕ) → is_bit_set w k ≡ has_cycle t k) where
  both_set : (k : ℕ) → both_have s t k ≡ is_bit_set (bit_and v w) k
  both_set k = (λ i. sym (shows k) i && sym (shows_too k) i) ∙ sym (is_set-and v w k)

  pub none_shared : bit_and v w ≡ 0 → None ≡ first_common s t
  none_shared zeros = sym (first_common_nowhere s t (λ k. both_set k ∙ ap (λ n. is_bit_set n k) zeros ∙ is_set-none k))

  -- the lowest bit of both is the first common cycle
  pub first_shared : 0 < bit_and v w → bit_and v w < 2 ^ 64 → Some (trailing_zeros w64 (bit_and v w)) ≡ first_common s t
  first_shared some small =
      let first = bit_at-trailing_zeros w64 (bit_and v w) some small in
      let c = trailing_zeros w64 (bit_and v w) in
      let has = and_parts (has_cycle s c) _ (both_set c ∙ ap (λ n. eqb n 1) first.1) in
      sym (first_common_is s t c (record { first = has.0; second = has.1; below = λ j l. both_set j ∙ ap (λ n. eqb n 1) (first.2 j l) }))
