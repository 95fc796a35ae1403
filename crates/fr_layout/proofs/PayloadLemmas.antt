-- Laws of the bits of a payload's bytes.
use Rattle.std.proofs.Common.{◌≡◌, ◌≢◌, ℕ, ◌+◌, ◌-◌, ◌*◌, ◌/◌, ◌%◌, ◌^◌, ◌<◌, ◌≤◌, Bool, true, false, List, [], ◌∷◌, take, drop, length, map, get_or, set, inl, inr, add-one, pow-suc, sym, ◌∙◌, ap, arith, eqb, cond, bit_and}
use Rattle.std.specs.Int.{bit_at}
use Rattle.std.proofs.lemmas.Bool.Decides.{nat_tests, eqb_tells, Decides-eqb}
use Rattle.std.proofs.lemmas.List.{get_or-set_same, get_or-set_other, drop_more, drop_at, append-nil}
use Rattle.std.proofs.lemmas.Nat.Bits.{shr_and_one, bit_at-lt}
use mir.Val.{bool_byte}
use Rattle.fr_base.specs.Signals.{SignalData}
use Rattle.fr_base.specs.Bits.{bits_of, payload_bit, from_bits}
use Rattle.fr_layout.proofs.BitsLemmas.{put_over, put_over-take, bits_differ, length-bits_of}

-- a byte that differs in one bit
pub payload_bit-set : (bytes : List ℕ) (q p x b : ℕ) → q < 8 * length bytes → bit_at x (q % 8) ≡ b →
    ((i : ℕ) → i < 8 → i ≢ q % 8 → bit_at x i ≡ bit_at (get_or bytes (q / 8) 0) i) →
    payload_bit (set bytes (q / 8) x) p ≡ cond (eqb q p) b (payload_bit bytes p)
payload_bit-set bytes q p x b within here others =
    elim (eqb_tells (p / 8) (q / 8)) [
      | inl same_byte ↦
          ap (λ k. bit_at (get_or (set bytes (q / 8) x) k 0) (p % 8)) same_byte.1
          ∙ (ap (λ n. bit_at n (p % 8)) (get_or-set_same bytes (q / 8) x 0 (omega arith))
          ∙ elim (eqb_tells (p % 8) (q % 8)) [
            | inl same_bit ↦
                ap (bit_at x) same_bit.1 ∙ (here ∙ ap (λ t. cond t b (payload_bit bytes p)) (sym ((Decides-eqb q p).1 (omega (arith, same_byte.1, same_bit.1)))))
            | inr other_bit ↦
                others (p % 8) (omega arith) other_bit.1
                ∙ (ap (λ k. bit_at (get_or bytes k 0) (p % 8)) (sym same_byte.1)
                ∙ ap (λ t. cond t b (payload_bit bytes p)) (sym (apart q p (λ e. other_bit.1 (ap (λ n. n % 8) (sym e))))))
          ])
      | inr other_byte ↦
          ap (λ n. bit_at n (p % 8)) (get_or-set_other bytes (q / 8) (p / 8) x 0 other_byte.1)
          ∙ ap (λ t. cond t b (payload_bit bytes p)) (sym (apart q p (λ e. other_byte.1 (ap (λ n. n / 8) (sym e)))))
    ]
  where
    apart : (q p : ℕ) → q ≢ p → eqb q p ≡ false
    apart q p n = grind (arith, nat_tests, n)

pub bit_of_test : (b : ℕ) → b < 2 → cond (eqb b 1) 1 0 ≡ b
bit_of_test b h = grind (arith, nat_tests)

-- the bit that a test of it gives
pub tested_bit : (v i : ℕ) → cond (eqb (bit_and (v / 2 ^ i) 1) 1) 1 0 ≡ bit_at v i
tested_bit v i = ap (λ b. cond (eqb b 1) 1 0) (shr_and_one v i) ∙ bit_of_test (bit_at v i) (bit_at-lt v i)

-- one bit more is put
pub write_more : (s : SignalData) (v i p old q before new : ℕ) (t : Bool) → i < s.length → q ≡ get_or (bits_of s) i 0 → t ≡ eqb (bit_and (v / 2 ^ i) 1) 1 →
    before ≡ put_over (take i (bits_of s)) v p old → new ≡ cond (eqb q p) (cond t 1 0) before → new ≡ put_over (take (i + 1) (bits_of s)) v p old
write_more s v i p old q before new t h at test was is =
    is
    ∙ (ap (λ n. cond (eqb n p) (cond t 1 0) before) at
    ∙ (ap (λ b. cond (eqb (get_or (bits_of s) i 0) p) (cond b 1 0) before) test
    ∙ (ap (λ b. cond (eqb (get_or (bits_of s) i 0) p) b before) (tested_bit v i)
    ∙ (ap (cond (eqb (get_or (bits_of s) i 0) p) (bit_at v i)) was
    ∙ (sym (put_over-take (bits_of s) v i p old (bits_differ s) (omega (arith, length-bits_of s)))
    ∙ ap (λ n. put_over (take n (bits_of s)) v p old) (sym (add-one i)))))))

-- one bit more is read
pub read_more : (f : ℕ → ℕ) (bs : List ℕ) (i j v b : ℕ) → i ≡ j + 1 → i ≤ length bs → v ≡ from_bits (map f (drop i bs)) → b ≡ f (get_or bs j 0) →
    v * 2 + b ≡ from_bits (map f (drop j bs))
read_more f bs i j v b next within was at =
    let more : drop j bs ≡ get_or bs j 0 ∷ drop (j + 1) bs = drop_more bs j 0 (omega arith) in
    let value : from_bits (map f (drop j bs)) ≡ f (get_or bs j 0) + 2 * from_bits (map f (drop i bs)) =
    ap (λ l. from_bits (map f l)) more ∙ ap (λ n. f (get_or bs j 0) + 2 * from_bits (map f (drop n bs))) (sym next) in
    omega (arith, value, was, at)

pub read_none : (f : ℕ → ℕ) (bs : List ℕ) (n : ℕ) → length bs ≡ n → 0 ≡ from_bits (map f (drop n bs))
read_none f bs n h = sym (ap (λ l. from_bits (map f l)) (sym (ap (drop n) (append-nil bs)) ∙ drop_at bs [] n h))

pub bit_of_bool : (t : Bool) (b : ℕ) → t ≡ eqb b 1 → b < 2 → bool_byte t ≡ b
bit_of_bool true b h below = omega (arith, (Decides-eqb b 1).0 (sym h))
bit_of_bool false b h below = grind (arith, nat_tests)

pub read_bound : (v b n i : ℕ) → 0 < i → i ≤ n → v < 2 ^ (n - i) → b < 2 → v * 2 + b < 2 ^ (n - (i - 1))
read_bound v b n i h within below bit =
    let power : 2 ^ (n - (i - 1)) ≡ 2 ^ (n - i) * 2 = ap (λ k. 2 ^ k) (omega arith) ∙ pow-suc 2 (n - i) in
    omega (arith, power)
