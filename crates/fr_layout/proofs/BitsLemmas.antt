-- Laws of the payload bits of signals.
use Rattle.std.proofs.Common.{◌≡◌, ℕ, zero, suc, ◌+◌, ◌-◌, ◌*◌, ◌/◌, ◌%◌, ◌^◌, ◌<◌, ◌≤◌, Bool, true, false, ◌&&◌, ◌||◌, List, [], ◌∷◌, take, length, get_or, IsTrue, AllPairs, ◌⊎◌, inl, inr, reverse, Option, Some, None, refl, sym, ◌∙◌, ap, arith, pow-suc, eqb, ltb, leb, cond}
use Rattle.std.specs.List.{range_with_len, list_any, list_all}
use Rattle.std.specs.Option.{option_map, option_map_or}
use Rattle.std.specs.Int.{bit_at}
use Rattle.std.proofs.lemmas.Bool.Decides.{nat_tests, Decides-eqb}
use Rattle.std.proofs.lemmas.List.{get_or-reverse, length-reverse, reverse-append}
use Rattle.std.proofs.lemmas.List.FromFn.{get_or-range_with_len, length-range_with_len}
use Rattle.std.proofs.lemmas.List.Folds.{list_all-append}
use Rattle.std.proofs.lemmas.Nat.Bits.{bit_at-suc, bit_at-zero, bit_at_lowest}
use Rattle.std.proofs.lemmas.List.Sorted.{list_any-IsPermutation, IsPermutation-sym, IsPermutation-reverse}
use Rattle.fr_layout.specs.Along.{mirror, along}
use Rattle.fr_base.specs.Signals.{SignalData}
use Rattle.fr_base.specs.declared.signal.Order.{Order}
use Rattle.fr_base.specs.declared.signal.Order.TheVariants.{Little, Big}
use Rattle.fr_base.specs.Layouts.{AreApart, lies_inside}
use Rattle.fr_base.specs.Bits.{bits_of, run_of, run_big, after_big, entry_of, uses, from_bits, image_bit}

pub mirror-mirror : (p : ℕ) → mirror (mirror p) ≡ p
mirror-mirror p = omega arith

pub mirror-after_big : (p : ℕ) → mirror (after_big p) ≡ mirror p + 1
mirror-after_big p = grind (arith, nat_tests)

pub mirror-same : (p q : ℕ) → mirror p ≡ mirror q → p ≡ q
mirror-same p q h = sym (mirror-mirror p) ∙ (ap mirror h ∙ mirror-mirror q)

-- the positions of a run, one by one
pub length-run_big : (p n : ℕ) → length (run_big p n) ≡ n
length-run_big p zero = refl
length-run_big p (suc n) = ap suc (length-run_big (after_big p) n)

pub get_or-run_big : (p n k : ℕ) → k < n → get_or (run_big p n) k 0 ≡ mirror (mirror p + k)
get_or-run_big p zero k h = absurd (omega arith)
get_or-run_big p (suc n) zero h = omega arith
get_or-run_big p (suc n) (suc k) h =
    get_or-run_big (after_big p) n k (omega arith)
    ∙ ap mirror (omega (arith, mirror-after_big p))

-- bit i of a value lies here
abbrev pub place : Order → ℕ → ℕ → ℕ → ℕ
place Little start n i = start + i
place Big start n i = mirror (mirror start + (n - 1 - i))

pub length-run_of : (o : Order) (start n : ℕ) → length (run_of o start n) ≡ n
length-run_of Little start n = length-range_with_len start n
length-run_of Big start n = length-reverse (run_big start n) ∙ length-run_big start n

pub get_or-run_of : (o : Order) (start n i : ℕ) → i < n → get_or (run_of o start n) i 0 ≡ place o start n i
get_or-run_of Little start n i h = get_or-range_with_len start n i 0 h
get_or-run_of Big start n i h =
    get_or-reverse (run_big start n) i 0 (omega (arith, length-run_big start n))
    ∙ (ap (λ m. get_or (run_big start n) (m - 1 - i) 0) (length-run_big start n)
    ∙ get_or-run_big start n (n - 1 - i) (omega arith))

pub place-same : (o : Order) (start n i j : ℕ) → i < n → j < n → place o start n i ≡ place o start n j → i ≡ j
place-same Little start n i j hi hj e = omega arith
place-same Big start n i j hi hj e =
    let same : mirror start + (n - 1 - i) ≡ mirror start + (n - 1 - j) = mirror-same (mirror start + (n - 1 - i)) (mirror start + (n - 1 - j)) e in
    omega arith

list_any-range : (p a n : ℕ) → list_any (λ q. eqb q p) (range_with_len a n) ≡ (leb a p && ltb p (a + n))
list_any-range p a zero = grind (arith, nat_tests)
list_any-range p a (suc n) = ap (λ b. eqb a p || b) (list_any-range p (a + 1) n) ∙ grind (arith, nat_tests)

run_more : (a b n : ℕ) → (eqb a b || (leb (a + 1) b && ltb b (a + 1 + n))) ≡ (leb a b && ltb b (a + suc n))
run_more a b n = grind (arith, nat_tests)

eqb-mirror : (s p : ℕ) → eqb s p ≡ eqb (mirror s) (mirror p)
eqb-mirror s p =
    let back : mirror s ≡ mirror p → s ≡ p = mirror-same s p in
    let there : s ≡ p → mirror s ≡ mirror p = ap mirror in
    grind (arith, nat_tests, back, there)

list_any-run_big : (p s n : ℕ) → list_any (λ q. eqb q p) (run_big s n) ≡ (leb (mirror s) (mirror p) && ltb (mirror p) (mirror s + n))
list_any-run_big p s zero = grind (arith, nat_tests)
list_any-run_big p s (suc n) =
    ap (λ b. eqb s p || b) (list_any-run_big p (after_big s) n)
    ∙ (ap (λ m. eqb s p || (leb m (mirror p) && ltb (mirror p) (m + n))) (mirror-after_big s)
    ∙ (ap (λ b. b || (leb (mirror s + 1) (mirror p) && ltb (mirror p) (mirror s + 1 + n))) (eqb-mirror s p)
    ∙ run_more (mirror s) (mirror p) n))

list_any-run_of : (o : Order) (p start n : ℕ) → list_any (λ q. eqb q p) (run_of o start n) ≡ (leb (along o start) (along o p) && ltb (along o p) (along o start + n))
list_any-run_of Little p start n = list_any-range p start n
list_any-run_of Big p start n =
    list_any-IsPermutation (λ q. eqb q p) (reverse (run_big start n)) (run_big start n) (IsPermutation-sym (run_big start n) (reverse (run_big start n)) (IsPermutation-reverse (run_big start n)))
    ∙ list_any-run_big p start n

-- a signal's bits are the positions from its start on, along its order
pub uses_along : (s : SignalData) (p : ℕ) → uses s p ≡ (leb (along s.order s.start) (along s.order p) && ltb (along s.order p) (along s.order s.start + s.length))
unfolding bits_of
uses_along s p = list_any-run_of s.order p s.start s.length

pub length-bits_of : (s : SignalData) → length (bits_of s) ≡ s.length
unfolding bits_of
length-bits_of s = length-run_of s.order s.start s.length

pub get_or-bits_of : (s : SignalData) (i : ℕ) → i < s.length → get_or (bits_of s) i 0 ≡ place s.order s.start s.length i
unfolding bits_of
get_or-bits_of s i h = get_or-run_of s.order s.start s.length i h

-- no position stands twice among a signal's bits
pub bits_differ : (s : SignalData) (i j : ℕ) → i < length (bits_of s) → j < length (bits_of s) → get_or (bits_of s) i 0 ≡ get_or (bits_of s) j 0 → i ≡ j
bits_differ s i j hi hj e =
    let hi' : i < s.length = omega (arith, length-bits_of s) in
    let hj' : j < s.length = omega (arith, length-bits_of s) in
    place-same s.order s.start s.length i j hi' hj' (sym (get_or-bits_of s i hi') ∙ (e ∙ get_or-bits_of s j hj'))

-- no number stands twice in the list
abbrev pub Differ : List ℕ → Type 0
Differ qs = (i j : ℕ) → i < length qs → j < length qs → get_or qs i 0 ≡ get_or qs j 0 → i ≡ j

Differ-rest : (q : ℕ) (qs : List ℕ) → Differ (q ∷ qs) → Differ qs
Differ-rest q qs d i j hi hj e = omega (arith, d (suc i) (suc j) (omega arith) (omega arith) e)

list_any_at : (qs : List ℕ) (i : ℕ) → i < length qs → list_any (λ q. eqb q (get_or qs i 0)) qs ≡ true
list_any_at [] i h = absurd (omega arith)
list_any_at (q ∷ qs) zero h = grind (arith, nat_tests)
list_any_at (q ∷ qs) (suc i) h = grind (arith, nat_tests, list_any_at qs i (omega arith))

pub entry_of_none : (qs : List ℕ) (p : ℕ) → list_any (λ q. eqb q p) qs ≡ false → entry_of qs p ≡ None
entry_of_none [] p h = refl
entry_of_none (q ∷ qs) p h = none_else (eqb q p) (list_any (λ r. eqb r p) qs) (entry_of qs p) h (entry_of_none qs p)
  where
    none_else : (a b : Bool) (o : Option ℕ) → (a || b) ≡ false → (b ≡ false → o ≡ None) → cond a (Some 0) (option_map suc o) ≡ None
    none_else true b o h n = cc
    none_else false b o h n = ap (option_map suc) (n h)

pub entry_of_at : (qs : List ℕ) (i : ℕ) → Differ qs → i < length qs → entry_of qs (get_or qs i 0) ≡ Some i
entry_of_at [] i d h = absurd (omega arith)
entry_of_at (q ∷ qs) zero d h = ap (λ b. cond b (Some 0) (option_map suc (entry_of qs q))) ((Decides-eqb q q).1 refl)
entry_of_at (q ∷ qs) (suc i) d h =
    later (eqb q (get_or qs i 0)) (entry_of qs (get_or qs i 0)) i (λ e. absurd (omega (arith, d 0 (suc i) (omega arith) h ((Decides-eqb q (get_or qs i 0)).0 e))))
    (entry_of_at qs i (Differ-rest q qs d) (omega arith))
  where
    later : (a : Bool) (o : Option ℕ) (i : ℕ) → (a ≡ true → ⊥) → o ≡ Some i → cond a (Some 0) (option_map suc o) ≡ Some (suc i)
    later true o i n e = absurd (n refl)
    later false o i n e = ap (option_map suc) e

-- one entry more
entry_of-take : (qs : List ℕ) (i p : ℕ) → Differ qs → i < length qs → entry_of (take (suc i) qs) p ≡ cond (eqb (get_or qs i 0) p) (Some i) (entry_of (take i qs) p)
entry_of-take [] i p d h = absurd (omega arith)
entry_of-take (q ∷ qs) zero p d h = refl
entry_of-take (q ∷ qs) (suc i) p d h =
    ap (λ o. cond (eqb q p) (Some 0) (option_map suc o)) (entry_of-take qs i p (Differ-rest q qs d) (omega arith))
    ∙ swapped (eqb q p) (eqb (get_or qs i 0) p) (entry_of (take i qs) p) i (λ a b. absurd (omega (arith, d 0 (suc i) (omega arith) h ((Decides-eqb q p).0 a ∙ sym ((Decides-eqb (get_or qs i 0) p).0 b)))))
  where
    swapped : (a b : Bool) (o : Option ℕ) (i : ℕ) → (a ≡ true → b ≡ true → ⊥) → cond a (Some 0) (option_map suc (cond b (Some i) o)) ≡ cond b (Some (suc i)) (cond a (Some 0) (option_map suc o))
    swapped true true o i n = absurd (n refl refl)
    swapped true false o i n = refl
    swapped false true o i n = refl
    swapped false false o i n = refl

-- what a value of which these are the positions puts at p, over what is there
abbrev pub put_over : List ℕ → ℕ → ℕ → ℕ → ℕ
put_over qs v p old = option_map_or (bit_at v) (entry_of qs p) old

pub put_over-take : (qs : List ℕ) (v i p old : ℕ) → Differ qs → i < length qs → put_over (take (suc i) qs) v p old ≡ cond (eqb (get_or qs i 0) p) (bit_at v i) (put_over (take i qs) v p old)
put_over-take qs v i p old d h =
    ap (λ o. option_map_or (bit_at v) o old) (entry_of-take qs i p d h)
    ∙ at_last (eqb (get_or qs i 0) p) (entry_of (take i qs) p)
  where
    at_last : (b : Bool) (o : Option ℕ) → option_map_or (bit_at v) (cond b (Some i) o) old ≡ cond b (bit_at v i) (option_map_or (bit_at v) o old)
    at_last true o = refl
    at_last false o = refl

pub uses_at : (s : SignalData) (i : ℕ) → i < s.length → uses s (get_or (bits_of s) i 0) ≡ true
uses_at s i h = list_any_at (bits_of s) i (omega (arith, length-bits_of s))

pub not_true : (b : Bool) → ¬ IsTrue b → b ≡ false
not_true true n = absurd (n refl)
not_true false n = refl

put_over_none : (s : SignalData) (v p old : ℕ) → uses s p ≡ false → put_over (bits_of s) v p old ≡ old
put_over_none s v p old h = ap (λ o. option_map_or (bit_at v) o old) (entry_of_none (bits_of s) p h)

put_over_comm : (s t : SignalData) (v w p old : ℕ) → AreApart s t → put_over (bits_of s) v p (put_over (bits_of t) w p old) ≡ put_over (bits_of t) w p (put_over (bits_of s) v p old)
put_over_comm s t v w p old apart =
    elim (either (uses s p)) [
      | inl used ↦
          let free : uses t p ≡ false = not_true (uses t p) (apart p used) in
          ap (put_over (bits_of s) v p) (put_over_none t w p old free) ∙ sym (put_over_none t w p (put_over (bits_of s) v p old) free)
      | inr free ↦ put_over_none s v p (put_over (bits_of t) w p old) free ∙ ap (put_over (bits_of t) w p) (sym (put_over_none s v p old free))
    ]
  where
    either : (b : Bool) → (b ≡ true) ⊎ (b ≡ false)
    either true = inl refl
    either false = inr refl

-- the image of one signal more
pub image_bit-take : (signals : List SignalData) (values : List ℕ) (k p : ℕ) (d : SignalData) → AllPairs AreApart signals → k < length signals → k < length values →
    image_bit (take (suc k) signals) (take (suc k) values) p ≡ put_over (bits_of (get_or signals k d)) (get_or values k 0) p (image_bit (take k signals) (take k values) p)
image_bit-take [] values k p d apart hs hv = absurd (omega arith)
image_bit-take (s ∷ signals) [] k p d apart hs hv = absurd (omega arith)
image_bit-take (s ∷ signals) (v ∷ values) zero p d apart hs hv = refl
image_bit-take (s ∷ signals) (v ∷ values) (suc k) p d apart hs hv =
    ap (put_over (bits_of s) v p) (image_bit-take signals values k p d (λ i j e lo hi. apart (suc i) (suc j) e (omega arith) (omega arith)) (omega arith) (omega arith))
    ∙ put_over_comm s (get_or signals k d) v (get_or values k 0) p (image_bit (take k signals) (take k values) p) (apart zero (suc k) d (omega arith) hs)

-- the image has a value's bits where its signal has them
pub image_bit_at : (signals : List SignalData) (values : List ℕ) (k i : ℕ) (d : SignalData) → AllPairs AreApart signals → k < length signals → k < length values → i < (get_or signals k d).length →
    image_bit signals values (get_or (bits_of (get_or signals k d)) i 0) ≡ bit_at (get_or values k 0) i
image_bit_at [] values k i d apart hs hv hi = absurd (omega arith)
image_bit_at (s ∷ signals) [] k i d apart hs hv hi = absurd (omega arith)
image_bit_at (s ∷ signals) (v ∷ values) zero i d apart hs hv hi =
    ap (λ o. option_map_or (bit_at v) o (image_bit signals values (get_or (bits_of s) i 0))) (entry_of_at (bits_of s) i (bits_differ s) (omega (arith, length-bits_of s)))
image_bit_at (s ∷ signals) (v ∷ values) (suc k) i d apart hs hv hi =
    put_over_none s v (get_or (bits_of (get_or signals k d)) i 0) (image_bit signals values (get_or (bits_of (get_or signals k d)) i 0))
    (not_true (uses s (get_or (bits_of (get_or signals k d)) i 0)) (λ yes. apart zero (suc k) d (omega arith) hs (get_or (bits_of (get_or signals k d)) i 0) yes (uses_at (get_or signals k d) i hi)))
    ∙ image_bit_at signals values k i d (λ i j e lo hi. apart (suc i) (suc j) e (omega arith) (omega arith)) (omega arith) (omega arith) hi

-- the bits of a number, and the number of bits
pub bit_at-from_bits : (bs : List ℕ) (i : ℕ) → ((k : ℕ) → get_or bs k 0 < 2) → bit_at (from_bits bs) i ≡ get_or bs i 0
bit_at-from_bits [] i below = bit_at-zero i
bit_at-from_bits (b ∷ bs) zero below = bit_at_lowest (b + 2 * from_bits bs) ∙ omega (arith, below 0)
bit_at-from_bits (b ∷ bs) (suc i) below =
    bit_at-suc (b + 2 * from_bits bs) i
    ∙ (ap (λ n. bit_at n i) (omega (arith, below 0)) ∙ bit_at-from_bits bs i (λ k. below (suc k)))

pub from_bits_all : (bs : List ℕ) (v : ℕ) → v < 2 ^ length bs → ((i : ℕ) → i < length bs → get_or bs i 0 ≡ bit_at v i) → from_bits bs ≡ v
from_bits_all [] v below each = omega arith
from_bits_all (b ∷ bs) v below each =
    let lowest : b ≡ v % 2 = each 0 (omega arith) ∙ bit_at_lowest v in
    let rest : from_bits bs ≡ v / 2 = from_bits_all bs (v / 2) (omega (arith, pow-suc 2 (length bs))) (λ i h. each (suc i) (omega arith) ∙ bit_at-suc v i) in
    omega (arith, lowest, rest)

-- the signal's bits lie inside a payload where its last one along its order does
list_all-range : (a m n : ℕ) → list_all (λ p. ltb p m) (range_with_len a (suc n)) ≡ leb (a + suc n) m
list_all-range a m zero = grind (arith, nat_tests)
list_all-range a m (suc n) = ap (λ b. ltb a m && b) (list_all-range (a + 1) m n) ∙ range_more a m n
  where
    range_more : (a m n : ℕ) → (ltb a m && leb (a + 1 + suc n) m) ≡ leb (a + suc (suc n)) m
    range_more a m n = grind (arith, nat_tests)

list_all-reverse : (p : ℕ → Bool) (xs : List ℕ) → list_all p (reverse xs) ≡ list_all p xs
list_all-reverse p [] = refl
list_all-reverse p (x ∷ xs) =
    ap (list_all p) (reverse-append (x ∷ []) xs)
    ∙ (list_all-append p (reverse xs) (x ∷ [])
    ∙ (ap (λ b. b && (p x && true)) (list_all-reverse p xs) ∙ turned (list_all p xs) (p x)))
  where
    turned : (a b : Bool) → (a && (b && true)) ≡ (b && a)
    turned true true = refl
    turned true false = refl
    turned false true = refl
    turned false false = refl

mirror_within : (p m : ℕ) → ltb p (16 * m) ≡ ltb (mirror p) (16 * m)
mirror_within p m =
    let there : p < 16 * m → mirror p < 16 * m = λ h. omega arith in
    let back : mirror p < 16 * m → p < 16 * m = λ h. omega arith in
    grind (arith, nat_tests, there, back)

list_all-run_big : (s m n : ℕ) → list_all (λ p. ltb p (16 * m)) (run_big s (suc n)) ≡ leb (mirror s + suc n) (16 * m)
list_all-run_big s m zero = ap (λ b. b && true) (mirror_within s m) ∙ grind (arith, nat_tests)
list_all-run_big s m (suc n) =
    ap (λ b. ltb s (16 * m) && b) (list_all-run_big (after_big s) m n)
    ∙ (ap (λ b. b && leb (mirror (after_big s) + suc n) (16 * m)) (mirror_within s m)
    ∙ (ap (λ r. ltb (mirror s) (16 * m) && leb (r + suc n) (16 * m)) (mirror-after_big s)
    ∙ run_further (mirror s) (16 * m) n))
  where
    run_further : (a m n : ℕ) → (ltb a m && leb (a + 1 + suc n) m) ≡ leb (a + suc (suc n)) m
    run_further a m n = grind (arith, nat_tests)

list_all-run_of : (o : Order) (start m n : ℕ) → 1 ≤ n → list_all (λ p. ltb p (16 * m)) (run_of o start n) ≡ leb (along o start + n) (16 * m)
list_all-run_of o start m zero h = absurd (omega arith)
list_all-run_of Little start m (suc n) h = list_all-range start (16 * m) n
list_all-run_of Big start m (suc n) h = list_all-reverse (λ p. ltb p (16 * m)) (run_big start (suc n)) ∙ list_all-run_big start m n

pub lies_inside_along : (s : SignalData) (words : ℕ) → 1 ≤ s.length → lies_inside words s ≡ leb (along s.order s.start + s.length) (16 * words)
unfolding bits_of
lies_inside_along s words h = list_all-run_of s.order s.start words s.length h
