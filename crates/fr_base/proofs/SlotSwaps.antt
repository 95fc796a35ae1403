-- The cells of several slots are one row: of slots below w, cell c * w + s is cycle c of slot s. So what holds of classes of a row holds of places, a slot and
-- a base each: it does not matter which free place the first of some repetitions gets, where it divides the others.
use Rattle.std.proofs.Common.{◌≡◌, ◌<◌, ◌+◌, ◌*◌, ◌/◌, ◌%◌, ◌∙◌, ℕ, zero, suc, List, [], ◌∷◌, map, sym, ap, subst, arith}
use Rattle.std.proofs.lemmas.Nat.{mul-add-lt, mod_below, div-add-mod', div_below, div-mul-add, mod-mul-add, same_from_place}
use Rattle.fr_base.proofs.ClassSwaps.{Fits, Beside, DividesEach, exchange, multiple}

-- each of the place's cycles is a good one of its slot
abbrev pub HasGoodCycles : ℕ → (ℕ → ℕ → Type 0) → ℕ → ℕ × ℕ → Type 0
HasGoodCycles n Good r p = (c : ℕ) → c < n → c % r ≡ p.1 → Good p.0 c

-- a good cycle of a slot, and none of the place's
abbrev pub BesidePlace : (ℕ → ℕ → Type 0) → ℕ → ℕ × ℕ → ℕ → ℕ → Type 0
BesidePlace Good r p s c = Good s c × ¬ ((s ≡ p.0) × (c % r ≡ p.1))

-- the places fit: one for each repetition, its slot below w and its base below the repetition, all of whose cycles are good, none of them in a place before
abbrev pub FitsIn : ℕ → ℕ → (ℕ → ℕ → Type 0) → List ℕ → List (ℕ × ℕ) → Type 0
FitsIn w n Good [] [] = Unit {0}
FitsIn w n Good [] (p ∷ ps) = ⊥
FitsIn w n Good (r ∷ rs) [] = ⊥
FitsIn w n Good (r ∷ rs) (p ∷ ps) = (p.0 < w) × (p.1 < r) × (HasGoodCycles n Good r p) × (FitsIn w n (BesidePlace Good r p) rs ps)

-- each repetition is above 0
abbrev pub ArePositive : List ℕ → Type 0
ArePositive [] = Unit {0}
ArePositive (r ∷ rs) = (0 < r) × ArePositive rs

-- ---- where a cell lies in its class

spread : (q r w l m : ℕ) → (q * r + m) * w + l ≡ q * (r * w) + (m * w + l)
spread q r w l m = omega arith

regrouped : (q r w l m c : ℕ) → q * r + m ≡ c → c * w + l ≡ q * (r * w) + (m * w + l)
regrouped q r w l m c e = ap (λ n. n * w + l) (sym e) ∙ spread q r w l m

turned : (m w l r : ℕ) → m * w + l < w * r → m * w + l < r * w
turned m w l r h = omega arith

place_in_class : (w r c l : ℕ) → 0 < r → l < w → (c * w + l) % (r * w) ≡ c % r * w + l
place_in_class w r c l z h =
    ap (λ n. n % (r * w)) (regrouped (c / r) r w l (c % r) c (div-add-mod' c r))
    ∙ mod-mul-add (c / r) (r * w) (c % r * w + l) (turned (c % r) w l r (mul-add-lt (c % r) w l r (mod_below c r z) h))

-- cycle c of slot s lies in the row
within_row : (w n c s : ℕ) → c < n → s < w → c * w + s < n * w
within_row w n c s p q = turned c w s n (mul-add-lt c w s n p q)

-- ---- repetitions of the row

abbrev times : ℕ → List ℕ → List ℕ
times w rs = map (λ r. r * w) rs

abbrev place_of : ℕ → ℕ → ℕ × ℕ
place_of w b = (b % w, b / w)

abbrev base_of : ℕ → ℕ × ℕ → ℕ
base_of w p = p.1 * w + p.0

above_zero : (r w : ℕ) → 0 < r → 0 < w → 0 < r * w
above_zero zero w p q = absurd (omega arith)
above_zero (suc r) zero p q = absurd (omega arith)
above_zero (suc r) (suc w) p q = omega arith

thrice : (k r w : ℕ) → (k * r) * w ≡ k * (r * w) + 0
thrice k r w = omega arith

whole_times : (k r w m : ℕ) → k * r ≡ m → m * w ≡ k * (r * w) + 0
whole_times k r w m e = ap (λ n. n * w) (sym e) ∙ thrice k r w

divides_times : (m r w : ℕ) → 0 < r → 0 < w → m % r ≡ 0 → (m * w) % (r * w) ≡ 0
divides_times m r w p q d =
    ap (λ n. n % (r * w)) (whole_times (m / r) r w m (multiple m r d)) ∙ mod-mul-add (m / r) (r * w) 0 (above_zero r w p q)

each_times : (r w : ℕ) (ms : List ℕ) → 0 < r → 0 < w → DividesEach r ms → DividesEach (r * w) (times w ms)
each_times r w [] p q h = tt
each_times r w (m ∷ ms) p q h = (divides_times m r w p q h.0, each_times r w ms p q h.1)

-- ---- what fits in the row fits in the slots, and the other way round

to_slots : (w n : ℕ) → 0 < w → (P : ℕ → Type 0) (Good : ℕ → ℕ → Type 0) → ((s c : ℕ) → s < w → c < n → P (c * w + s) → Good s c) → (rs : List ℕ) → ArePositive rs → (bs : List ℕ) → Fits (n * w) P (times w rs) bs → FitsIn w n Good rs (map (place_of w) bs)
to_slots w n z P Good f [] pos [] h = tt
to_slots w n z P Good f [] pos (b ∷ bs) h = h
to_slots w n z P Good f (r ∷ rs) pos [] h = h
to_slots w n z P Good f (r ∷ rs) pos (b ∷ bs) h =
    let s = b % w in
    let a = b / w in
    let less : s < w = mod_below b w z in
    let whole : a * w + s ≡ b = div-add-mod' b w in (
      less,
      div_below b w r z h.0,
      (λ c q k. f s c less q
          (h.1 (c * w + s) (within_row w n c s q less)
          (place_in_class w r c s pos.0 less ∙ (ap (λ m. m * w + s) k ∙ whole)))),
      to_slots w n z (Beside P (r * w) b) (BesidePlace Good r (place_of w b))
          (λ t c q l pc. (
            f t c q l pc.0,
            λ same. pc.1
                (place_in_class w r c t pos.0 q ∙ (ap (λ m. m * w + t) same.1 ∙ (ap (λ m. a * w + m) same.0 ∙ whole))),
          ))
          rs pos.1 bs h.2,
    )

to_row : (w n : ℕ) → 0 < w → (P : ℕ → Type 0) (Good : ℕ → ℕ → Type 0) → ((s c : ℕ) → s < w → c < n → Good s c → P (c * w + s)) → (rs : List ℕ) → ArePositive rs → (ps : List (ℕ × ℕ)) → FitsIn w n Good rs ps → Fits (n * w) P (times w rs) (map (base_of w) ps)
to_row w n z P Good f [] pos [] h = tt
to_row w n z P Good f [] pos (p ∷ ps) h = h
to_row w n z P Good f (r ∷ rs) pos [] h = h
to_row w n z P Good f (r ∷ rs) pos (p ∷ ps) h = (
  within_row w r p.1 p.0 h.1 h.0,
  (λ i q k.
      let s = i % w in
      let c = i / w in
      let less : s < w = mod_below i w z in
      let whole : c * w + s ≡ i = div-add-mod' i w in
      let k2 : c % r * w + s ≡ p.1 * w + p.0 = sym (place_in_class w r c s pos.0 less) ∙ (ap (λ m. m % (r * w)) whole ∙ k) in
      let x = same_from_place (c % r) s p.1 p.0 w less h.0 k2 in
      let in_n : c < n = div_below i w n z q in
      subst P whole (f s c less in_n (subst (λ t. Good t c) (sym x.1) (h.2 c in_n x.0)))),
  to_row w n z (Beside P (r * w) (base_of w p)) (BesidePlace Good r p)
      (λ t c q l pc. (
        f t c q l pc.0,
        λ k. pc.1
            (let x = same_from_place (c % r) t p.1 p.0 w q h.0 (sym (place_in_class w r c t pos.0 q) ∙ k) in
            (x.1, x.0)),
      ))
      rs pos.1 ps h.3,
)

-- ---- whichever free place the first repetition gets, the others fit if they did beside another

module _ (w n : ℕ) (z : 0 < w) (Good : ℕ → ℕ → Type 0) where
  -- the good cells of the row
  abbrev InRow : ℕ → Type 0
  InRow i = Good (i % w) (i / w)

  at_cell : (s c : ℕ) → s < w → Good s c → InRow (c * w + s)
  at_cell s c less h = subst (λ m. Good m ((c * w + s) / w)) (sym (mod-mul-add c w s less)) (subst (Good s) (sym (div-mul-add c w s less)) h)

  from_cell : (s c : ℕ) → s < w → InRow (c * w + s) → Good s c
  from_cell s c less h = subst (Good s) (div-mul-add c w s less) (subst (λ m. Good m ((c * w + s) / w)) (mod-mul-add c w s less) h)

  pub other_place : (r : ℕ) → 0 < r → n % r ≡ 0 → (p : ℕ × ℕ) → p.0 < w → p.1 < r → HasGoodCycles n Good r p → (rs : List ℕ) → ArePositive rs → DividesEach r rs →
      (ps : List (ℕ × ℕ)) → FitsIn w n Good (r ∷ rs) ps → (qs : List (ℕ × ℕ)) × FitsIn w n (BesidePlace Good r p) rs qs
  other_place r above divides p slot base good rs pos each ps fits =
      let one = to_row w n z InRow Good (λ s c less below h. at_cell s c less h) (r ∷ []) (above, tt) (p ∷ []) (slot, base, good, tt) in
      let row = to_row w n z InRow Good (λ s c less below h. at_cell s c less h) (r ∷ rs) (above, pos) ps fits in
      let moved = exchange (n * w) (r * w) (base_of w p) (above_zero r w above z) (divides_times n r w above z divides) one.0 InRow one.1 (times w rs) (each_times r w rs above z each) (map (base_of w) ps) row in (
        map (place_of w) moved.0,
        to_slots w n z (Beside InRow (r * w) (base_of w p)) (BesidePlace Good r p)
            (λ s c less below h. (
              from_cell s c less h.0,
              λ same. h.1 (place_in_class w r c s above less ∙ (ap (λ m. m * w + s) same.1 ∙ ap (λ m. p.1 * w + m) same.0)),
            ))
            rs pos moved.0 moved.1,
      )
