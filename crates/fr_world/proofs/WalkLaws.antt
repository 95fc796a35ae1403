-- The moments of the cycles gone through so far, slot by slot: they rise, and after all cycles they are the placements' moments.
use Rattle.std.proofs.Common.{◌≡◌, ℕ, ◌+◌, ◌-◌, ◌*◌, ◌<◌, ◌≤◌, true, false, length, get_or, take, List, [], ◌∷◌, max, Fits, w32, Option, Some, None, refl, sym, ap, subst, ◌∙◌, ◌⊎◌, inl, inr, arith}
use Rattle.std.specs.List.{All, Contains, slice_get}
use Rattle.std.specs.List.Sorted.{IsNonDecreasingBy, IsPermutation}
use Rattle.std.proofs.Math.Nat.{mul-le-mul_right}
use Rattle.std.specs.Prelude.{IfSome}
use Rattle.std.proofs.lemmas.Bool.{true≢false, cases_lt}
use Rattle.std.proofs.lemmas.List.{take_more, take_all, get_or-take, get_or_default, length-take-le}
use Rattle.std.proofs.lemmas.List.Elements.{All-contains, Contains-append_left, Contains-push, Contains-push_cases}
use Rattle.std.proofs.lemmas.List.Sorted.{All-permutation, Contains-permutation, IsPermutation-sym}
use Rattle.fr_base.specs.Cycles.{has_cycle}
use Rattle.fr_base.specs.Moments.{gaps, greatest_gap, moments, ring}
use Rattle.fr_base.specs.Parameters.{segments}
use Rattle.fr_base.specs.Sound.{FitsCluster}
use Rattle.fr_base.specs.declared.params.Params.{Params}
use Rattle.fr_base.specs.declared.placement.Placement.{Placement}
use Rattle.fr_base.proofs.CycleLemmas.{below-has_cycle}
use Rattle.fr_world.specs.declared.gap.Moments.{Moments}
use Rattle.fr_world.proofs.GapLaws.{Keeps, Keeps-greatest, Keeps-last, Keeps-more, Keeps-none, Keeps-same, kept_with}
use Rattle.fr_world.proofs.AmongLaws.{In, In-Contains, Contains-In}
use Rattle.fr_world.proofs.MomentLaws.{IsSent, moment_at, In-moments, moments-In}

-- a placement is sent in a cycle before this one, or is one of the first few and is sent in this one
pub record IsSeen (p : Params) (qs : List Placement) (cycle few x : ℕ) : Type 0 where
  pub placement : Placement
  pub at : ℕ
  pub sent : IsSent p placement at x
  pub before : ((at < cycle) × Contains qs placement) ⊎ ((at ≡ cycle) × Contains (take few qs) placement)

-- at the start none
pub IsSeen-none : (p : Params) (qs : List Placement) (x : ℕ) → IsSeen p qs 0 0 x → ⊥
IsSeen-none p qs x seen = elim seen.before [
  | inl low ↦ let less = low.0 in absurd (omega (arith, less))
  | inr here ↦ let less = here.1.1 in absurd (omega (arith, less))
]

-- one more placement of the cycle
IsSeen-kept : (p : Params) (qs : List Placement) (k i x : ℕ) (q : Placement) → i < length qs → q ≡ get_or qs i q → IsSeen p qs k i x → IsSeen p qs k (i + 1) x
IsSeen-kept p qs k i x q inside is seen = record {
  placement = seen.placement;
  at = seen.at;
  sent = seen.sent;
  before = elim seen.before [
    | inl low ↦ inl low
    | inr here ↦ inr (here.0, subst (λ rs. Contains rs seen.placement) (sym (take_more qs i q inside)) (Contains-append_left (take i qs) (get_or qs i q ∷ []) seen.placement here.1))
  ];
}

IsSeen-more_cases : (p : Params) (qs : List Placement) (k i x : ℕ) (q : Placement) → i < length qs → q ≡ get_or qs i q → IsSeen p qs k (i + 1) x → IsSeen p qs k i x ⊎ IsSent p q k x
IsSeen-more_cases p qs k i x q inside is seen = elim seen.before [
  | inl low ↦ inl (record { placement = seen.placement; at = seen.at; sent = seen.sent; before = inl low })
  | inr here ↦ elim (Contains-push_cases (take i qs) (get_or qs i q) seen.placement (subst (λ rs. Contains rs seen.placement) (take_more qs i q inside) here.1)) [
    | inl old ↦ inl (record { placement = seen.placement; at = seen.at; sent = seen.sent; before = inr (here.0, old) })
    | inr new ↦ inr (subst (λ r. IsSent p r k x) (sym (is ∙ new)) (subst (λ j. IsSent p seen.placement j x) here.0 seen.sent))
  ]
]

-- what is kept of the moments gone through so far
abbrev pub Sees : Params → List Placement → ℕ → ℕ → Option Moments → Type 0
Sees p qs k i met = Keeps (IsSeen p qs k i) met

pub Sees-none : (p : Params) (qs : List Placement) → Sees p qs 0 0 None
Sees-none p qs = IsSeen-none p qs

-- after a placement that is not sent in the cycle
pub Sees-skip : (p : Params) (qs : List Placement) (k i : ℕ) (q : Placement) (met : Option Moments) → i < length qs → q ≡ get_or qs i q → has_cycle q.cycles k ≡ false → Sees p qs k i met → Sees p qs k (i + 1) met
Sees-skip p qs k i q met inside is off sees =
    Keeps-same (IsSeen p qs k i) (IsSeen p qs k (i + 1)) met
    (λ x seen. IsSeen-kept p qs k i x q inside is seen)
    (λ x seen. elim (IsSeen-more_cases p qs k i x q inside is seen) [ inl old ↦ old | inr sent ↦ absurd (true≢false (sym sent.cycle ∙ off)) ])
    sees

-- after the last placement of the cycle
pub Sees-cycle : (p : Params) (qs : List Placement) (k n : ℕ) (met : Option Moments) → n ≡ length qs → Sees p qs k n met → Sees p qs (k + 1) 0 met
Sees-cycle p qs k n met all sees =
    let whole : take n qs ≡ qs = take_all n qs (omega arith) in
    Keeps-same (IsSeen p qs k n) (IsSeen p qs (k + 1) 0) met
    (λ x seen. record {
      placement = seen.placement;
      at = seen.at;
      sent = seen.sent;
      before = elim seen.before [
        | inl low ↦ let less = low.0 in inl (omega (arith, less), low.1)
        | inr here ↦ let same = here.0 in inl (omega (arith, same), subst (λ rs. Contains rs seen.placement) whole here.1)
      ];
    })
    (λ x seen. record {
      placement = seen.placement;
      at = seen.at;
      sent = seen.sent;
      before = elim seen.before [
        | inl low ↦ elim (cases_lt seen.at k) [
          | inl less ↦ inl (less, low.1)
          | inr more ↦ let less = low.0 in inr (omega (arith, less), subst (λ rs. Contains rs seen.placement) (sym whole) low.1)
        ]
        | inr none ↦ let less = none.1.1 in absurd (omega (arith, less))
      ];
    })
    sees

-- ---- the moments rise

-- what the parameters promise, and placements that fit them in rising order of their slots
pub record AreRising (p : Params) (qs : List Placement) : Type 0 where
  pub sum : segments p ≡ p.macroticks_per_cycle
  pub some : 1 ≤ p.slot_macroticks
  pub fits : All (FitsCluster p) qs
  pub rising : IsNonDecreasingBy (λ q. q.slot) qs

-- they are the same placements in another order
pub AreRising-from : (p : Params) (ps qs : List Placement) (cycle_length slot_length : ℕ) → cycle_length ≡ p.macroticks_per_cycle → segments p ≡ cycle_length → slot_length ≡ p.slot_macroticks → 1 ≤ slot_length →
    All (FitsCluster p) ps → IsPermutation ps qs → IsNonDecreasingBy (λ q. q.slot) qs → AreRising p qs
AreRising-from p ps qs cycle_length slot_length is_length sum is_slot some fits moved rising = record {
  sum = sum ∙ is_length;
  some = omega (arith, is_slot, some);
  fits = All-permutation (FitsCluster p) ps qs moved fits;
  rising = rising;
}

-- the placement that is gone to next fits, and its slot starts within the cycle
pub fits_at : (p : Params) (qs : List Placement) (i : ℕ) (q : Placement) → AreRising p qs → i < length qs → q ≡ get_or qs i q → FitsCluster p q
fits_at p qs i q are inside is = subst (FitsCluster p) (sym is) (are.fits i q inside)

-- a slot starts within its cycle
pub starts_within : (p : Params) (q : Placement) → segments p ≡ p.macroticks_per_cycle → 1 ≤ p.slot_macroticks → FitsCluster p q → (q.slot - 1) * p.slot_macroticks < p.macroticks_per_cycle
starts_within p q sum some fits =
    let from_one = fits.from_one in
    let next : q.slot ≡ (q.slot - 1) + 1 = omega arith in
    let product = ap (λ n. n * p.slot_macroticks) next in
    let most = mul-le-mul_right p.slot_macroticks fits.to_last in
    omega (arith, product, most)

-- these numbers are small
pub slot_fits : (p : Params) (q : Placement) (cycle_length slot_length n : ℕ) → {qs : List Placement} → AreRising p qs → FitsCluster p q → cycle_length ≡ p.macroticks_per_cycle → cycle_length ≤ 16000 → slot_length ≡ p.slot_macroticks → n ≡ q.slot →
    Fits w32 ((n - 1) * slot_length)
slot_fits p q cycle_length slot_length n are fits is_length few is_slot is =
    let same : (n - 1) * slot_length ≡ (q.slot - 1) * p.slot_macroticks = λ i. (is i - 1) * is_slot i in
    omega (arith, same, is_length, few, starts_within p q are.sum are.some fits)

pub moment_fits : (p : Params) (q : Placement) (k cycle_length slot_length n : ℕ) → {qs : List Placement} → AreRising p qs → FitsCluster p q → k < 64 → cycle_length ≡ p.macroticks_per_cycle → cycle_length ≤ 16000 → slot_length ≡ p.slot_macroticks → n ≡ q.slot →
    Fits w32 (k * cycle_length + (n - 1) * slot_length)
moment_fits p q k cycle_length slot_length n are fits low is_length few is_slot is =
    let same : (n - 1) * slot_length ≡ (q.slot - 1) * p.slot_macroticks = λ i. (is i - 1) * is_slot i in
    let most : k ≤ 63 = omega arith in
    omega (arith, same, is_length, few, mul-le-mul_right cycle_length most, starts_within p q are.sum are.some fits)

-- a moment of an earlier cycle is before this cycle
earlier_cycle : (p : Params) (q : Placement) (j k x : ℕ) → (q.slot - 1) * p.slot_macroticks < p.macroticks_per_cycle → IsSent p q j x → j < k → x < k * p.macroticks_per_cycle
earlier_cycle p q j k x within sent low =
    let next : j + 1 ≤ k = omega arith in
    let at = sent.at in
    omega (arith, at, mul-le-mul_right p.macroticks_per_cycle next)

-- the slots before are not greater
slot_before : (qs : List Placement) (i : ℕ) (q r : Placement) → IsNonDecreasingBy (λ q. q.slot) qs → i < length qs → q ≡ get_or qs i q → Contains (take i qs) r → r.slot ≤ q.slot
slot_before qs i q r rising inside is (j, low, here) =
    let short : j < i = omega (arith, low, length-take-le i qs (omega arith)) in
    let there : get_or qs j r ≡ r = sym (get_or-take i qs j r short) ∙ here in
    let same : q ≡ get_or qs i r = is ∙ get_or_default qs i q r inside in
    omega (arith, rising j i r (omega arith) inside, ap (λ (t : Placement). t.slot) there, ap (λ (t : Placement). t.slot) same)

seen_below : (p : Params) (qs : List Placement) (k i x : ℕ) (q : Placement) → AreRising p qs → i < length qs → q ≡ get_or qs i q → IsSeen p qs k i x → x ≤ moment_at p k q.slot
seen_below p qs k i x q are inside is seen =
    elim seen.before [
      | inl low ↦
          let within = starts_within p seen.placement are.sum are.some (All-contains (FitsCluster p) qs seen.placement are.fits low.1) in
          omega (arith, earlier_cycle p seen.placement seen.at k x within seen.sent low.0)
      | inr here ↦
          let slots = slot_before qs i q seen.placement are.rising inside is here.1 in
          let steps : seen.placement.slot - 1 ≤ q.slot - 1 = omega (arith, slots) in
          let at = (subst (λ j. IsSent p seen.placement j x) here.0 seen.sent).at in
          omega (arith, at, mul-le-mul_right p.slot_macroticks steps)
    ]

-- the last moment is not after that of the next placement
pub Sees-last : (p : Params) (qs : List Placement) (k i at : ℕ) (q : Placement) (met : Option Moments) → AreRising p qs → i < length qs → q ≡ get_or qs i q → at ≡ moment_at p k q.slot →
    Sees p qs k i met → IfSome met (λ m. m.last ≤ at)
Sees-last p qs k i at q met are inside is here sees = Keeps-last (IsSeen p qs k i) met at (λ x seen. omega (arith, seen_below p qs k i x q are inside is seen)) sees

-- after a placement that is sent in the cycle
pub Sees-more : (p : Params) (qs : List Placement) (k i at : ℕ) (q : Placement) (met : Option Moments) → AreRising p qs → i < length qs → q ≡ get_or qs i q → at ≡ moment_at p k q.slot → has_cycle q.cycles k ≡ true →
    Sees p qs k i met → Sees p qs k (i + 1) (Some (kept_with at met))
Sees-more p qs k i at q met are inside is here on sees =
    Keeps-more (IsSeen p qs k i) (IsSeen p qs k (i + 1)) met at
    (λ x seen. omega (arith, seen_below p qs k i x q are inside is seen))
    (λ x seen. IsSeen-kept p qs k i x q inside is seen)
    (record {
      placement = get_or qs i q;
      at = k;
      sent = subst (λ r. IsSent p r k at) is (record { cycle = on; at = here });
      before = inr (refl, subst (λ rs. Contains rs (get_or qs i q)) (sym (take_more qs i q inside)) (Contains-push (take i qs) (get_or qs i q)));
    })
    (λ x seen. elim (IsSeen-more_cases p qs k i x q inside is seen) [ inl old ↦ inl old | inr sent ↦ inr (sent.at ∙ sym here) ])
    sees

-- ---- after all cycles

-- these are the placements' moments
seen-In : (p : Params) (ps qs : List Placement) (x : ℕ) → IsPermutation ps qs → IsSeen p qs p.cycles 0 x → In x (moments p ps)
seen-In p ps qs x moved seen = elim seen.before [
  | inl low ↦ In-moments p ps seen.placement seen.at x (In-Contains seen.placement ps (Contains-permutation qs ps seen.placement (IsPermutation-sym ps qs moved) low.1)) seen.sent
  | inr none ↦ let less = none.1.1 in absurd (omega (arith, less))
]

In-seen : (p : Params) (ps qs : List Placement) (x : ℕ) → AreRising p qs → IsPermutation ps qs → In x (moments p ps) → IsSeen p qs p.cycles 0 x
In-seen p ps qs x are moved i =
    let found = moments-In p ps x i in
    let there = Contains-permutation ps qs found.0 moved (Contains-In found.0 ps found.2) in
    let fits = All-contains (FitsCluster p) qs found.0 are.fits there in
    record {
      placement = found.0;
      at = found.1;
      sent = found.3;
      before = inl (omega (arith, below-has_cycle found.0.cycles found.1 found.3.cycle, fits.count), there);
    }

pub Sees-end : (p : Params) (qs : List Placement) (k : ℕ) (met end : Option Moments) → k ≡ p.cycles → met ≡ end → Sees p qs k 0 met → Sees p qs p.cycles 0 end
Sees-end p qs k met end last is sees = subst (λ j. Sees p qs j 0 end) last (subst (λ m. Sees p qs k 0 m) is sees)

-- they lie on the ring
pub Sees-inside : (p : Params) (qs : List Placement) (m : Moments) → AreRising p qs → Sees p qs p.cycles 0 (Some m) → (m.first ≤ m.last) × (m.last ≤ p.cycles * p.macroticks_per_cycle)
Sees-inside p qs m are met =
    let last = met.last in (
      (met.within m.last last).0,
      elim last.before [
        | inl low ↦
            let within = starts_within p last.placement are.sum are.some (All-contains (FitsCluster p) qs last.placement are.fits low.1) in
            omega (arith, earlier_cycle p last.placement last.at p.cycles m.last within last.sent low.0)
        | inr none ↦ let less = none.1.1 in absurd (omega (arith, less))
      ],
    )

pub Sees-greatest : (p : Params) (ps qs : List Placement) (m : Moments) → IsPermutation ps qs → AreRising p qs → Sees p qs p.cycles 0 (Some m) →
    greatest_gap p ps ≡ Some (max m.step ((p.cycles * p.macroticks_per_cycle - m.last) + m.first))
unfolding greatest_gap ring
Sees-greatest p ps qs m moved are met =
    Keeps-greatest (p.cycles * p.macroticks_per_cycle) (moments p ps) m (Sees-inside p qs m are met).1
    (Keeps-same (IsSeen p qs p.cycles 0) (λ x. In x (moments p ps)) (Some m) (λ x seen. seen-In p ps qs x moved seen) (λ x i. In-seen p ps qs x are moved i) met)

pub Sees-nothing : (p : Params) (ps qs : List Placement) → AreRising p qs → IsPermutation ps qs → Sees p qs p.cycles 0 None → greatest_gap p ps ≡ None
unfolding greatest_gap
Sees-nothing p ps qs are moved none = Keeps-none (ring p) (moments p ps) (λ x i. none x (In-seen p ps qs x are moved i))

-- nothing is placed
pub greatest_gap-nil : (p : Params) (ps : List Placement) → None ≡ slice_get ps 0 → greatest_gap p ps ≡ None
unfolding greatest_gap moments gaps
greatest_gap-nil p [] empty = refl
greatest_gap-nil p (q ∷ qs) empty = cc
