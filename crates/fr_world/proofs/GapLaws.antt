-- The greatest gap of some moments: by which numbers are among them, and as they are met in rising order.
use Rattle.std.proofs.Common.{◌≡◌, ℕ, ◌+◌, ◌-◌, ◌<◌, ◌≤◌, min, max, List, [], ◌∷◌, map, Option, Some, None, refl, sym, ap, ◌∙◌, ◌⊎◌, inl, inr, arith}
use Rattle.std.specs.List.{filter_map}
use Rattle.std.specs.Option.{option_map_or}
use Rattle.std.specs.Prelude.{IfSome}
use Rattle.std.proofs.lemmas.Bool.{cases_lt, lt-ltb, le-ltb}
use Rattle.fr_base.specs.Moments.{distance, least, greatest, gaps}
use Rattle.fr_world.specs.declared.gap.Moments.{Moments}
use Rattle.fr_world.proofs.AmongLaws.{In, In-map, map-In, In-filter_map, filter_map-In}

-- ---- the least and the greatest

record IsLeast (ns : List ℕ) (l : ℕ) : Type 0 where
  is : least ns ≡ Some l
  among : In l ns
  below : (x : ℕ) → In x ns → l ≤ x

least-cons : (n l : ℕ) (ns : List ℕ) → least ns ≡ Some l → least (n ∷ ns) ≡ Some (min n l)
least-cons n l ns e = rw e refl

least-is : (n : ℕ) (ns : List ℕ) → (l : ℕ) × IsLeast (n ∷ ns) l
least-is n [] = (n, record { is = refl; among = inl refl; below = λ x i. elim i [ inl e ↦ omega arith | inr none ↦ absurd none ] })
least-is n (m ∷ ns) =
    let rest = least-is m ns in
    let is = least-cons n rest.0 (m ∷ ns) rest.1.is in
    elim (cases_lt n rest.0) [
      | inl less ↦
          (n, record { is = is ∙ ap Some (omega arith); among = inl refl; below = λ x i. elim i [ inl e ↦ omega arith | inr j ↦ omega (arith, rest.1.below x j) ] })
      | inr more ↦
          (rest.0, record { is = is ∙ ap Some (omega arith); among = inr rest.1.among; below = λ x i. elim i [ inl e ↦ omega arith | inr j ↦ rest.1.below x j ] })
    ]

record IsGreatest (ns : List ℕ) (g : ℕ) : Type 0 where
  is : greatest ns ≡ Some g
  among : In g ns
  above : (x : ℕ) → In x ns → x ≤ g

greatest-cons : (n g : ℕ) (ns : List ℕ) → greatest ns ≡ Some g → greatest (n ∷ ns) ≡ Some (max n g)
greatest-cons n g ns e = rw e refl

greatest-is : (n : ℕ) (ns : List ℕ) → (g : ℕ) × IsGreatest (n ∷ ns) g
greatest-is n [] = (n, record { is = refl; among = inl refl; above = λ x i. elim i [ inl e ↦ omega arith | inr none ↦ absurd none ] })
greatest-is n (m ∷ ns) =
    let rest = greatest-is m ns in
    let is = greatest-cons n rest.0 (m ∷ ns) rest.1.is in
    elim (cases_lt n rest.0) [
      | inl less ↦
          (rest.0, record { is = is ∙ ap Some (omega arith); among = inr rest.1.among; above = λ x i. elim i [ inl e ↦ omega arith | inr j ↦ rest.1.above x j ] })
      | inr more ↦
          (n, record { is = is ∙ ap Some (omega arith); among = inl refl; above = λ x i. elim i [ inl e ↦ omega arith | inr j ↦ omega (arith, rest.1.above x j) ] })
    ]

greatest-in : (ns : List ℕ) (n : ℕ) → In n ns → (g : ℕ) × IsGreatest ns g
greatest-in [] n i = absurd i
greatest-in (m ∷ ns) n i = greatest-is m ns

-- ---- the greatest gap

-- how long it is from a moment to the next one
record IsNext (length : ℕ) (moments : List ℕ) (from near : ℕ) : Type 0 where
  is : least (map (distance length from) moments) ≡ Some near
  to : (y : ℕ) × In y moments × (distance length from y ≡ near)
  below : (y : ℕ) → In y moments → near ≤ distance length from y

next-is : (length : ℕ) (moments : List ℕ) (from : ℕ) → In from moments → (near : ℕ) × IsNext length moments from near
next-is length [] from i = absurd i
next-is length (m ∷ ms) from i =
    let found = least-is (distance length from m) (map (distance length from) ms) in (
      found.0,
      record {
        is = found.1.is;
        to = map-In (distance length from) found.0 (m ∷ ms) found.1.among;
        below = λ y j. found.1.below (distance length from y) (In-map (distance length from) y (m ∷ ms) j);
      },
    )

-- a gap is the greatest one where it is from some moment to each, and from each moment another is no further
greatest-gaps : (length gap x : ℕ) (moments : List ℕ) → In x moments → ((y : ℕ) → In y moments → gap ≤ distance length x y) →
    ((z : ℕ) → In z moments → (y : ℕ) × In y moments × (distance length z y ≤ gap)) → greatest (gaps length moments) ≡ Some gap
unfolding gaps
greatest-gaps length gap x moments here far near =
    let after : ℕ → Option ℕ = λ from. least (map (distance length from) moments) in
    let mine = next-is length moments x here in
    let gapped = In-filter_map after x mine.0 moments here mine.1.is in
    let best = greatest-in (filter_map after moments) mine.0 gapped in
    let from = filter_map-In after best.0 moments best.1.among in
    let its = next-is length moments from.0 from.1 in
    let same : Some its.0 ≡ Some best.0 = sym its.1.is ∙ from.2 in
    let equal : its.0 ≡ best.0 = cc in
    let step = near from.0 from.1 in
    let up : mine.0 ≤ best.0 = best.1.above mine.0 gapped in
    let low : its.0 ≤ distance length from.0 step.0 = its.1.below step.0 step.1 in
    let high : gap ≤ distance length x mine.1.to.0 = far mine.1.to.0 mine.1.to.1 in
    best.1.is ∙ ap Some (omega (arith, equal, step.2, up, low, high, mine.1.to.2))

-- ---- from a moment to another

distance-up : (length from to : ℕ) → from < to → distance length from to ≡ to - from
distance-up length from to h = rw (lt-ltb from to h) refl

distance-round : (length from to : ℕ) → to ≤ from → distance length from to ≡ (length - from) + to
distance-round length from to h = rw (le-ltb from to h) refl

-- ---- moments that are met in rising order

-- of some moments the first, the last, and the greatest step from one to the next
pub record IsMet (M : ℕ → Type 0) (m : Moments) : Type 0 where
  pub first : M m.first
  pub last : M m.last
  pub within : (x : ℕ) → M x → (m.first ≤ x) × (x ≤ m.last)
  pub reached : (x : ℕ) → M x → (x ≡ m.last) ⊎ ((y : ℕ) × M y × (x < y) × (y ≤ x + m.step))
  pub wide : (m.step ≡ 0) ⊎ ((x : ℕ) × M x × (x + m.step ≤ m.last) × ((y : ℕ) → M y → (y ≤ x) ⊎ (x + m.step ≤ y)))

-- what is kept of the moments
abbrev pub Keeps : (ℕ → Type 0) → Option Moments → Type 0
Keeps M None = (x : ℕ) → M x → ⊥
Keeps M (Some m) = IsMet M m

-- it is the same for the same moments
pub Keeps-same : (M N : ℕ → Type 0) (o : Option Moments) → ((x : ℕ) → M x → N x) → ((x : ℕ) → N x → M x) → Keeps M o → Keeps N o
Keeps-same M N None to back none = λ x n. none x (back x n)
Keeps-same M N (Some m) to back met = record {
  first = to m.first met.first;
  last = to m.last met.last;
  within = λ x n. met.within x (back x n);
  reached = λ x n. elim (met.reached x (back x n)) [ inl e ↦ inl e | inr next ↦ inr (next.0, to next.0 next.1, next.2, next.3) ];
  wide = elim met.wide [ inl e ↦ inl e | inr from ↦ inr (from.0, to from.0 from.1, from.2, λ y n. from.3 y (back y n)) ];
}

-- the last moment is met
pub Keeps-last : (M : ℕ → Type 0) (o : Option Moments) (at : ℕ) → ((x : ℕ) → M x → x ≤ at) → Keeps M o → IfSome o (λ m. m.last ≤ at)
Keeps-last M None at all none = tt
Keeps-last M (Some m) at all met = all m.last met.last

-- what is kept with a moment more
abbrev pub kept_with : ℕ → Option Moments → Moments
kept_with at met = option_map_or (λ m. record { first = m.first; last = at; step = max m.step (at - m.last) }) met (record { first = at; last = at; step = 0 })

pub Keeps-more : (M N : ℕ → Type 0) (o : Option Moments) (at : ℕ) → ((x : ℕ) → M x → x ≤ at) → ((x : ℕ) → M x → N x) → N at → ((x : ℕ) → N x → M x ⊎ (x ≡ at)) →
    Keeps M o → Keeps N (Some (kept_with at o))
Keeps-more M N None at all to here back none = record {
  first = here;
  last = here;
  within = λ x n. elim (back x n) [ inl m ↦ absurd (none x m) | inr e ↦ (omega arith, omega arith) ];
  reached = λ x n. elim (back x n) [ inl m ↦ absurd (none x m) | inr e ↦ inl e ];
  wide = inl refl;
}
Keeps-more M N (Some m) at all to here back met =
    let rises : m.last ≤ at = all m.last met.last in
    let begins : m.first ≤ m.last = (met.within m.last met.last).0 in
    record {
      first = to m.first met.first;
      last = here;
      within = λ x n. elim (back x n) [ inl old ↦ let low = (met.within x old).0 in (low, all x old) | inr e ↦ (omega arith, omega arith) ];
      reached = λ x n. elim (back x n) [
        | inl old ↦ elim (met.reached x old) [
          | inl e ↦ elim (cases_lt m.last at) [ inl less ↦ inr (at, here, omega arith, omega arith) | inr more ↦ inl (omega arith) ]
          | inr next ↦ let close = next.3 in inr (next.0, to next.0 next.1, next.2, omega (arith, close))
        ]
        | inr e ↦ inl e
      ];
      wide = elim (cases_lt m.step (at - m.last)) [
        | inl less ↦ inr (m.last, to m.last met.last, omega arith, λ y n. elim (back y n) [ inl old ↦ inl (met.within y old).1 | inr e ↦ inr (omega arith) ])
        | inr more ↦ elim met.wide [
          | inl e ↦ inl (omega arith)
          | inr from ↦
              let short = from.2 in
              inr (
                from.0,
                to from.0 from.1,
                omega (arith, short),
                λ y n. elim (back y n) [
                  | inl old ↦ elim (from.3 y old) [ inl low ↦ inl low | inr high ↦ inr (omega (arith, high)) ]
                  | inr e ↦ inr (omega (arith, short))
                ],
              )
        ]
      ];
    }

-- where moments are met, the greatest gap is a step or the way from the last one round to the first
pub Keeps-greatest : (length : ℕ) (moments : List ℕ) (m : Moments) → m.last ≤ length → IsMet (λ x. In x moments) m →
    greatest (gaps length moments) ≡ Some (max m.step ((length - m.last) + m.first))
Keeps-greatest length moments m inside met =
    let M : ℕ → Type 0 = λ x. In x moments in
    let gap : ℕ = max m.step ((length - m.last) + m.first) in
    let near : (z : ℕ) → M z → (y : ℕ) × M y × (distance length z y ≤ gap) =
    λ z here. elim (met.reached z here) [
      | inl e ↦
          let low = (met.within z here).0 in
          (m.first, met.first, omega (arith, e, distance-round length z m.first low))
      | inr next ↦ let close = next.3 in (next.0, next.1, omega (arith, close, distance-up length z next.0 next.2))
    ] in
    let begins : m.first ≤ m.last = (met.within m.last met.last).0 in
    let round : (y : ℕ) → M y → (length - m.last) + m.first ≤ distance length m.last y =
    λ y here. let ends = met.within y here in omega (arith, ends, distance-round length m.last y ends.1) in
    elim (cases_lt ((length - m.last) + m.first) m.step) [
      | inl wider ↦ elim met.wide [
        | inl e ↦ absurd (omega arith)
        | inr from ↦
            let short = from.2 in
            greatest-gaps length gap from.0 moments from.1 (λ y here. elim (from.3 y here) [
              | inl low ↦ omega (arith, short, distance-round length from.0 y low)
              | inr high ↦ let up : from.0 < y = omega arith in omega (arith, high, distance-up length from.0 y up)
            ]) near
      ]
      | inr wide ↦ greatest-gaps length gap m.last moments met.last (λ y here. omega (arith, round y here)) near
    ]

-- where none is met there is none
pub Keeps-none : (length : ℕ) (moments : List ℕ) → ((x : ℕ) → In x moments → ⊥) → greatest (gaps length moments) ≡ None
unfolding gaps
Keeps-none length [] none = refl
Keeps-none length (m ∷ ms) none = absurd (none m (inl refl))
