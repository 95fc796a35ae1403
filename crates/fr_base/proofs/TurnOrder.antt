-- The order of turns: by kind of channels, then repetition, then line.
use Rattle.std.proofs.Common.{◌≡◌, ◌⊎◌, ◌<◌, ◌≤◌, ◌+◌, ◌%◌, ◌∙◌, ℕ, zero, suc, Bool, true, List, [], ◌∷◌, ◌++◌, filter, flat_map, refl, sym, ap, subst, inl, inr, arith}
use Rattle.std.specs.Prelude.{◌==◌}
use Rattle.std.specs.List.{AllByRecursion, range_with_len}
use Rattle.std.proofs.lemmas.Bool.{cases_Bool, and_parts, eqb-true, eq-eqb}
use Rattle.fr_base.specs.Channels.{channels_number}
use Rattle.fr_base.specs.Cycles.{is_repetition}
use Rattle.fr_base.specs.Turns.{same_kind, is_for, repetitions_of, turns_on, in_turn}
use Rattle.fr_base.specs.declared.channel.Channels.{Channels}
use Rattle.fr_base.specs.declared.channel.Channels.TheVariants as channels
use Rattle.fr_base.specs.declared.params.Params.{Params}
use Rattle.fr_base.specs.declared.wish.Asked.{Asked}
use Rattle.fr_base.proofs.AskedLines.{Member, member-flat, member-filter}
use Rattle.fr_base.proofs.FittestLaws.{each-append, each-filter, each-range}

-- ---- pairs

module _ {X : Type 0} (R : X → X → Type 0) where
  -- each stands so to all behind it
  abbrev pub Pairs : List X → Type 0
  Pairs [] = Unit {0}
  Pairs (x ∷ xs) = AllByRecursion (R x) xs × Pairs xs

  abbrev Across : List X → List X → Type 0
  Across xs ys = AllByRecursion (λ x. AllByRecursion (R x) ys) xs

  pub pairs-append : (xs ys : List X) → Pairs xs → Pairs ys → Across xs ys → Pairs (xs ++ ys)
  pairs-append [] ys h k across = k
  pairs-append (x ∷ xs) ys h k across = (each-append (R x) xs ys h.0 across.0, pairs-append xs ys h.1 k across.1)

  pub pairs-filter : (t : X → Bool) (xs : List X) → Pairs xs → Pairs (filter t xs)
  pairs-filter t [] h = tt
  pairs-filter t (x ∷ xs) h = elim (cases_Bool (t x)) [
    | inl holds ↦ rw holds (each-filter (R x) (R x) t (λ y r pass. r) xs h.0, pairs-filter t xs h.1)
    | inr lacks ↦ rw lacks (pairs-filter t xs h.1)
  ]

  pub pairs-member : (xs : List X) (x : X) (ys : List X) → Pairs (xs ++ x ∷ ys) → AllByRecursion (λ y. R y x) xs
  pairs-member [] x ys h = tt
  pairs-member (y ∷ xs) x ys h = (at xs h.0, pairs-member xs x ys h.1)
    where
      at : (zs : List X) → AllByRecursion (R y) (zs ++ x ∷ ys) → R y x
      at [] k = k.0
      at (z ∷ zs) k = at zs k.1

pub each-of : {X : Type 0} (P : X → Type 0) (xs : List X) → ((x : X) → Member x xs → P x) → AllByRecursion P xs
each-of P [] f = tt
each-of P (x ∷ xs) f = (f x (inl refl), each-of P xs (λ y at. f y (inr at)))

pub of-each : {X : Type 0} (P : X → Type 0) (xs : List X) (x : X) → AllByRecursion P xs → Member x xs → P x
of-each P [] x h at = absurd at
of-each P (y ∷ xs) x h at = elim at [
  | inl here ↦ subst P (sym here) h.0
  | inr later ↦ of-each P xs x h.1 later
]

-- lists by keys in order, each in order
pub pairs-flat : {X Y : Type 0} (R : X → X → Type 0) (S : Y → Y → Type 0) (g : Y → List X) (ys : List Y) → Pairs S ys → ((y : Y) → Pairs R (g y)) → ((y z : Y) (x w : X) → S y z → Member x (g y) → Member w (g z) → R x w) → Pairs R (flat_map g ys)
pairs-flat R S g [] h within across = tt
pairs-flat R S g (y ∷ ys) h within across =
    pairs-append R (g y) (flat_map g ys) (within y) (pairs-flat R S g ys h.1 within across)
    (each-of _ (g y) (λ x at. each-of _ (flat_map g ys) (λ w in_rest.
    let z = member-flat g w ys in_rest in
    across y z.0 x w (of-each (S y) ys z.0 h.0 z.1) at z.2)))

-- ---- turns

-- AB, A, B
abbrev pub turn_of : Channels → ℕ
turn_of channels.AB = 0
turn_of channels.A = 1
turn_of channels.B = 2

pub same_kind-is : (cs ds : Channels) → same_kind cs ds ≡ true → cs ≡ ds
same_kind-is channels.A channels.A h = refl
same_kind-is channels.A channels.AB h = cc
same_kind-is channels.A channels.B h = cc
same_kind-is channels.AB channels.A h = cc
same_kind-is channels.AB channels.AB h = refl
same_kind-is channels.AB channels.B h = cc
same_kind-is channels.B channels.A h = cc
same_kind-is channels.B channels.AB h = cc
same_kind-is channels.B channels.B h = refl

pub kind-same : (cs ds : Channels) → cs ≡ ds → same_kind cs ds ≡ true
kind-same cs ds e = eq-eqb (channels_number cs) (channels_number ds) (ap channels_number e)

-- the wish comes before the other
abbrev pub IsBefore : Asked → Asked → Type 0
IsBefore x y =
    (turn_of x.wish.channels < turn_of y.wish.channels)
    ⊎ ((x.wish.channels ≡ y.wish.channels) × ((x.wish.repetition < y.wish.repetition) ⊎ ((x.wish.repetition ≡ y.wish.repetition) × (x.line < y.line))))

-- by their lines
abbrev pub AreByLine : List Asked → Type 0
AreByLine = Pairs (λ x y. x.line < y.line)

pub for-is : (cs : Channels) (r : ℕ) (a : Asked) → is_for cs r a ≡ true → (a.wish.channels ≡ cs) × (a.wish.repetition ≡ r)
for-is cs r a h = let t = and_parts (same_kind a.wish.channels cs) (a.wish.repetition == r) h in (same_kind-is _ _ t.0, eqb-true _ _ t.1)

range-pairs : (a len : ℕ) → Pairs (λ (x y : ℕ). x < y) (range_with_len a len)
range-pairs a zero = tt
range-pairs a (suc len) = (each-range (λ y. a < y) (a + 1) len (λ k low high. omega (arith, low)), range-pairs (a + 1) len)

pairs-same : {X : Type 0} (R S : X → X → Type 0) (xs : List X) → ((x y : X) → Member x xs → Member y xs → R x y → S x y) → Pairs R xs → Pairs S xs
pairs-same R S [] f h = tt
pairs-same R S (x ∷ xs) f h = (each-of (S x) xs (λ y at. f x y (inl refl) (inr at) (of-each (R x) xs y h.0 at)), pairs-same R S xs (λ y z at in_too. f y z (inr at) (inr in_too)) h.1)

module _ (p : Params) (wishes : List Asked) (by_line : AreByLine wishes) where
  same-pairs : (cs : Channels) (r : ℕ) → Pairs IsBefore (filter (is_for cs r) wishes)
  same-pairs cs r =
      pairs-same (λ x y. x.line < y.line) IsBefore (filter (is_for cs r) wishes) (λ x y at in_too less.
      let f = for-is cs r x (member-filter (is_for cs r) x wishes at).1 in
      let g = for-is cs r y (member-filter (is_for cs r) y wishes in_too).1 in
      inr (f.0 ∙ sym g.0, inr (f.1 ∙ sym g.1, less))) (pairs-filter (λ x y. x.line < y.line) (is_for cs r) wishes by_line)

  kind-pairs : (cs : Channels) → Pairs IsBefore (turns_on p wishes cs)
  unfolding turns_on
  kind-pairs cs =
      pairs-flat IsBefore (λ (q r : ℕ). q < r) (λ r. filter (is_for cs r) wishes) (repetitions_of p) (pairs-filter (λ (q r : ℕ). q < r) (is_repetition p.cycles) (range_with_len 1 p.cycles) (range-pairs 1 p.cycles)) (same-pairs cs)
      (λ q r x y less at in_too.
      let f = for-is cs q x (member-filter (is_for cs q) x wishes at).1 in
      let g = for-is cs r y (member-filter (is_for cs r) y wishes in_too).1 in
      inr (f.0 ∙ sym g.0, inl (omega (arith, f.1, g.1, less))))

  pub turns-in_order : Pairs IsBefore (in_turn p wishes)
  unfolding in_turn turns_on
  turns-in_order =
      pairs-flat IsBefore (λ cs ds. turn_of cs < turn_of ds) (turns_on p wishes) (channels.AB ∷ channels.A ∷ channels.B ∷ [])
      ((omega arith, (omega arith, tt)), ((omega arith, tt), (tt, tt))) kind-pairs
      (λ cs ds x y less at in_too.
      let q = member-flat (λ r. filter (is_for cs r) wishes) x (repetitions_of p) at in
      let r = member-flat (λ r. filter (is_for ds r) wishes) y (repetitions_of p) in_too in
      let f = for-is cs q.0 x (member-filter (is_for cs q.0) x wishes q.2).1 in
      let g = for-is ds r.0 y (member-filter (is_for ds r.0) y wishes r.2).1 in
      inl (subst (λ k. turn_of k < turn_of y.wish.channels) (sym f.0) (subst (λ k. turn_of cs < turn_of k) (sym g.0) less)))

-- who has a turn is one of the wishes, and its repetition divides the count
pub turn-member : (p : Params) (wishes : List Asked) (a : Asked) → Member a (in_turn p wishes) → Member a wishes × ((0 < a.wish.repetition) × (p.cycles % a.wish.repetition ≡ 0))
unfolding in_turn turns_on
turn-member p wishes a h =
    let cs = member-flat (turns_on p wishes) a (channels.AB ∷ channels.A ∷ channels.B ∷ []) h in
    let r = member-flat (λ r. filter (is_for cs.0 r) wishes) a (repetitions_of p) cs.2 in
    let at = member-filter (is_for cs.0 r.0) a wishes r.2 in
    let is = for-is cs.0 r.0 a at.1 in
    let divides = member-filter (is_repetition p.cycles) r.0 (range_with_len 1 p.cycles) r.1 in
    let parts = and_parts _ ((p.cycles % r.0) == 0) divides.1 in
    let low : 1 ≤ r.0 = of-each (λ k. 1 ≤ k) (range_with_len 1 p.cycles) r.0 (each-range (λ k. 1 ≤ k) 1 p.cycles (λ k low high. low)) divides.0 in
    (at.0, (omega (arith, low, is.1), subst (λ k. p.cycles % k ≡ 0) (sym is.1) (eqb-true _ _ parts.1)))
