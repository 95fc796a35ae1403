-- The fittest place is a free one of the slots that are looked at, and there is none only where none of them has a free place.
use Rattle.std.proofs.Common.{◌≡◌, ◌⊎◌, ◌<◌, ◌≤◌, ◌+◌, ◌∙◌, ℕ, zero, suc, Bool, true, List, [], ◌∷◌, ◌++◌, map, filter, flat_map, Option, Some, None, option_map, refl, sym, ap, subst, inl, inr, arith, true≢false}
use Rattle.std.specs.declared.cmp.Ordering.{Ordering}
use Rattle.std.specs.declared.cmp.Ordering.TheVariants.{Less, Equal, Greater}
use Rattle.std.specs.Ordering.{min_by_ordering}
use Rattle.std.specs.List.{AllByRecursion, range_with_len}
use Rattle.std.proofs.lemmas.Bool.{cases_Bool, cases_eq}
use Rattle.fr_base.specs.Room.{placed, places_on}
use Rattle.fr_base.specs.Fittest.{lesser, least, is_free, free_places, rated, rated_cmp, fittest_of, fittest}
use Rattle.fr_base.specs.declared.channel.Channels.{Channels}
use Rattle.fr_base.specs.declared.name.Name.{Name}
use Rattle.fr_base.specs.declared.params.Params.{Params}
use Rattle.fr_base.specs.declared.placement.Placement.{Placement}
use Rattle.fr_base.proofs.SoundTables.{same_some}

-- ---- lists

-- the number is among these
abbrev pub In : ℕ → List ℕ → Type 0
In k [] = ⊥
In k (x ∷ xs) = (k ≡ x) ⊎ In k xs

pub in-range : (k a len : ℕ) → a ≤ k → k < a + len → In k (range_with_len a len)
in-range k a zero low high = absurd (omega (arith, low, high))
in-range k a (suc len) low high = elim (cases_eq k a) [
  | inl here ↦ inl here
  | inr later ↦ inr (in-range k (a + 1) len (omega (arith, low, later)) (omega (arith, high)))
]

pub in-filter : (t : ℕ → Bool) (k : ℕ) (xs : List ℕ) → In k xs → t k ≡ true → In k (filter t xs)
in-filter t k [] h pass = absurd h
in-filter t k (x ∷ xs) h pass = elim (cases_Bool (t x)) [
  | inl holds ↦ elim h [
    | inl here ↦ rw holds (inl here)
    | inr later ↦ rw holds (inr (in-filter t k xs later pass))
  ]
  | inr lacks ↦ elim h [
    | inl here ↦ absurd (true≢false (sym pass ∙ ap t here ∙ lacks))
    | inr later ↦ rw lacks (in-filter t k xs later pass)
  ]
]

pub each-range : (P : ℕ → Type 0) (a len : ℕ) → ((k : ℕ) → a ≤ k → k < a + len → P k) → AllByRecursion P (range_with_len a len)
each-range P a zero f = tt
each-range P a (suc len) f = (f a (omega arith) (omega arith), each-range P (a + 1) len (λ k low high. f k (omega (arith, low)) (omega (arith, high))))

module _ {X : Type 0} (P : X → Type 0) where
  pub each-append : (xs ys : List X) → AllByRecursion P xs → AllByRecursion P ys → AllByRecursion P (xs ++ ys)
  each-append [] ys h k = k
  each-append (x ∷ xs) ys h k = (h.0, each-append xs ys h.1 k)

  pub each-filter : (Q : X → Type 0) (t : X → Bool) → ((x : X) → Q x → t x ≡ true → P x) → (xs : List X) → AllByRecursion Q xs → AllByRecursion P (filter t xs)
  each-filter Q t f [] h = tt
  each-filter Q t f (x ∷ xs) h = elim (cases_Bool (t x)) [
    | inl holds ↦ rw holds (f x h.0 holds, each-filter Q t f xs h.1)
    | inr lacks ↦ rw lacks (each-filter Q t f xs h.1)
  ]

  pub each-map : {Y : Type 0} (Q : Y → Type 0) (g : Y → X) → ((y : Y) → Q y → P (g y)) → (ys : List Y) → AllByRecursion Q ys → AllByRecursion P (map g ys)
  each-map Q g f [] h = tt
  each-map Q g f (y ∷ ys) h = (f y h.0, each-map Q g f ys h.1)

  pub each-flat : {Y : Type 0} (Q : Y → Type 0) (g : Y → List X) → ((y : Y) → Q y → AllByRecursion P (g y)) → (ys : List Y) → AllByRecursion Q ys → AllByRecursion P (flat_map g ys)
  each-flat Q g f [] h = tt
  each-flat Q g f (y ∷ ys) h = each-append (g y) (flat_map g ys) (f y h.0) (each-flat Q g f ys h.1)

-- ---- the least of a list is one of it

least_one : {X : Type 0} (P : X → Type 0) (o : Ordering) (x y : X) → P x → P y → P (min_by_ordering o x y)
least_one P Less x y p q = p
least_one P Equal x y p q = p
least_one P Greater x y p q = q

-- what holds of each holds of the least
abbrev IfThere : {X : Type 0} → (X → Type 0) → Option X → Type 0
IfThere P None = Unit {0}
IfThere P (Some x) = P x

lesser_one : {X : Type 0} (P : X → Type 0) (cmp : X → X → Ordering) (x : X) (r : Option X) → P x → IfThere P r → IfThere P (lesser cmp (Some x) r)
lesser_one P cmp x None p h = p
lesser_one P cmp x (Some y) p h = least_one P (cmp x y) x y p h

pub least-is : {X : Type 0} (P : X → Type 0) (cmp : X → X → Ordering) (xs : List X) → AllByRecursion P xs → IfThere P (least cmp xs)
unfolding least
least-is P cmp [] h = tt
least-is P cmp (x ∷ xs) h = lesser_one P cmp x (least cmp xs) h.0 (least-is P cmp xs h.1)

lesser_some : {X : Type 0} (cmp : X → X → Ordering) (x : X) (r : Option X) → lesser cmp (Some x) r ≡ None → ⊥
lesser_some cmp x None h = cc
lesser_some cmp x (Some y) h = cc

pub least-none : {X : Type 0} (cmp : X → X → Ordering) (xs : List X) → least cmp xs ≡ None → xs ≡ []
unfolding least
least-none cmp [] h = refl
least-none cmp (x ∷ xs) h = absurd (lesser_some cmp x (least cmp xs) h)

-- ---- the fittest

there_by : {X Y : Type 0} (P : Y → Type 0) (g : X → Y) (r : Option X) → IfThere (λ x. P (g x)) r → (y : Y) → option_map g r ≡ Some y → P y
there_by P g None h y e = cc
there_by P g (Some x) h y e = subst P (same_some (g x) y e) h

nothing_by : {X Y : Type 0} (g : X → Y) (r : Option X) → option_map g r ≡ None → r ≡ None
nothing_by g None e = refl
nothing_by g (Some x) e = cc

map_nothing : {X Y : Type 0} (g : X → Y) (xs : List X) → map g xs ≡ [] → xs ≡ []
map_nothing g [] e = refl
map_nothing g (x ∷ xs) e = cc

pub fittest_of-is : (P : Placement → Type 0) (filled : List (Name × Placement)) (places : List Placement) (q : Placement) → AllByRecursion P places → fittest_of filled places ≡ Some q → P q
unfolding fittest_of rated
fittest_of-is P filled places q h e =
    there_by P (λ x. x.place) (least rated_cmp (map (rated filled) places)) (least-is (λ x. P x.place) rated_cmp (map (rated filled) places) (each-map (λ x. P x.place) P (rated filled) (λ y p. p) places h)) q e

pub fittest_of-none : (filled : List (Name × Placement)) (places : List Placement) → fittest_of filled places ≡ None → places ≡ []
unfolding fittest_of
fittest_of-none filled places e = map_nothing (rated filled) places (least-none rated_cmp (map (rated filled) places) (nothing_by (λ x. x.place) _ e))

-- a free place of these slots, with its slot and base
pub record IsFound (p : Params) (filled : List (Name × Placement)) (P : ℕ → Type 0) (cs : Channels) (r : ℕ) (q : Placement) : Type 0 where
  pub slot : ℕ
  pub base : ℕ
  pub holds : P slot
  pub below : base < r
  pub is : q ≡ placed p r slot cs base
  pub free : is_free filled q ≡ true

module _ (p : Params) (filled : List (Name × Placement)) (cs : Channels) (r : ℕ) where
  pub each-free : (P : ℕ → Type 0) (slots : List ℕ) → AllByRecursion P slots → AllByRecursion (IsFound p filled P cs r) (free_places p filled slots cs r)
  unfolding free_places places_on
  each-free P slots h =
      each-flat (IsFound p filled P cs r) P (λ slot. filter (is_free filled) (places_on p r slot cs)) (λ slot here.
      each-filter (IsFound p filled P cs r) (λ q. (b : ℕ) × (b < r) × (q ≡ placed p r slot cs b)) (is_free filled) (λ q at free. record { slot = slot; base = at.0; holds = here; below = at.1; is = at.2; free = free })
      (places_on p r slot cs)
      (each-map (λ q. (b : ℕ) × (b < r) × (q ≡ placed p r slot cs b)) (λ b. b < r) (placed p r slot cs) (λ b below. (b, below, refl)) (range_with_len 0 r)
      (each-range (λ b. b < r) 0 r (λ k low high. omega (arith, high))))) slots h

  pub fittest-found : (P : ℕ → Type 0) (slots : List ℕ) (q : Placement) → AllByRecursion P slots → fittest p filled slots cs r ≡ Some q → IsFound p filled P cs r q
  unfolding fittest
  fittest-found P slots q h e = fittest_of-is (IsFound p filled P cs r) filled (free_places p filled slots cs r) q (each-free P slots h) e

  nothing_here : (xs ys : List Placement) → xs ++ ys ≡ [] → (xs ≡ []) × (ys ≡ [])
  nothing_here [] ys e = (refl, e)
  nothing_here (x ∷ xs) ys e = cc

  nothing_flat : (g : ℕ → List Placement) (slots : List ℕ) (s : ℕ) → In s slots → flat_map g slots ≡ [] → g s ≡ []
  nothing_flat g [] s h e = absurd h
  nothing_flat g (x ∷ slots) s h e = elim h [
    | inl here ↦ ap g here ∙ (nothing_here (g x) (flat_map g slots) e).0
    | inr later ↦ nothing_flat g slots s later (nothing_here (g x) (flat_map g slots) e).1
  ]

  nothing_kept : (t : Placement → Bool) (g : ℕ → Placement) (bases : List ℕ) (b : ℕ) → In b bases → filter t (map g bases) ≡ [] → t (g b) ≡ true → ⊥
  nothing_kept t g [] b h e holds = h
  nothing_kept t g (x ∷ bases) b h e holds = elim (cases_Bool (t (g x))) [
    | inl pass ↦ let none = rw pass at e in cc
    | inr fails ↦ elim h [
      | inl here ↦ true≢false (sym holds ∙ ap (λ k. t (g k)) here ∙ fails)
      | inr later ↦ nothing_kept t g bases b later (rw fails at e) holds
    ]
  ]

  pub fittest-missed : (slots : List ℕ) (s b : ℕ) → fittest p filled slots cs r ≡ None → In s slots → b < r → is_free filled (placed p r s cs b) ≡ true → ⊥
  unfolding fittest free_places places_on
  fittest-missed slots s b e at below free =
      nothing_kept (is_free filled) (placed p r s cs) (range_with_len 0 r) b (in-range b 0 r (omega arith) (omega (arith, below)))
      (nothing_flat (λ slot. filter (is_free filled) (map (placed p r slot cs) (range_with_len 0 r))) slots s at (fittest_of-none filled _ e)) free
