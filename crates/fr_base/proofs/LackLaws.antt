-- The least number of empty slots in which wishes take a placement each is how many are opened, where a slot is added for each wish that has no place in those
-- before: a place in an empty slot breaks most, so one in a slot before is the fittest.
use Rattle.std.proofs.Common.{◌≡◌, ◌⊎◌, ◌<◌, ◌≤◌, ◌+◌, ◌-◌, ◌∙◌, ℕ, zero, suc, Bool, true, false, ◌&&◌, cond, List, [], ◌∷◌, ◌++◌, map, filter, find, flat_map, fold, length, nat_le, Option, Some, None, option_map, is_some, refl, sym, ap, subst, inl, inr, arith, true≢false, append_assoc}
use Rattle.std.specs.Prelude.{◌==◌, ◌%◌}
use Rattle.std.specs.declared.cmp.Ordering.{Ordering}
use Rattle.std.specs.declared.cmp.Ordering.TheVariants.{Less, Equal, Greater}
use Rattle.std.specs.Ordering.{is_le, nat_cmp, ordering_then, min_by_ordering}
use Rattle.std.specs.Cmp.{nat_cmp_is}
use Rattle.std.specs.List.{AllByRecursion, range_with_len, list_all, sum_by}
use Rattle.std.specs.Option.{unwrap_or}
use Rattle.std.proofs.lemmas.Bool.{cases_Bool, cases_order, and_parts, eqb-true, ne_eqb}
use Rattle.std.proofs.lemmas.Bool.Decides.{nat_tests}
use Rattle.fr_base.specs.Cells.{Cell, has_cell}
use Rattle.fr_base.specs.Channels.{channels_in}
use Rattle.fr_base.specs.Schedule.{fill}
use Rattle.fr_base.specs.Room.{placed, places_on}
use Rattle.fr_base.specs.Fittest.{lesser, least, is_free, free_places, coarser, on_channel, divisors_below, broken, rated, rated_cmp, Rated, fittest_of, fittest}
use Rattle.fr_base.specs.Turns.{is_for, repetitions_of, turns_on, in_turn, with_place, fittest_for, take_places, take_turns, all_placed}
use Rattle.fr_base.specs.Lacks.{fill_up, slots_lacking, slots_with, open_slots}
use Rattle.fr_base.specs.declared.channel.Channels.{Channels}
use Rattle.fr_base.specs.declared.channel.Channels.TheVariants as channels
use Rattle.fr_base.specs.declared.name.Name.{Name}
use Rattle.fr_base.specs.declared.params.Params.{Params}
use Rattle.fr_base.specs.declared.placement.Placement.{Placement}
use Rattle.fr_base.specs.declared.wish.Asked.{Asked}
use Rattle.fr_base.proofs.FreeCells.{cell-is_in, empty-free, both-empty, one-empty}
use Rattle.fr_base.proofs.FittestLaws.{each-append, each-filter, each-flat, each-map, each-range, least-is, IsFound, each-free, fittest-found, fittest_of-none}

-- ---- ties go to the front

stays_first : {X : Type 0} (o : Ordering) (x y : X) → is_le o ≡ true → min_by_ordering o x y ≡ x
stays_first Less x y h = refl
stays_first Equal x y h = refl
stays_first Greater x y h = cc

module _ {X : Type 0} (cmp : X → X → Ordering) where
  -- the first of the one list are not after any of the other
  abbrev AreBefore : List X → List X → Type 0
  AreBefore xs ys = AllByRecursion (λ x. AllByRecursion (λ y. is_le (cmp x y) ≡ true) ys) xs

  lesser_first : (x : X) (r : Option X) → ((y : X) → r ≡ Some y → is_le (cmp x y) ≡ true) → lesser cmp (Some x) r ≡ Some x
  lesser_first x None h = refl
  lesser_first x (Some y) h = ap Some (stays_first (cmp x y) x y (h y refl))

  least-after : (x : X) (ys : List X) → AllByRecursion (λ y. is_le (cmp x y) ≡ true) ys → (y : X) → least cmp ys ≡ Some y → is_le (cmp x y) ≡ true
  least-after x ys h y e = go (least cmp ys) (least-is (λ z. is_le (cmp x z) ≡ true) cmp ys h) e
    where
      go : (r : Option X) → elim r as (λ s. Type 0) [ None ↦ Unit {0} | Some z ↦ is_le (cmp x z) ≡ true ] → r ≡ Some y → is_le (cmp x y) ≡ true
      go None h e = cc
      go (Some z) h e = subst (λ r. elim r as (λ s. Type 0) [ None ↦ Unit {0} | Some z ↦ is_le (cmp x z) ≡ true ]) e h

  least-front : (x : X) (xs ys : List X) → AreBefore (x ∷ xs) ys → least cmp ((x ∷ xs) ++ ys) ≡ least cmp (x ∷ xs)
  unfolding least
  least-front x [] ys h = lesser_first x (least cmp ys) (least-after x ys h.0)
  least-front x (z ∷ xs) ys h = ap (lesser cmp (Some x)) (least-front z xs ys h.1)

-- ---- a place in an empty slot breaks most

nat_le_cmp : (a b : ℕ) → a ≤ b → is_le (nat_cmp a b) ≡ true
nat_le_cmp a b h = elim (cases_order a b) [
  | inl e ↦ ap is_le (sym (nat_cmp_is a b Equal e))
  | inr o ↦ elim o [
    | inl l ↦ ap is_le (sym (nat_cmp_is a b Less l))
    | inr g ↦ absurd (omega (arith, h, g))
  ]
]

both_le : (o s : Ordering) → is_le o ≡ true → is_le s ≡ true → is_le (ordering_then o s) ≡ true
both_le Less s h k = refl
both_le Equal s h k = k
both_le Greater s h k = h

sum-le : {X : Type 0} (f g : X → ℕ) (xs : List X) (a b : ℕ) → a ≤ b → ((x : X) → f x ≤ g x) → fold (λ k x. k + f x) a xs ≤ fold (λ k x. k + g x) b xs
sum-le f g [] a b h less = h
sum-le f g (x ∷ xs) a b h less = sum-le f g xs (a + f x) (b + g x) (omega (arith, h, less x)) less

one_at_most : (t : Bool) → cond t 1 0 ≤ 1
one_at_most true = omega arith
one_at_most false = omega arith

-- all that is filled lies in the first slots
abbrev pub IsUpTo : ℕ → List (Name × Placement) → Type 0
IsUpTo m filled = AllByRecursion (λ e. e.1.slot ≤ m) filled

lacks_above : (m : ℕ) (filled : List (Name × Placement)) (c : Cell) → IsUpTo m filled → m < c.slot → fill filled c ≡ None
unfolding fill
lacks_above m [] c h above = refl
lacks_above m (e ∷ filled) c h above = elim (cases_Bool (has_cell e.1 c)) [
  | inl clash ↦ let at = cell-is_in e.1 c clash in absurd (omega (arith, at.slot, h.0, above))
  | inr lacks ↦ rw lacks (lacks_above m filled c h.1 above)
]

pub free_above : (m : ℕ) (filled : List (Name × Placement)) (q : Placement) → IsUpTo m filled → m < q.slot → is_free filled q ≡ true
free_above m filled q h above = empty-free filled q (λ c has. lacks_above m filled c h (subst (λ s. m < s) (sym (cell-is_in q c has).slot) above))

-- the same but for slot and base
pub record IsLike (q t : Placement) : Type 0 where
  pub channels : q.channels ≡ t.channels
  pub repetition : q.cycles.repetition ≡ t.cycles.repetition

broken-most : (m : ℕ) (filled : List (Name × Placement)) (q t : Placement) → IsUpTo m filled → m < t.slot → q.cycles.repetition ≡ t.cycles.repetition → broken filled q ≤ broken filled t
unfolding broken
broken-most m filled q t h above same =
    subst (λ r. sum_by (λ d. cond (is_free filled (coarser q d)) 1 0) (divisors_below r) ≤ sum_by (λ d. cond (is_free filled (coarser t d)) 1 0) (divisors_below t.cycles.repetition)) (sym same)
    (sum-le (λ d. cond (is_free filled (coarser q d)) 1 0) (λ d. cond (is_free filled (coarser t d)) 1 0) (divisors_below t.cycles.repetition) 0 0 (omega arith)
    (λ d. subst (λ b. cond (is_free filled (coarser q d)) 1 0 ≤ cond b 1 0) (sym (free_above m filled (coarser t d) h above)) (one_at_most (is_free filled (coarser q d)))))

rated-most : (m : ℕ) (filled : List (Name × Placement)) (q t : Placement) → IsUpTo m filled → m < t.slot → IsLike q t → is_le (rated_cmp (rated filled q) (rated filled t)) ≡ true
unfolding rated
rated-most m filled q t h above like =
    both_le _ _ (nat_le_cmp _ _ (broken-most m filled q t h above like.repetition))
    (nat_le_cmp _ _
    (subst (λ cs. sum_by (λ c. broken filled (on_channel q c)) (channels_in cs) ≤ sum_by (λ c. broken filled (on_channel t c)) (channels_in t.channels)) (sym like.channels)
    (sum-le (λ c. broken filled (on_channel q c)) (λ c. broken filled (on_channel t c)) (channels_in t.channels) 0 0 (omega arith)
    (λ c. broken-most m filled (on_channel q c) (on_channel t c) h above like.repetition))))

-- ---- more slots

range-split : (a m j : ℕ) → range_with_len a (m + j) ≡ range_with_len a m ++ range_with_len (a + m) j
range-split a zero j = let e : zero + j ≡ j = omega arith in let d : a ≡ a + zero = omega arith in λ i. range_with_len (d i) (e i)
range-split a (suc m) j =
    let e : suc m + j ≡ suc (m + j) = omega arith in
    let d : (a + 1) + m ≡ a + suc m = omega arith in
    ap (range_with_len a) e ∙ ap (λ xs. a ∷ xs) (range-split (a + 1) m j ∙ ap (λ b. range_with_len (a + 1) m ++ range_with_len b j) d)

flat-split : {X Y : Type 0} (g : X → List Y) (xs ys : List X) → flat_map g (xs ++ ys) ≡ flat_map g xs ++ flat_map g ys
flat-split g [] ys = refl
flat-split g (x ∷ xs) ys = ap (λ l. g x ++ l) (flat-split g xs ys) ∙ sym (append_assoc (g x) (flat_map g xs) (flat_map g ys))

map-split : {X Y : Type 0} (g : X → Y) (xs ys : List X) → map g (xs ++ ys) ≡ map g xs ++ map g ys
map-split g [] ys = refl
map-split g (x ∷ xs) ys = ap (λ l. g x ∷ l) (map-split g xs ys)

module _ (p : Params) (filled : List (Name × Placement)) (cs : Channels) (r : ℕ) where
  abbrev free_in : ℕ → ℕ → List Placement
  free_in a len = free_places p filled (range_with_len a len) cs r

  free-split : (m j : ℕ) → free_in 1 (m + j) ≡ free_in 1 m ++ free_in (1 + m) j
  unfolding free_places
  free-split m j = ap (λ slots. flat_map (λ slot. filter (is_free filled) (places_on p r slot cs)) slots) (range-split 1 m j) ∙ flat-split (λ slot. filter (is_free filled) (places_on p r slot cs)) (range_with_len 1 m) (range_with_len (1 + m) j)

  -- places of these channels and this repetition, and such places above the first slots
  abbrev IsPlace : Placement → Type 0
  IsPlace q = (q.channels ≡ cs) × (q.cycles.repetition ≡ r)

  abbrev IsAbove : ℕ → Placement → Type 0
  IsAbove m q = (m < q.slot) × IsPlace q

  module _ (m : ℕ) (within : IsUpTo m filled) where
    each-before : (xs ys : List Placement) → AllByRecursion IsPlace xs → AllByRecursion (IsAbove m) ys → AreBefore rated_cmp (map (rated filled) xs) (map (rated filled) ys)
    each-before xs ys h k =
        each-map _ IsPlace (rated filled)
        (λ x here. each-map _ (IsAbove m) (rated filled) (λ y there. rated-most m filled x y within there.0 (record { channels = here.0 ∙ sym there.1.0; repetition = here.1 ∙ sym there.1.1 })) ys k) xs h

    -- places above do not count where there is one before
    fittest_of-front : (x : Placement) (xs ys : List Placement) → AllByRecursion IsPlace (x ∷ xs) → AllByRecursion (IsAbove m) ys → fittest_of filled ((x ∷ xs) ++ ys) ≡ fittest_of filled (x ∷ xs)
    unfolding fittest_of
    fittest_of-front x xs ys h k =
        ap (λ l. option_map (λ z. z.place) (least rated_cmp l)) (map-split (rated filled) (x ∷ xs) ys)
        ∙ ap (option_map (λ z. z.place)) (least-front rated_cmp (rated filled x) (map (rated filled) xs) (map (rated filled) ys) (each-before (x ∷ xs) ys h k))

    each-place : (a len : ℕ) → AllByRecursion IsPlace (free_in a len)
    each-place a len = weaker (free_in a len) (each-free p filled cs r (λ s. Unit {0}) (range_with_len a len) (each-range (λ s. Unit {0}) a len (λ s low high. tt)))
      where
        weaker : (qs : List Placement) → AllByRecursion (IsFound p filled (λ s. Unit {0}) cs r) qs → AllByRecursion IsPlace qs
        weaker [] h = tt
        weaker (q ∷ qs) h = ((ap (λ (z : Placement). z.channels) h.0.is, ap (λ (z : Placement). z.cycles.repetition) h.0.is), weaker qs h.1)

    each-above : (len : ℕ) → AllByRecursion (IsAbove m) (free_in (1 + m) len)
    each-above len = weaker (free_in (1 + m) len) (each-free p filled cs r (λ s. m < s) (range_with_len (1 + m) len) (each-range (λ s. m < s) (1 + m) len (λ s low high. omega (arith, low))))
      where
        weaker : (qs : List Placement) → AllByRecursion (IsFound p filled (λ s. m < s) cs r) qs → AllByRecursion (IsAbove m) qs
        weaker [] h = tt
        weaker (q ∷ qs) h = (
          (subst (λ k. m < k) (sym (ap (λ (z : Placement). z.slot) h.0.is)) h.0.holds, (ap (λ (z : Placement). z.channels) h.0.is, ap (λ (z : Placement). z.cycles.repetition) h.0.is)),
          weaker qs h.1,
        )

    stays : (j : ℕ) (q : Placement) (xs : List Placement) → AllByRecursion IsPlace xs → fittest_of filled xs ≡ Some q → fittest_of filled (xs ++ free_in (1 + m) j) ≡ Some q
    unfolding fittest_of least
    stays j q [] h e = cc
    stays j q (x ∷ xs) h e = fittest_of-front x xs (free_in (1 + m) j) h (each-above j) ∙ e

    -- the fittest place stays with more slots
    pub same-with_more : (j : ℕ) (q : Placement) → fittest p filled (range_with_len 1 m) cs r ≡ Some q → fittest p filled (range_with_len 1 (m + j)) cs r ≡ Some q
    unfolding fittest
    same-with_more j q e = ap (fittest_of filled) (free-split m j) ∙ stays j q (free_in 1 m) (each-place 1 m) e

    free_first : (a j k : ℕ) → m < a → k ≡ r → 0 < k → (rest : List Placement) × (free_places p filled (range_with_len a (suc j)) cs k ≡ placed p k a cs 0 ∷ rest)
    unfolding free_places places_on
    free_first a j zero above e some = absurd (omega (arith, some))
    free_first a j (suc k) above e some =
        let first = free_above m filled (placed p (suc k) a cs 0) within above in (
          filter (is_free filled) (map (placed p (suc k) a cs) (range_with_len 1 k)) ++ flat_map (λ slot. filter (is_free filled) (map (placed p (suc k) slot cs) (range_with_len 0 (suc k)))) (range_with_len (a + 1) j),
          rw first refl,
        )

    one-of_ties : (x : Placement) (xs ys : List Placement) → ys ≡ x ∷ xs → AllByRecursion IsPlace (x ∷ []) → AllByRecursion (IsAbove m) ys → fittest_of filled ys ≡ Some x
    unfolding fittest_of rated least
    one-of_ties x xs ys e h k = ap (fittest_of filled) e ∙ fittest_of-front x [] xs h (subst (AllByRecursion (IsAbove m)) e k).1

    -- where there is none, it is the first one of the next slot
    pub first-of_next : (j : ℕ) → 0 < r → fittest p filled (range_with_len 1 m) cs r ≡ None → fittest p filled (range_with_len 1 (m + suc j)) cs r ≡ Some (placed p r (suc m) cs 0)
    unfolding fittest
    first-of_next j some e =
        let next : 1 + m ≡ suc m = omega arith in
        let first = free_first (1 + m) j r (omega arith) refl some in
        ap (fittest_of filled) (free-split m (suc j) ∙ ap (λ xs. xs ++ free_in (1 + m) (suc j)) (fittest_of-none filled (free_in 1 m) e))
        ∙ one-of_ties (placed p r (1 + m) cs 0) first.0 (free_in (1 + m) (suc j)) first.1 ((refl, refl), tt) (each-above (suc j))
        ∙ ap (λ s. Some (placed p r s cs 0)) next

-- ---- turns with more slots

-- the first so many slots, whatever the channels
abbrev first_slots : ℕ → Channels → List ℕ
first_slots k cs = range_with_len 1 k

up_to-end : (m : ℕ) (filled : List (Name × Placement)) (f : Name) (q : Placement) → IsUpTo m filled → q.slot ≤ m → IsUpTo m (filled ++ (f, q) ∷ [])
up_to-end m [] f q h low = (low, tt)
up_to-end m (e ∷ filled) f q h low = (h.0, up_to-end m filled f q h.1 low)

up_to-more : (m : ℕ) (filled : List (Name × Placement)) → IsUpTo m filled → IsUpTo (suc m) filled
up_to-more m [] h = tt
up_to-more m (e ∷ filled) h = (omega (arith, h.0), up_to-more m filled h.1)

found_low : (p : Params) (filled : List (Name × Placement)) (m : ℕ) (cs : Channels) (r : ℕ) (q : Placement) → fittest p filled (range_with_len 1 m) cs r ≡ Some q → q.slot ≤ m
found_low p filled m cs r q e =
    let f = fittest-found p filled cs r (λ s. s < 1 + m) (range_with_len 1 m) q (each-range (λ s. s < 1 + m) 1 m (λ s low high. high)) e in
    subst (λ s. s ≤ m) (sym (ap (λ (z : Placement). z.slot) f.is)) (omega (arith, f.holds))

slots-grow : (m : ℕ) (place : Option Placement) → m ≤ slots_with m place
slots-grow m None = omega arith
slots-grow m (Some q) = omega arith

slots-few : (m : ℕ) (place : Option Placement) → slots_with m place ≤ suc m
slots-few m None = omega arith
slots-few m (Some q) = omega arith

-- with the place that a wish takes in so many slots, or with the first one of the next
abbrev filled_next : Params → ℕ → List (Name × Placement) → Asked → Option Placement → List (Name × Placement)
filled_next p m filled a place = filled ++ (a.wish.frame, unwrap_or place (placed p a.wish.repetition (suc m) a.wish.channels 0)) ∷ []

open-grow : (p : Params) (ts : List Asked) (m : ℕ) (filled : List (Name × Placement)) → m ≤ open_slots p m filled ts
unfolding open_slots
open-grow p [] m filled = omega arith
open-grow p (a ∷ ts) m filled =
    let place = fittest_for p (first_slots m) filled a.wish in
    omega (arith, slots-grow m place, open-grow p ts (slots_with m place) (filled_next p m filled a place))

open-few : (p : Params) (ts : List Asked) (m : ℕ) (filled : List (Name × Placement)) → open_slots p m filled ts ≤ m + length ts
unfolding open_slots
open-few p [] m filled = omega arith
open-few p (a ∷ ts) m filled =
    let place = fittest_for p (first_slots m) filled a.wish in
    omega (arith, slots-few m place, open-few p ts (slots_with m place) (filled_next p m filled a place))

-- each repetition is above 0
abbrev ArePositive : List Asked → Type 0
ArePositive ts = AllByRecursion (λ a. 0 < a.wish.repetition) ts

too_many : (m k : ℕ) → suc m ≤ k → nat_le k m ≡ false
too_many m k h = grind (arith, nat_tests)

enough : (m k : ℕ) → k ≤ m → nat_le k m ≡ true
enough m k h = grind (arith, nat_tests)

module _ (p : Params) where
  -- what becomes of all wishes where the first one takes this
  abbrev placed_with : ℕ → List (Name × Placement) → Asked → List Asked → Option Placement → Bool
  placed_with k filled a ts place = is_some place && all_placed (take_places p (first_slots k) (with_place filled a.wish.frame place) ts)

  -- they take a placement each exactly in as many slots as are opened, or more
  opened-decides : (ts : List Asked) (m j : ℕ) (filled : List (Name × Placement)) → IsUpTo m filled → ArePositive ts → all_placed (take_places p (first_slots (m + j)) filled ts) ≡ nat_le (open_slots p m filled ts) (m + j)
  unfolding take_places open_slots
  opened-decides [] m j filled within positive = sym (enough (m + j) m (omega arith))
  opened-decides (a ∷ ts) m j filled within positive =
      let here : ℕ → Option Placement = λ k. fittest_for p (first_slots k) filled a.wish in
      let some : 0 < a.wish.repetition = positive.0 in
      (elim (here m) as (λ place. here m ≡ place → placed_with (m + j) filled a ts (here (m + j)) ≡ nat_le (open_slots p (slots_with m place) (filled_next p m filled a place) ts) (m + j)) [
        | Some q ↦ λ e.
            ap (placed_with (m + j) filled a ts) (same-with_more p filled a.wish.channels a.wish.repetition m within j q e)
            ∙ opened-decides ts m j (filled ++ (a.wish.frame, q) ∷ []) (up_to-end m filled a.wish.frame q within (found_low p filled m a.wish.channels a.wish.repetition q e)) positive.1
        | None ↦ λ e.
            (elim j as (λ i. placed_with (m + i) filled a ts (here (m + i)) ≡ nat_le (open_slots p (suc m) (filled_next p m filled a None) ts) (m + i)) [
              | zero ↦
                  let same : m + 0 ≡ m = omega arith in
                  ap (placed_with (m + 0) filled a ts) (ap here same ∙ e)
                  ∙ sym (too_many (m + 0) (open_slots p (suc m) (filled_next p m filled a None) ts) (omega (arith, open-grow p ts (suc m) (filled_next p m filled a None))))
              | suc i ↦
                  let new = placed p a.wish.repetition (suc m) a.wish.channels 0 in
                  let more : m + suc i ≡ suc m + i = omega arith in
                  ap (placed_with (m + suc i) filled a ts) (first-of_next p filled a.wish.channels a.wish.repetition m within i some e)
                  ∙ ap (λ k. all_placed (take_places p (first_slots k) (filled ++ (a.wish.frame, new) ∷ []) ts)) more
                  ∙ opened-decides ts (suc m) i (filled ++ (a.wish.frame, new) ∷ []) (up_to-end (suc m) filled a.wish.frame new (up_to-more m filled within) (omega arith)) positive.1
                  ∙ ap (nat_le (open_slots p (suc m) (filled_next p m filled a None) ts)) (sym more)
            ])
      ]) refl

  -- ---- the least number

  find-first : (t : ℕ → Bool) (o a len : ℕ) → ((k : ℕ) → t k ≡ nat_le o k) → a ≤ o → o < a + len → find t (range_with_len a len) ≡ Some o
  find-first t o a zero is low high = absurd (omega (arith, low, high))
  find-first t o a (suc len) is low high = elim (cases_order a o) [
    | inl same ↦
        let pass : t a ≡ true = is a ∙ enough a o (omega (arith, same)) in
        rw pass (ap Some same)
    | inr other ↦ elim other [
      | inl less ↦
          let fails : t a ≡ false = is a ∙ too_many a o (omega (arith, less)) in
          rw fails (find-first t o (a + 1) len is (omega (arith, less)) (omega (arith, high)))
      | inr more ↦ absurd (omega (arith, low, more))
    ]
  ]

  turns-positive : (wishes : List Asked) → ArePositive (in_turn p wishes)
  unfolding in_turn turns_on
  turns-positive wishes =
      each-flat (λ a. 0 < a.wish.repetition) (λ cs. Unit {0}) (λ cs. flat_map (λ r. filter (is_for cs r) wishes) (repetitions_of p)) (λ cs u.
      each-flat (λ a. 0 < a.wish.repetition) (λ r. 0 < r) (λ r. filter (is_for cs r) wishes) (λ r some.
      each-filter (λ a. 0 < a.wish.repetition) (λ a. Unit {0}) (is_for cs r) (λ a u holds. subst (λ k. 0 < k) (sym (eqb-true _ _ (and_parts _ _ holds).1)) some) wishes (any_asked wishes))
      (repetitions_of p)
      (each-filter (λ r. 0 < r) (λ r. 0 < r) _ (λ r some pass. some) (range_with_len 1 p.cycles) (each-range (λ r. 0 < r) 1 p.cycles (λ k low high. omega (arith, low)))))
      (channels.AB ∷ channels.A ∷ channels.B ∷ []) (tt, (tt, (tt, tt)))
    where
      any_asked : (xs : List Asked) → AllByRecursion (λ a. Unit {0}) xs
      any_asked [] = tt
      any_asked (x ∷ xs) = (tt, any_asked xs)

  opens-one : (a : Asked) (ts : List Asked) → 1 ≤ open_slots p 0 [] (a ∷ ts)
  unfolding open_slots fittest free_places fittest_of least
  opens-one a ts = open-grow p ts 1 (filled_next p 0 [] a None)

  above_none : (o : ℕ) → 1 ≤ o → (o == 0) ≡ false
  above_none o h = ne_eqb o 0 (λ e. omega (arith, h, e))

  found-opened : (t : ℕ → Bool) (ts : List Asked) → ((k : ℕ) → t k ≡ nat_le (open_slots p 0 [] ts) k) → find t (range_with_len 1 (length ts)) ≡ cond (open_slots p 0 [] ts == 0) None (Some (open_slots p 0 [] ts))
  unfolding open_slots
  found-opened t [] is = refl
  found-opened t (a ∷ ts) is =
      let o = open_slots p 0 [] (a ∷ ts) in
      let one : 1 ≤ o = opens-one a ts in
      let few : o ≤ 0 + length (a ∷ ts) = open-few p (a ∷ ts) 0 [] in
      find-first t o 1 (length (a ∷ ts)) is one (omega (arith, few)) ∙ sym (ap (λ b. cond b None (Some o)) (above_none o one))

  -- so many slots are lacking as are opened
  pub lacking-opened : (wishes : List Asked) → slots_lacking p wishes ≡ cond (open_slots p 0 [] (in_turn p wishes) == 0) None (Some (open_slots p 0 [] (in_turn p wishes)))
  unfolding slots_lacking fill_up take_turns
  lacking-opened wishes = found-opened (fill_up p wishes) (in_turn p wishes) (λ k.
      let same : 0 + k ≡ k = omega arith in
      subst (λ i. all_placed (take_places p (first_slots i) [] (in_turn p wishes)) ≡ nat_le (open_slots p 0 [] (in_turn p wishes)) i) same
      (opened-decides (in_turn p wishes) 0 k [] tt (turns-positive wishes)))
