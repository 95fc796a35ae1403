-- Wishes of one node for the same channels, whose repetitions are a chain, take places in turn: each finds none exactly where it does not fit together with those
-- before it that found one.
use Rattle.std.proofs.Common.{◌≡◌, ◌↔◌, ◌<◌, ◌≤◌, ◌+◌, ◌%◌, ◌∙◌, ℕ, true, List, [], ◌∷◌, ◌++◌, map, filter, Option, Some, None, is_some, IsTrue, refl, sym, ap, subst, arith, append_assoc, append-nil}
use Rattle.std.specs.List.{AllByRecursion, list_all}
use Rattle.fr_base.specs.Cells.{slots_of}
use Rattle.fr_base.specs.Channels.{channels_in, has_channel}
use Rattle.fr_base.specs.Cycles.{is_cycle_count}
use Rattle.fr_base.specs.Room.{placed}
use Rattle.fr_base.specs.Book.{granted}
use Rattle.fr_base.specs.OwnRows.{OwnRows}
use Rattle.fr_base.specs.Fittest.{is_free, fittest}
use Rattle.fr_base.specs.Turns.{with_place, fittest_for, take_places, places_given}
use Rattle.fr_base.specs.RefusedWishes.{holds}
use Rattle.fr_base.specs.Proposals.{held_slots}
use Rattle.fr_base.specs.Fits.{MayStand, FitBeside, Fit}
use Rattle.fr_base.specs.declared.channel.Channels.{Channels}
use Rattle.fr_base.specs.declared.name.Name.{Name}
use Rattle.fr_base.specs.declared.params.Params.{Params}
use Rattle.fr_base.specs.declared.placement.Placement.{Placement}
use Rattle.fr_base.specs.declared.proposal.Given.{Given}
use Rattle.fr_base.specs.declared.wish.Asked.{Asked}
use Rattle.fr_base.specs.declared.wish.Wish.{Wish}
use Rattle.fr_base.proofs.ClassSwaps.{DividesEach}
use Rattle.fr_base.proofs.FitPlaces.{AreOf, repetitions, AreDivisors, others-fit, set_of, base_below}
use Rattle.fr_base.proofs.FittestLaws.{In, in-range, in-filter, each-range, each-filter, fittest-found, fittest-missed}

-- ---- one turn after the other

abbrev pub wishes_of : List Asked → List Wish
wishes_of asked = map (λ a. a.wish) asked

-- the wishes that were given a placement
abbrev pub placed_wishes : List Given → List Wish
placed_wishes given = map (λ g. g.asked.wish) (filter (λ g. is_some g.place) given)

-- what is filled when wishes took their places
abbrev pub filled_after : Params → (Channels → List ℕ) → List (Name × Placement) → List Asked → List (Name × Placement)
filled_after p slots filled asked = filled ++ places_given (take_places p slots filled asked)

with-places : (filled : List (Name × Placement)) (asked : Asked) (place : Option Placement) (rest : List Given) →
    with_place filled asked.wish.frame place ++ places_given rest ≡ filled ++ places_given (record { asked = asked; place = place } ∷ rest)
with-places filled asked None rest = refl
with-places filled asked (Some q) rest = append_assoc filled ((asked.wish.frame, q) ∷ []) (places_given rest)

pub filled-next : (p : Params) (slots : Channels → List ℕ) (filled : List (Name × Placement)) (asked : Asked) (rest : List Asked) →
    filled_after p slots (with_place filled asked.wish.frame (fittest_for p slots filled asked.wish)) rest ≡ filled_after p slots filled (asked ∷ rest)
unfolding take_places
filled-next p slots filled asked rest = with-places filled asked (fittest_for p slots filled asked.wish) (take_places p slots (with_place filled asked.wish.frame (fittest_for p slots filled asked.wish)) rest)

pub take-append : (p : Params) (slots : Channels → List ℕ) (filled : List (Name × Placement)) (xs ys : List Asked) →
    take_places p slots filled (xs ++ ys) ≡ take_places p slots filled xs ++ take_places p slots (filled_after p slots filled xs) ys
unfolding take_places
take-append p slots filled [] ys = ap (λ f. take_places p slots f ys) (sym (append-nil filled))
take-append p slots filled (x ∷ xs) ys =
    let next = with_place filled x.wish.frame (fittest_for p slots filled x.wish) in
    ap (λ rest. record { asked = x; place = fittest_for p slots filled x.wish } ∷ rest)
    (take-append p slots next xs ys ∙ ap (λ f. take_places p slots next xs ++ take_places p slots f ys) (filled-next p slots filled x xs))

-- ---- chains

-- each divides all that come after it
abbrev pub IsChain : List ℕ → Type 0
IsChain [] = Unit {0}
IsChain (r ∷ rs) = DividesEach r rs × IsChain rs

-- what is given in these wishes' turns, with more wishes behind
abbrev pub given_and : List Given → List Wish → List Wish
given_and given more = placed_wishes given ++ more

module _ (own : OwnRows) (m : Name) (cs : Channels) (count : is_cycle_count own.params.cycles ≡ true) (has : IsTrue (list_all (has_channel own.params.channels) (channels_in cs))) where
  abbrev p : Params
  p = own.params

  abbrev slots : Channels → List ℕ
  slots = held_slots own m

  -- a slot that the node holds
  abbrev IsHeld : ℕ → Type 0
  IsHeld s = ((1 ≤ s) × (s < 1 + p.static_slots)) × (holds own m cs s ≡ true)

  each-held : AllByRecursion IsHeld (slots cs)
  unfolding held_slots
  each-held = each-filter IsHeld (λ s. (1 ≤ s) × (s < 1 + p.static_slots)) (holds own m cs) (λ s within here. (within, here)) (slots_of p)
      (each-range (λ s. (1 ≤ s) × (s < 1 + p.static_slots)) 1 p.static_slots (λ k low high. (low, high)))

  in-held : (s : ℕ) → 1 ≤ s → s ≤ p.static_slots → holds own m cs s ≡ true → In s (slots cs)
  unfolding held_slots
  in-held s low high here = in-filter (holds own m cs) s (slots_of p) (in-range s 1 p.static_slots low (omega (arith, high))) here

  -- what a wish takes may stand
  pub taken-stands : (filled : List (Name × Placement)) (wish : Wish) (q : Placement) → (wish.node ≡ m) × (wish.channels ≡ cs) → (0 < wish.repetition) × (p.cycles % wish.repetition ≡ 0) →
      fittest_for p slots filled wish ≡ Some q → MayStand own filled wish q
  unfolding granted
  taken-stands filled wish q of divide e =
      let f = fittest-found p filled cs wish.repetition IsHeld (slots cs) q each-held (ap (λ k. fittest p filled (slots k) k wish.repetition) (sym of.1) ∙ e) in
      subst (MayStand own filled wish) (sym f.is) (record {
        fits = record { from_one = f.holds.0.0; to_last = omega (arith, f.holds.0.1); channels = has; count = refl; cycles = set_of p.cycles f.base wish.repetition count divide.0 divide.1 f.below };
        channels = sym of.1;
        repetition = refl;
        granted = subst (λ k. holds own k cs f.slot ≡ true) (sym of.0) f.holds.1;
        free = ap (is_free filled) (sym f.is) ∙ f.free;
      })

  -- where it takes nothing, nothing may stand
  pub untaken-stands : (filled : List (Name × Placement)) (wish : Wish) (q : Placement) → (wish.node ≡ m) × (wish.channels ≡ cs) → fittest_for p slots filled wish ≡ None → MayStand own filled wish q → ⊥
  unfolding granted
  untaken-stands filled wish q of e may =
      let on : q.channels ≡ cs = may.channels ∙ of.1 in
      let is : q ≡ placed p wish.repetition q.slot cs q.cycles.base = λ i. record { slot = q.slot; channels = on i; cycles = record { count = may.fits.count i; base = q.cycles.base; repetition = may.repetition i } } in
      fittest-missed p filled cs wish.repetition (slots cs) q.slot q.cycles.base
      (ap (λ k. fittest p filled (slots k) k wish.repetition) (sym of.1) ∙ e)
      (in-held q.slot may.fits.from_one may.fits.to_last (subst (λ (z : Name × Channels). holds own z.0 z.1 q.slot ≡ true) (λ i. (of.0 i, on i)) may.granted))
      (subst (λ k. q.cycles.base < k) may.repetition (base_below q may.fits.cycles))
      (ap (is_free filled) (sym is) ∙ may.free)

  -- ---- what fits behind those that took places

  divides-fewer : (r : ℕ) (filled : List (Name × Placement)) (asked : List Asked) (more : List Wish) → DividesEach r (repetitions (wishes_of asked ++ more)) → DividesEach r (repetitions (given_and (take_places p slots filled asked) more))
  unfolding take_places
  divides-fewer r filled [] more h = h
  divides-fewer r filled (a ∷ asked) more h =
      elim (fittest_for p slots filled a.wish) as (λ place. DividesEach r (repetitions (given_and (record { asked = a; place = place } ∷ take_places p slots (with_place filled a.wish.frame place) asked) more))) [
        | None ↦ divides-fewer r filled asked more h.1
        | Some q ↦ (h.0, divides-fewer r (filled ++ (a.wish.frame, q) ∷ []) asked more h.1)
      ]

  of-fewer : (filled : List (Name × Placement)) (asked : List Asked) (more : List Wish) → AreOf m cs (wishes_of asked ++ more) → AreOf m cs (given_and (take_places p slots filled asked) more)
  unfolding take_places
  of-fewer filled [] more h = h
  of-fewer filled (a ∷ asked) more h =
      elim (fittest_for p slots filled a.wish) as (λ place. AreOf m cs (given_and (record { asked = a; place = place } ∷ take_places p slots (with_place filled a.wish.frame place) asked) more)) [
        | None ↦ of-fewer filled asked more h.1
        | Some q ↦ (h.0, of-fewer (filled ++ (a.wish.frame, q) ∷ []) asked more h.1)
      ]

  -- each repetition divides the count
  abbrev DivideCount : List Wish → Type 0
  DivideCount wishes = AreDivisors own m cs count has (repetitions wishes)

  divide-fewer : (filled : List (Name × Placement)) (asked : List Asked) (more : List Wish) → DivideCount (wishes_of asked ++ more) → DivideCount (given_and (take_places p slots filled asked) more)
  unfolding take_places
  divide-fewer filled [] more h = h
  divide-fewer filled (a ∷ asked) more h =
      elim (fittest_for p slots filled a.wish) as (λ place. DivideCount (given_and (record { asked = a; place = place } ∷ take_places p slots (with_place filled a.wish.frame place) asked) more)) [
        | None ↦ divide-fewer filled asked more h.1
        | Some q ↦ (h.0, divide-fewer (filled ++ (a.wish.frame, q) ∷ []) asked more h.1)
      ]

  -- the wishes are of the node and for the channels; the repetition of each divides the count, and those of all behind it
  pub record AreInOrder (wishes : List Wish) : Type 0 where
    pub of : AreOf m cs wishes
    pub divide : DivideCount wishes
    pub chain : IsChain (repetitions wishes)

  rest-in_order : (wish : Wish) (wishes : List Wish) → AreInOrder (wish ∷ wishes) → AreInOrder wishes
  rest-in_order wish wishes h = record { of = h.of.1; divide = h.divide.1; chain = h.chain.1 }

  -- what fits together with those that took places fits beside these
  pub fit-after : (filled : List (Name × Placement)) (asked : List Asked) (more : List Wish) → AreInOrder (wishes_of asked ++ more) →
      Fit own filled (given_and (take_places p slots filled asked) more) → Fit own (filled_after p slots filled asked) more
  unfolding take_places
  fit-after filled [] more h fit = subst (λ f. Fit own f more) (sym (append-nil filled)) fit
  fit-after filled (a ∷ asked) more h fit =
      let rest = rest-in_order a.wish (wishes_of asked ++ more) h in
      subst (λ f. Fit own f more) (filled-next p slots filled a asked)
      ((elim (fittest_for p slots filled a.wish) as (λ place. fittest_for p slots filled a.wish ≡ place →
      Fit own filled (given_and (record { asked = a; place = place } ∷ take_places p slots (with_place filled a.wish.frame place) asked) more) → Fit own (filled_after p slots (with_place filled a.wish.frame place) asked) more) [
        | None ↦ λ e fits. fit-after filled asked more rest fits
        | Some q ↦ λ e fits.
            let next = filled ++ (a.wish.frame, q) ∷ [] in
            fit-after next asked more rest
            (others-fit own m cs count has filled a.wish q (given_and (take_places p slots next asked) more) (h.of.0, of-fewer next asked more h.of.1) (h.divide.0, divide-fewer next asked more h.divide.1)
            (divides-fewer a.wish.repetition next asked more h.chain.0) (taken-stands filled a.wish q h.of.0 h.divide.0 e) fits)
      ]) refl fit)

  -- and the other way round
  pub fit-before : (filled : List (Name × Placement)) (asked : List Asked) (more : List Wish) → AreInOrder (wishes_of asked ++ more) →
      Fit own (filled_after p slots filled asked) more → Fit own filled (given_and (take_places p slots filled asked) more)
  unfolding take_places
  fit-before filled [] more h fit = subst (λ f. Fit own f more) (append-nil filled) fit
  fit-before filled (a ∷ asked) more h fit =
      let rest = rest-in_order a.wish (wishes_of asked ++ more) h in
      (elim (fittest_for p slots filled a.wish) as (λ place. fittest_for p slots filled a.wish ≡ place → Fit own (filled_after p slots (with_place filled a.wish.frame place) asked) more →
      Fit own filled (given_and (record { asked = a; place = place } ∷ take_places p slots (with_place filled a.wish.frame place) asked) more)) [
        | None ↦ λ e fits. fit-before filled asked more rest fits
        | Some q ↦ λ e fits.
            let x = fit-before (filled ++ (a.wish.frame, q) ∷ []) asked more rest fits in
            (q ∷ x.0, (taken-stands filled a.wish q h.of.0 h.divide.0 e, x.1))
      ]) refl (subst (λ f. Fit own f more) (sym (filled-next p slots filled a asked)) fit)

  last-in_order : (asked : List Asked) (wish : Wish) → AreInOrder (wishes_of asked ++ wish ∷ []) → AreInOrder (wish ∷ [])
  last-in_order [] wish h = h
  last-in_order (a ∷ asked) wish h = last-in_order asked wish (rest-in_order a.wish (wishes_of asked ++ wish ∷ []) h)

  -- a wish takes nothing exactly where it does not fit together with those before it that took places
  pub takes-nothing : (filled : List (Name × Placement)) (before : List Asked) (a : Asked) → AreInOrder (wishes_of before ++ a.wish ∷ []) →
      (fittest_for p slots (filled_after p slots filled before) a.wish ≡ None) ↔ ¬ Fit own filled (given_and (take_places p slots filled before) (a.wish ∷ []))
  takes-nothing filled before a h =
      let mine = last-in_order before a.wish h in
      let after = filled_after p slots filled before in (
        (λ e fit.
            let x = fit-after filled before (a.wish ∷ []) h fit in
            stands after x.0 x.1 e mine),
        (λ none. go (fittest_for p slots after a.wish) refl none mine),
      )
    where
      stands : (f : List (Name × Placement)) (qs : List Placement) → FitBeside own f (a.wish ∷ []) qs → fittest_for p slots f a.wish ≡ None → AreInOrder (a.wish ∷ []) → ⊥
      stands f [] fits e mine = fits
      stands f (q ∷ qs) fits e mine = untaken-stands f a.wish q mine.of.0 e fits.0

      go : (place : Option Placement) → fittest_for p slots (filled_after p slots filled before) a.wish ≡ place → ¬ Fit own filled (given_and (take_places p slots filled before) (a.wish ∷ [])) → AreInOrder (a.wish ∷ []) → place ≡ None
      go None e none mine = refl
      go (Some q) e none mine = absurd (none (fit-before filled before (a.wish ∷ []) h (q ∷ [], (taken-stands (filled_after p slots filled before) a.wish q mine.of.0 mine.divide.0 e, tt))))
