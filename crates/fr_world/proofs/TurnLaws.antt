-- Wishes that take places one after the other: one more, and those of several kinds.
use Rattle.std.proofs.Common.{◌≡◌, ℕ, zero, suc, ◌+◌, ◌-◌, ◌<◌, ◌≤◌, Bool, true, false, ◌&&◌, cond, eqb, List, [], ◌∷◌, ◌++◌, length, map, filter, get_or, take, Option, Some, None, option_map, refl, sym, ap, subst, ◌∙◌, inl, inr, arith, append_assoc, append-nil, true≢false}
use Rattle.std.specs.List.{flat_map, list_any, range_with_len}
use Rattle.std.proofs.lemmas.Bool.{and_parts, cases_Bool, eqb-true}
use Rattle.std.proofs.lemmas.Grind.{flat_map-append}
use Rattle.std.proofs.lemmas.List.{take_more}
use Rattle.std.proofs.lemmas.List.Elements.{filter-append, filter_map-append}
use Rattle.fr_base.specs.Channels.{channels_number}
use Rattle.fr_base.specs.Cycles.{is_repetition}
use Rattle.fr_base.specs.Fittest.{fittest}
use Rattle.fr_base.specs.Orders.{same_channels}
use Rattle.fr_base.specs.Turns.{filled_by, fittest_for, is_for, places_given, repetitions_of, take_places, turns_on, with_place}
use Rattle.fr_base.specs.declared.channel.Channels.{Channels}
use Rattle.fr_base.specs.declared.name.Name.{Name}
use Rattle.fr_base.specs.declared.params.Params.{Params}
use Rattle.fr_base.specs.declared.placement.Placement.{Placement}
use Rattle.fr_base.specs.declared.proposal.Given.{Given}
use Rattle.fr_base.specs.declared.wish.Asked.{Asked}
use Rattle.fr_world.specs.Plans.{Takes}
use Rattle.fr_world.proofs.ScheduleLaws.{range-more}

-- ---- one after the other

-- what was given fills what its places fill
pub places-append : (xs ys : List Given) → places_given (xs ++ ys) ≡ places_given xs ++ places_given ys
places-append xs ys = filter_map-append filled_by xs ys

pub placed-one : (olds : List (Name × Placement)) (asked : Asked) (place : Option Placement) → with_place olds asked.wish.frame place ≡ olds ++ places_given (record { asked = asked; place = place } ∷ [])
placed-one olds asked None = sym (append-nil olds)
placed-one olds asked (Some q) = refl

module _ (p : Params) (on : Channels → List ℕ) where
  pub takes-append : (olds : List (Name × Placement)) (xs ys : List Asked) → take_places p on olds (xs ++ ys) ≡ take_places p on olds xs ++ take_places p on (olds ++ places_given (take_places p on olds xs)) ys
  unfolding take_places
  takes-append olds [] ys = ap (λ es. take_places p on es ys) (sym (append-nil olds))
  takes-append olds (x ∷ xs) ys =
      let place = fittest_for p on olds x.wish in
      let one : Given = record { asked = x; place = place } in
      ap (λ gs. one ∷ gs) (takes-append (with_place olds x.wish.frame place) xs ys
      ∙ ap (λ es. take_places p on (with_place olds x.wish.frame place) xs ++ take_places p on es ys)
      (ap (λ es. es ++ places_given (take_places p on (with_place olds x.wish.frame place) xs)) (placed-one olds x place)
      ∙ append_assoc olds (places_given (one ∷ [])) _
      ∙ ap (λ es. olds ++ es) (sym (places-append (one ∷ []) (take_places p on (with_place olds x.wish.frame place) xs)))))

  -- none yet
  pub takes-none : (olds : List (Name × Placement)) (before : List Given) → Takes p on olds olds before before []
  unfolding take_places
  takes-none olds before = record { given = sym (append-nil before); filled = sym (append-nil olds) }

  -- first some, and then others
  pub takes-more : (a b c : List (Name × Placement)) (x y z : List Given) (turns more : List Asked) → Takes p on a b x y turns → Takes p on b c y z more → Takes p on a c x z (turns ++ more)
  takes-more a b c x y z turns more first then =
      let first_taken = take_places p on a turns in
      let later = ap (λ es. take_places p on es more) first.filled in
      record {
        given =
            then.given ∙ (λ i. first.given i ++ later i) ∙ append_assoc x first_taken _
            ∙ ap (λ gs. x ++ gs) (sym (takes-append a turns more));
        filled =
            then.filled ∙ (λ i. first.filled i ++ places_given (later i)) ∙ append_assoc a (places_given first_taken) _
            ∙ ap (λ es. a ++ es) (sym (places-append first_taken _) ∙ ap places_given (sym (takes-append a turns more)));
      }

  -- one wish
  pub takes-one : (asked : Asked) (slots : List ℕ) (cs : Channels) (r : ℕ) (olds news : List (Name × Placement)) (before after : List Given) → is_for cs r asked ≡ true → on cs ≡ slots
      → after ≡ before ++ record { asked = asked; place = fittest p olds slots cs r } ∷ [] → news ≡ with_place olds asked.wish.frame (fittest p olds slots cs r)
      → Takes p on olds news before after (asked ∷ [])
  unfolding take_places
  takes-one asked slots cs r olds news before after for at given filled =
      let parts = and_parts (eqb (channels_number asked.wish.channels) (channels_number cs)) _ for in
      let kind : asked.wish.channels ≡ cs = same_channels asked.wish.channels cs (eqb-true _ _ parts.0) in
      let often : asked.wish.repetition ≡ r = eqb-true asked.wish.repetition r parts.1 in
      let same : fittest p olds slots cs r ≡ fittest p olds (on asked.wish.channels) asked.wish.channels asked.wish.repetition =
      ap (λ s. fittest p olds s cs r) (sym at) ∙ (λ i. fittest p olds (on (sym kind i)) (sym kind i) (sym often i)) in
      record {
        given = given ∙ ap (λ place. before ++ record { asked = asked; place = place } ∷ []) same;
        filled = filled ∙ ap (with_place olds asked.wish.frame) same ∙ placed-one olds asked _;
      }

-- ---- of a list those that are of a kind

module _ {X : Type 0} (t : X → Bool) (xs : List X) (i : ℕ) (x : X) (low : i < length xs) (is : x ≡ get_or xs i x) where
  taken_next : take (i + 1) xs ≡ take i xs ++ x ∷ []
  taken_next = take_more xs i x low ∙ ap (λ z. take i xs ++ z ∷ []) (sym is)

  pub kept-next : t x ≡ true → filter t (take i xs) ++ x ∷ [] ≡ filter t (take (i + 1) xs)
  kept-next passes = ap (λ b. filter t (take i xs) ++ cond b (x ∷ []) []) (sym passes) ∙ sym (filter-append t (take i xs) (x ∷ [])) ∙ ap (filter t) (sym taken_next)

  pub left-next : t x ≡ false → filter t (take i xs) ≡ filter t (take (i + 1) xs)
  left-next fails = sym (append-nil (filter t (take i xs))) ∙ ap (λ b. filter t (take i xs) ++ cond b (x ∷ []) []) (sym fails) ∙ sym (filter-append t (take i xs) (x ∷ [])) ∙ ap (filter t) (sym taken_next)

pub none-kept : {X : Type 0} (t : X → Bool) (xs : List X) → list_any t xs ≡ false → filter t xs ≡ []
none-kept t [] none = refl
none-kept t (x ∷ xs) none = elim (cases_Bool (t x)) [
  | inl passes ↦ let some = rw passes at none in cc
  | inr fails ↦ rw fails (none-kept t xs (rw fails at none))
]

-- the turns of the repetitions below one
abbrev pub turns_below : Params → List Asked → Channels → ℕ → List Asked
turns_below p wishes cs n = flat_map (λ r. filter (is_for cs r) wishes) (filter (is_repetition p.cycles) (range_with_len 1 n))

module _ (p : Params) (wishes : List Asked) (cs : Channels) (r m : ℕ) (at : r ≡ 1 + m) where
  one-turn : turns_below p wishes cs (suc m) ≡ turns_below p wishes cs m ++ flat_map (λ r. filter (is_for cs r) wishes) (filter (is_repetition p.cycles) (r ∷ []))
  one-turn =
      ap (λ rs. flat_map (λ r. filter (is_for cs r) wishes) (filter (is_repetition p.cycles) rs)) (range-more 1 m ∙ ap (λ z. range_with_len 1 m ++ z ∷ []) (sym at))
      ∙ ap (flat_map (λ r. filter (is_for cs r) wishes)) (filter-append (is_repetition p.cycles) (range_with_len 1 m) (r ∷ []))
      ∙ flat_map-append (λ r. filter (is_for cs r) wishes) (filter (is_repetition p.cycles) (range_with_len 1 m)) (filter (is_repetition p.cycles) (r ∷ []))

  pub turn-more : (n : ℕ) → n ≡ suc m → is_repetition p.cycles r ≡ true → turns_below p wishes cs m ++ filter (is_for cs r) wishes ≡ turns_below p wishes cs n
  turn-more n next divides = ap (λ ys. turns_below p wishes cs m ++ ys) (sym (append-nil (filter (is_for cs r) wishes))) ∙ ap (λ b. turns_below p wishes cs m ++ flat_map (λ r. filter (is_for cs r) wishes) (cond b (r ∷ []) [])) (sym divides) ∙ sym one-turn ∙ ap (turns_below p wishes cs) (sym next)

  pub turn-skipped : (n : ℕ) → n ≡ suc m → is_repetition p.cycles r ≡ false → turns_below p wishes cs m ≡ turns_below p wishes cs n
  turn-skipped n next other = sym (append-nil (turns_below p wishes cs m)) ∙ ap (λ b. turns_below p wishes cs m ++ flat_map (λ r. filter (is_for cs r) wishes) (cond b (r ∷ []) [])) (sym other) ∙ sym one-turn ∙ ap (turns_below p wishes cs) (sym next)

-- ---- the slots that are held

module _ (t : ℕ → Bool) where
  pub held-more : (olds news : List ℕ) (number m n slot : ℕ) → number ≡ 1 + m → n ≡ suc m → slot ≡ number → olds ≡ filter t (range_with_len 1 m) → news ≡ olds ++ filter t (slot ∷ []) → news ≡ filter t (range_with_len 1 n)
  held-more olds news number m n slot at next is was e =
      e ∙ (λ i. was i ++ filter t ((is ∙ at) i ∷ []))
      ∙ sym (filter-append t (range_with_len 1 m) ((1 + m) ∷ []))
      ∙ ap (filter t) (sym (range-more 1 m) ∙ ap (range_with_len 1) (sym next))

  pub held-one : (olds news : List ℕ) (slot : ℕ) → t slot ≡ true → news ≡ olds ++ slot ∷ [] → news ≡ olds ++ filter t (slot ∷ [])
  held-one olds news slot passes e = e ∙ ap (λ b. olds ++ cond b (slot ∷ []) []) (sym passes)

  pub held-none : (olds : List ℕ) (slot : ℕ) → t slot ≡ false → olds ≡ olds ++ filter t (slot ∷ [])
  held-none olds slot fails = sym (append-nil olds) ∙ ap (λ b. olds ++ cond b (slot ∷ []) []) (sym fails)

  -- one of them is found, or none is
  pub any-found : (a n k : ℕ) → a ≤ k → k < a + n → t k ≡ true → true ≡ list_any t (range_with_len a n)
  any-found a zero k low high passes = absurd (omega (arith, low, high))
  any-found a (suc n) k low high passes = elim (cases_Bool (t a)) [
    | inl first ↦ rw first refl
    | inr fails ↦
        let later : a + 1 ≤ k = omega (arith, low, not_first k passes fails) in
        rw fails (any-found (a + 1) n k later (omega (arith, high)) passes)
  ]
    where
      not_first : (k : ℕ) → t k ≡ true → t a ≡ false → ¬ (a ≡ k)
      not_first k passes fails same = true≢false (sym passes ∙ ap t (sym same) ∙ fails)

  pub any-nowhere : (a n : ℕ) → ((k : ℕ) → a ≤ k → k < a + n → t k ≡ false) → false ≡ list_any t (range_with_len a n)
  any-nowhere a zero none = refl
  any-nowhere a (suc n) none = rw (none a (omega arith) (omega arith)) (any-nowhere (a + 1) n (λ k low high. none k (omega (arith, low)) (omega (arith, high))))
