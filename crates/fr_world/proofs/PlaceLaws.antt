-- The places of the first placements, noted placement by placement.
use Rattle.std.proofs.Common.{◌≡◌, ℕ, suc, ◌+◌, ◌<◌, Bool, true, false, cond, eqb, List, [], ◌∷◌, ◌++◌, length, take, get_or, set, Option, Some, None, option_map, refl, sym, ap, subst, ◌∙◌, inl, inr, arith, true≢false, add-zero, add-one}
use Rattle.std.specs.List.{position, position_from}
use Rattle.std.specs.Option.{option_or}
use Rattle.std.proofs.lemmas.Bool.{cases_Bool, cases_order, eq-eqb, eqb-true}
use Rattle.std.proofs.lemmas.Iterator.Adapters.{position_from-zero}
use Rattle.std.proofs.Math.Seq.{get_or-append_seam}
use Rattle.std.proofs.lemmas.List.{get_or-set_other, get_or-set_same, get_or_append_left, get_or_default, get_or_past, length-append, length-take-le, take_more}
use Rattle.std.proofs.lemmas.List.Elements.{All-get_or}
use Rattle.std.proofs.lemmas.List.Quantifiers.{position-Some}
use Rattle.fr_base.specs.Book as book
use Rattle.fr_base.specs.Cells.{Cell, has_cell}
use Rattle.fr_base.specs.Schedule.{fill}
use Rattle.fr_base.specs.declared.channel.Channel.{Channel}
use Rattle.fr_base.specs.declared.channel.Channel.TheVariants as channel
use Rattle.fr_world.specs.FirstPlaces.{AreFirst, IsClaimed, first_place, place_at, place_on}
use Rattle.fr_world.specs.Sendings.{HaveSenders, filled, sender_in}
use Rattle.fr_world.specs.declared.triggerings.FrameSender.{FrameSender}
use Rattle.fr_world.specs.declared.triggerings.FrameTriggering.{FrameTriggering}
use Rattle.fr_world.specs.declared.slot_table.FirstPlaces.{FirstPlaces}
use Rattle.fr_world.proofs.ClaimLaws.{claim_of, option_or_none}
use Rattle.fr_world.proofs.MaskLaws.{cell_in, has_cell-other, has_cell-own}

-- ---- places in a list

next-from : {X : Type 0} (t : X → Bool) (a : ℕ) (xs : List X) (y : X) → position_from t a (xs ++ y ∷ []) ≡ option_or (position_from t a xs) (cond (t y) (Some (a + length xs)) None)
next-from t a [] y = ap (λ n. cond (t y) (Some n) None) (sym (add-zero a))
next-from t a (x ∷ xs) y =
    let e : a + 1 + length xs ≡ a + suc (length xs) = omega arith in
    elim (t x) as (λ b. cond b (Some a) (position_from t (a + 1) (xs ++ y ∷ [])) ≡ option_or (cond b (Some a) (position_from t (a + 1) xs)) (cond (t y) (Some (a + suc (length xs))) None)) [
      | true ↦ refl
      | false ↦ next-from t (a + 1) xs y ∙ ap (λ n. option_or (position_from t (a + 1) xs) (cond (t y) (Some n) None)) e
    ]

after-one : {X : Type 0} (t : X → Bool) (a : ℕ) (xs : List X) → position_from t (a + 1) xs ≡ option_map suc (position_from t a xs)
after-one t a [] = refl
after-one t a (x ∷ xs) = elim (t x) as (λ b. cond b (Some (a + 1)) (position_from t (a + 1 + 1) xs) ≡ option_map suc (cond b (Some a) (position_from t (a + 1) xs))) [
  | true ↦ ap Some (add-one a)
  | false ↦ after-one t (a + 1) xs
]

-- with one placement more
first_place-next : (ps : List FrameTriggering) (i : ℕ) (p : FrameTriggering) (c : Cell) → i < length ps → p ≡ get_or ps i p → first_place (take (i + 1) ps) c ≡ option_or (first_place (take i ps) c) (cond (has_cell p.placement c) (Some i) None)
first_place-next ps i p c l e =
    let t : FrameTriggering → Bool = λ p. has_cell p.placement c in
    let some : length (take i ps) ≡ i = length-take-le i ps (omega (arith, l)) in
    let len : 0 + length (take i ps) ≡ i = omega (arith, some) in
    ap (position t) (take_more ps i p l ∙ ap (λ q. take i ps ++ q ∷ []) (sym e))
    ∙ position_from-zero t (take i ps ++ p ∷ [])
    ∙ next-from t 0 (take i ps) p
    ∙ (λ j. option_or (sym (position_from-zero t (take i ps)) j) (cond (t p) (Some (len j)) None))

-- ---- tables

-- no table is an empty table
pub grown : {X : Type 0} (tables : List (List X)) (s : ℕ) → get_or (tables ++ [] ∷ []) s [] ≡ get_or tables s []
grown tables s = elim (cases_order s (length tables)) [
  | inl last ↦ ap (λ n. get_or (tables ++ [] ∷ []) n []) last ∙ get_or-append_seam tables [] [] [] ∙ sym (get_or_past tables s [] (omega (arith, last)))
  | inr (inl before) ↦ get_or_append_left tables ([] ∷ []) [] s before
  | inr (inr after) ↦ get_or_past (tables ++ [] ∷ []) s [] (omega (arith, after, length-append tables ([] ∷ []))) ∙ sym (get_or_past tables s [] (omega (arith, after)))
]

-- with no placement no place is noted
pub first-nothing : AreFirst [] []
first-nothing c = by c.channel
  where
    by : (x : Channel) → place_on x (record { a = None; b = None }) ≡ None
    by channel.A = refl
    by channel.B = refl

-- its slot's table with a placement's claim
pub first-next : (ps : List FrameTriggering) (i n : ℕ) (p : FrameTriggering) (olds rooms : List (List FirstPlaces)) (old new : List FirstPlaces) → i < length ps → p ≡ get_or ps i p
    → AreFirst (take i ps) olds → ((s : ℕ) → get_or rooms s [] ≡ get_or olds s []) → n ≡ p.placement.slot → n < length rooms → old ≡ get_or rooms n old → IsClaimed p.placement i old new
    → AreFirst (take (i + 1) ps) (set rooms n new)
first-next ps i n p olds rooms old new l e first same is low there claims c = elim (cases_Bool (eqb c.slot p.placement.slot)) [
  | inl here ↦
      let at : c.slot ≡ n = eqb-true c.slot p.placement.slot here ∙ sym is in
      let own : has_cell p.placement c ≡ has_cell p.placement (cell_in p.placement.slot c.channel c.cycle) = ap (λ s. has_cell p.placement (cell_in s c.channel c.cycle)) (at ∙ is) in
      ap (λ s. place_at (get_or (set rooms n new) s []) c.cycle c.channel) at
      ∙ ap (λ t. place_at t c.cycle c.channel) (get_or-set_same rooms n new [] low)
      ∙ claims c.cycle c.channel
      ∙ ap (λ t. option_or (place_at t c.cycle c.channel) (claim_of p.placement i c.cycle c.channel)) (there ∙ get_or_default rooms n old [] low)
      ∙ ap (λ s. option_or (place_at (get_or rooms s []) c.cycle c.channel) (claim_of p.placement i c.cycle c.channel)) (sym at)
      ∙ ap (λ t. option_or (place_at t c.cycle c.channel) (claim_of p.placement i c.cycle c.channel)) (same c.slot)
      ∙ (λ j. option_or (first c j) (cond (sym (own ∙ has_cell-own p.placement c.channel c.cycle) j) (Some i) None))
      ∙ sym (first_place-next ps i p c l e)
  | inr other ↦
      ap (λ t. place_at t c.cycle c.channel) (get_or-set_other rooms n c.slot new [] (λ at. true≢false (sym (eq-eqb c.slot p.placement.slot (at ∙ is)) ∙ other)) ∙ same c.slot)
      ∙ first c
      ∙ option_or_none (first_place (take i ps) c)
      ∙ ap (λ b. option_or (first_place (take i ps) c) (cond b (Some i) None)) (sym (has_cell-other p.placement c.slot c.channel c.cycle other))
      ∙ sym (first_place-next ps i p c l e)
]

-- ---- who sends in a cell

module _ (ss : List FrameSender) (c : Cell) where
  abbrev has : FrameTriggering → Bool
  has p = has_cell p.placement c

  abbrev sender_at : List FrameTriggering → FrameTriggering → ℕ → book.Sender
  sender_at ps d j = sender_in ss (get_or ps j d)

  later : (p : FrameTriggering) (ps : List FrameTriggering) (d : FrameTriggering) (r : Option ℕ) → option_map (sender_at ps d) r ≡ option_map (sender_at (p ∷ ps) d) (option_map suc r)
  later p ps d None = refl
  later p ps d (Some j) = refl

  fill-from : (d : FrameTriggering) (ps : List FrameTriggering) → fill (filled ss ps) c ≡ option_map (sender_at ps d) (position_from has 0 ps)
  unfolding fill
  fill-from d [] = refl
  fill-from d (p ∷ ps) = elim (has_cell p.placement c) as (λ b. cond b (Some (sender_in ss p)) (fill (filled ss ps) c) ≡ option_map (sender_at (p ∷ ps) d) (cond b (Some 0) (position_from has 1 ps))) [
    | true ↦ refl
    | false ↦ fill-from d ps ∙ later p ps d (position_from has 0 ps) ∙ ap (option_map (sender_at (p ∷ ps) d)) (sym (after-one has 0 ps))
  ]

  fill-nowhere : (ps : List FrameTriggering) → position_from has 0 ps ≡ None → fill (filled ss ps) c ≡ None
  unfolding fill
  fill-nowhere [] e = refl
  fill-nowhere (p ∷ ps) e = fill-from p (p ∷ ps) ∙ ap (option_map (sender_at (p ∷ ps) p)) e

  module _ (ps : List FrameTriggering) (noted : Option ℕ) (first : noted ≡ first_place ps c) where
    -- the place is in the list
    pub place-within : (place : ℕ) → noted ≡ Some place → place < length ps
    place-within place e = within ps (sym first ∙ e)
      where
        within : (ps : List FrameTriggering) → position has ps ≡ Some place → place < length ps
        within [] e = cc
        within (p ∷ ps) e = (position-Some has (p ∷ ps) place p e).0

    -- the sender of the placement there sends
    pub sender-there : (place : ℕ) (p : FrameTriggering) → noted ≡ Some place → p ≡ get_or ps place p → Some (sender_in ss p) ≡ fill (filled ss ps) c
    sender-there place p e is = ap (λ q. Some (sender_in ss q)) is ∙ ap (option_map (sender_at ps p)) (sym e ∙ first ∙ position_from-zero has ps) ∙ sym (fill-from p ps)

    pub sender-nowhere : noted ≡ None → None ≡ fill (filled ss ps) c
    sender-nowhere e = sym (fill-nowhere ps (sym (position_from-zero has ps) ∙ sym first ∙ e))

-- a placement's sender is in the list
pub sender-within : (ss : List FrameSender) (ps : List FrameTriggering) (place : ℕ) (p : FrameTriggering) → HaveSenders ss ps → place < length ps → p ≡ get_or ps place p → p.sender < length ss
sender-within ss ps place p have l is = subst (λ (q : FrameTriggering). q.sender < length ss) (sym is) (All-get_or (λ q. q.sender < length ss) ps place p l have)
