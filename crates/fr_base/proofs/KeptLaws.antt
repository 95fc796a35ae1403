-- Under `replace` nothing moves that need not: where the wishes that keep nothing fit beside all that is kept, it is kept.
use Rattle.std.proofs.Common.{◌≡◌, ◌≢◌, ◌⊎◌, ◌<◌, ◌∙◌, ℕ, true, false, cond, List, [], ◌∷◌, ◌++◌, map, filter, Option, Some, None, is_some, IsTrue, refl, sym, ap, subst, inl, inr, arith, true≢false}
use Rattle.std.specs.Prelude.{is_none}
use Rattle.std.specs.List.{AllByRecursion, list_all}
use Rattle.std.proofs.lemmas.Bool.{cases_Bool, and_parts}
use Rattle.fr_base.specs.Tables.{Table, get}
use Rattle.fr_base.specs.Keys.{owned}
use Rattle.fr_base.specs.Cells.{slots_of}
use Rattle.fr_base.specs.Channels.{channels_in, has_channel}
use Rattle.fr_base.specs.Cycles.{is_cycle_count}
use Rattle.fr_base.specs.Book.{Frame}
use Rattle.fr_base.specs.OwnRows.{OwnRows, own_rows}
use Rattle.fr_base.specs.Wishes.{wishes_of_body}
use Rattle.fr_base.specs.Turns.{in_turn, with_place, take_places, take_turns, all_placed}
use Rattle.fr_base.specs.RefusedWishes.{asked_of}
use Rattle.fr_base.specs.KeptPlaces.{kept_for, keep}
use Rattle.fr_base.specs.Proposals.{held_slots, either, given_with, given_beside, given_to, proposal}
use Rattle.fr_base.specs.Fits.{Fit}
use Rattle.fr_base.specs.ProposalLaws.{AreChain, told_at, placement_told, kept_of_node, without_place, beside_kept, NothingMovesThatNeedNot}
use Rattle.fr_base.specs.declared.channel.Channels.{Channels}
use Rattle.fr_base.specs.declared.name.Name.{Name}
use Rattle.fr_base.specs.declared.placement.Placement.{Placement}
use Rattle.fr_base.specs.declared.proposal.Given.{Given}
use Rattle.fr_base.specs.declared.wish.Asked.{Asked}
use Rattle.fr_base.specs.declared.wish.WishRead.{WishRead}
use Rattle.fr_base.proofs.AskedLines.{Member, member-filter, member-kept, member-front, member-either, AreNumbered, body-numbered}
use Rattle.fr_base.proofs.TurnOrder.{Pairs, pairs-append, pairs-filter, each-of, of-each, turns-in_order, turn-member}
use Rattle.fr_base.proofs.TurnLaws.{wishes_of}
use Rattle.fr_base.proofs.GivenLaws.{HaveOwnLines, the_judged, of_node, there, given_node, given-at_line, node-asked, one-wish, judged-lines, asked-by_line, asked-taken, member-map, pairs-from_map, pairs-lines, wish-admitted, told-is, proposed_for}
use Rattle.fr_base.proofs.AllFitLaws.{HaveLines, way_of, fit-way, way-among, way-fits, all-in_order, all-take}
use Rattle.fr_base.proofs.CertainLaws.{held-has, sound-count}

-- ---- what is kept

kept-asked : (s : Name) (frames : Table owned Frame) (kept : List (Name × Placement)) (asked : List Asked) → map (λ g. g.asked) (keep s frames kept asked) ≡ asked
unfolding keep
kept-asked s frames kept [] = refl
kept-asked s frames kept (a ∷ asked) = ap (λ l. a ∷ l) (kept-asked s frames (with_place kept a.wish.frame (kept_for kept a.wish (get frames (s, a.wish.frame)))) asked)

member-of_map : {X Y : Type 0} (f : X → Y) (y : Y) (xs : List X) → Member y (map f xs) → (x : X) × Member x xs × (f x ≡ y)
member-of_map f y [] h = absurd h
member-of_map f y (x ∷ xs) h = elim h [
  | inl here ↦ (x, inl refl, sym here)
  | inr later ↦ let more = member-of_map f y xs later in (more.0, inr more.1, more.2)
]

own-lines_of : (xs : List Given) → HaveLines (map (λ g. g.asked) xs) → HaveOwnLines xs
own-lines_of xs h = pairs-from_map xs h

-- those with and those without a placement have lines of their own
apart-lines : (xs : List Given) → HaveOwnLines xs → (g h : Given) → Member g (filter (λ g. is_some g.place) xs) → Member h (filter (λ g. is_none g.place) xs) → g.asked.line ≢ h.asked.line
apart-lines [] lines g h at in_too same = absurd at
apart-lines xs lines g h at in_too same =
    let one = member-filter (λ g. is_some g.place) g xs at in
    let two = member-filter (λ g. is_none g.place) h xs in_too in
    differ g.place h.place one.1 two.1 (ap (λ (z : Given). z.place) (one_line xs lines g h one.0 two.0 same))
  where
    differ : (x y : Option Placement) → is_some x ≡ true → is_none y ≡ true → x ≡ y → ⊥
    differ None y e k l = true≢false (sym e)
    differ (Some q) None e k l = cc
    differ (Some q) (Some r) e k l = true≢false (sym k)

    one_line : (ys : List Given) → HaveOwnLines ys → (g h : Given) → Member g ys → Member h ys → g.asked.line ≡ h.asked.line → g ≡ h
    one_line [] lines g h at in_too same = absurd at
    one_line (y ∷ ys) lines g h at in_too same = elim at [
      | inl here ↦ elim in_too [
        | inl too ↦ here ∙ sym too
        | inr later ↦ absurd (of-each (λ z. y.asked.line ≢ z.asked.line) ys h lines.0 later (ap (λ (z : Given). z.asked.line) (sym here) ∙ same))
      ]
      | inr before ↦ elim in_too [
        | inl too ↦ absurd (of-each (λ z. y.asked.line ≢ z.asked.line) ys g lines.0 before (ap (λ (z : Given). z.asked.line) (sym too) ∙ sym same))
        | inr later ↦ one_line ys lines.1 g h before later same
      ]
    ]

all-kept : (xs : List Given) → all_placed (filter (λ g. is_some g.place) xs) ≡ true
all-kept [] = refl
all-kept (x ∷ xs) = elim (cases_Bool (is_some x.place)) [
  | inl holds ↦ rw holds (rw holds (all-kept xs))
  | inr lacks ↦ rw lacks (all-kept xs)
]

all-append : (xs ys : List Given) → all_placed xs ≡ true → all_placed ys ≡ true → all_placed (xs ++ ys) ≡ true
all-append [] ys h k = k
all-append (x ∷ xs) ys h k = let both = and_parts (is_some x.place) (all_placed xs) h in rw (both.0) (all-append xs ys both.1 k)

all-each : (xs : List Given) → AllByRecursion (λ g. is_some g.place ≡ true) xs → all_placed xs ≡ true
all-each [] h = refl
all-each (x ∷ xs) h = let one = h.0 in rw one (all-each xs h.1)

-- ---- of a node

module _ (own : OwnRows) (reads : List WishRead) (first : ℕ) (numbered : AreNumbered first reads) where
  abbrev wishes : Name → List Asked
  wishes n = of_node own true reads first numbered n

  abbrev kept : Name → List Given
  kept n = kept_of_node own reads n

  abbrev others : Name → List Asked
  others n = without_place (kept n)

  abbrev taken_beside : Name → List Given
  taken_beside n = given_beside own n (beside_kept own reads n) (others n)

  wish-lines : (n : Name) → HaveLines (wishes n)
  wish-lines n = lines-of (wishes n) (pairs-filter (λ (x y : Asked). x.line < y.line) _ (asked_of (the_judged own true reads first numbered)) (asked-by_line first (the_judged own true reads first numbered) (judged-lines own true reads first numbered)))
    where
      one : (x : Asked) (xs : List Asked) → AllByRecursion (λ y. x.line < y.line) xs → AllByRecursion (λ y. x.line ≢ y.line) xs
      one x [] h = tt
      one x (y ∷ xs) h = ((λ same. let less = h.0 in omega (arith, less, same)), one x xs h.1)

      lines-of : (xs : List Asked) → Pairs (λ (x y : Asked). x.line < y.line) xs → HaveLines xs
      lines-of [] h = tt
      lines-of (x ∷ xs) h = (one x xs h.0, lines-of xs h.1)

  kept-lines : (n : Name) → HaveOwnLines (kept n)
  kept-lines n = own-lines_of (kept n) (subst HaveLines (sym (kept-asked own.supplier own.frames [] (wishes n))) (wish-lines n))

  kept-one : (n : Name) (g : Given) → Member g (kept n) → Member g.asked (wishes n)
  kept-one n g at = subst (Member g.asked) (kept-asked own.supplier own.frames [] (wishes n)) (member-map (λ g. g.asked) g (kept n) at)

  other-one : (n : Name) (a : Asked) → Member a (others n) → (g : Given) × Member g (filter (λ g. is_none g.place) (kept n)) × (g.asked ≡ a)
  other-one n a at = member-of_map (λ g. g.asked) a (filter (λ g. is_none g.place) (kept n)) at

  other-asked : (n : Name) (a : Asked) → Member a (others n) → Member a (wishes n)
  other-asked n a at =
      let g = other-one n a at in
      subst (λ z. Member z (wishes n)) g.2 (kept-one n g.0 (member-filter (λ g. is_none g.place) g.0 (kept n) g.1).0)

  other-by_line : (n : Name) → Pairs (λ (x y : Asked). x.line < y.line) (others n)
  other-by_line n =
      to-map (filter (λ g. is_none g.place) (kept n)) (pairs-filter (λ (g h : Given). g.asked.line < h.asked.line) (λ g. is_none g.place) (kept n)
      (from-map (kept n) (subst (Pairs (λ (x y : Asked). x.line < y.line)) (sym (kept-asked own.supplier own.frames [] (wishes n)))
      (pairs-filter (λ (x y : Asked). x.line < y.line) _ (asked_of (the_judged own true reads first numbered)) (asked-by_line first (the_judged own true reads first numbered) (judged-lines own true reads first numbered))))))
    where
      from-map : (xs : List Given) → Pairs (λ (x y : Asked). x.line < y.line) (map (λ g. g.asked) xs) → Pairs (λ (g h : Given). g.asked.line < h.asked.line) xs
      from-map [] h = tt
      from-map (x ∷ xs) h = (each-of _ xs (λ g at. of-each (λ b. x.asked.line < b.line) (map (λ g. g.asked) xs) g.asked h.0 (member-map (λ g. g.asked) g xs at)), from-map xs h.1)

      to-map : (xs : List Given) → Pairs (λ (g h : Given). g.asked.line < h.asked.line) xs → Pairs (λ (x y : Asked). x.line < y.line) (map (λ g. g.asked) xs)
      to-map [] h = tt
      to-map (x ∷ xs) h = (each-of _ (map (λ g. g.asked) xs) (λ a at. let g = member-of_map (λ g. g.asked) a xs at in subst (λ (z : Asked). x.asked.line < z.line) g.2 (of-each (λ g. x.asked.line < g.asked.line) xs g.0 h.0 g.1)), to-map xs h.1)

  asked-one : (n : Name) (a : Asked) → Member a (wishes n) → Member a (asked_of (the_judged own true reads first numbered))
  asked-one n a at = (node-asked own true reads first numbered n a at).0

  same-line : (n : Name) (a b : Asked) → Member a (wishes n) → Member b (wishes n) → a.line ≡ b.line → a ≡ b
  same-line n a b at in_too same = one-wish own true reads first numbered a b (asked-one n a at) (asked-one n b in_too) same

  -- the turns of some of a node's wishes
  abbrev turns : List Asked → List Asked
  turns xs = in_turn own.params xs

  turn-lines : (n : Name) (xs : List Asked) → ((x : Asked) → Member x xs → Member x (wishes n)) → Pairs (λ (x y : Asked). x.line < y.line) xs → HaveLines (turns xs)
  turn-lines n xs among by_line =
      pairs-lines (turns xs) (λ a b at in_too same. same-line n a b (among a (turn-member own.params xs a at).0) (among b (turn-member own.params xs b in_too).0) same) (turns-in_order own.params xs by_line)

  turn-one : (n : Name) (filled : List (Name × Placement)) (xs : List Asked) (g : Given) → Member g (given_beside own n filled xs) → Member g.asked xs
  unfolding take_turns
  turn-one n filled xs g at =
      (turn-member own.params xs g.asked (subst (Member g.asked) (asked-taken own.params (held_slots own n) filled (turns xs)) (member-map (λ g. g.asked) g (given_beside own n filled xs) at))).0

  -- ---- what is given

  abbrev at_first : List (Name × Placement)
  at_first = there own true reads first numbered

  abbrev with_kept : Name → List Given
  with_kept n = filter (λ g. is_some g.place) (kept n) ++ taken_beside n

  with-one : (n : Name) (g : Given) → Member g (with_kept n) → Member g.asked (wishes n)
  with-one n g at = elim (member-either g (filter (λ g. is_some g.place) (kept n)) (taken_beside n) at) [
    | inl front ↦ kept-one n g (member-filter (λ g. is_some g.place) g (kept n) front).0
    | inr back ↦ other-asked n g.asked (turn-one n (beside_kept own reads n) (others n) g back)
  ]

  either-one : (xs ys : List Given) (g : Given) → Member g (either xs ys) → Member g xs ⊎ Member g ys
  either-one xs ys g at = elim (all_placed xs) as (λ b. Member g (cond b xs (cond (all_placed ys) ys xs)) → Member g xs ⊎ Member g ys) [
    | true ↦ λ h. inl h
    | false ↦ elim (all_placed ys) as (λ b. Member g (cond b ys xs) → Member g xs ⊎ Member g ys) [ true ↦ λ h. inr h | false ↦ λ h. inl h ]
  ] at

  node-one : (n : Name) (g : Given) → Member g (given_node own true reads first numbered n) → Member g.asked (wishes n)
  unfolding given_to given_with
  node-one n g at = elim (either-one (with_kept n) (given_beside own n at_first (wishes n)) g at) [
    | inl one ↦ with-one n g one
    | inr anew ↦ turn-one n at_first (wishes n) g anew
  ]

  with-lines : (n : Name) → HaveOwnLines (with_kept n)
  unfolding take_turns
  with-lines n =
      pairs-append (λ g h. g.asked.line ≢ h.asked.line) (filter (λ g. is_some g.place) (kept n)) (taken_beside n) (pairs-filter _ (λ g. is_some g.place) (kept n) (kept-lines n))
      (pairs-from_map (taken_beside n) (subst HaveLines (sym (asked-taken own.params (held_slots own n) (beside_kept own reads n) (turns (others n)))) (turn-lines n (others n) (other-asked n) (other-by_line n))))
      (each-of _ (filter (λ g. is_some g.place) (kept n)) (λ g at. each-of _ (taken_beside n) (λ h in_too.
      let other = other-one n h.asked (turn-one n (beside_kept own reads n) (others n) h in_too) in
      λ same. apart-lines (kept n) (kept-lines n) g other.0 at other.1 (same ∙ ap (λ (z : Asked). z.line) (sym other.2)))))

  -- ---- where the others fit, all of it is given

  module _ (count : is_cycle_count own.params.cycles ≡ true) (n : Name) (cs : Channels)
      (fits : (a : Asked) → Member a (asked_of (the_judged own true reads first numbered)) → IsTrue (list_all (has_channel own.params.channels) (channels_in a.wish.channels))) where
    other-lines : HaveLines (others n)
    other-lines = lines-of (others n) (other-by_line n)
      where
        one : (x : Asked) (xs : List Asked) → AllByRecursion (λ y. x.line < y.line) xs → AllByRecursion (λ y. x.line ≢ y.line) xs
        one x [] h = tt
        one x (y ∷ xs) h = ((λ same. let less = h.0 in omega (arith, less, same)), one x xs h.1)

        lines-of : (xs : List Asked) → Pairs (λ (x y : Asked). x.line < y.line) xs → HaveLines xs
        lines-of [] h = tt
        lines-of (x ∷ xs) h = (one x xs h.0, lines-of xs h.1)

    all-taken : AllByRecursion (λ a. a.wish.channels ≡ cs) (others n) → AreChain (map (λ a. a.wish.repetition) (others n)) → Fit own (beside_kept own reads n) (wishes_of (others n)) →
        (ts : List Asked) → turns (others n) ≡ ts → AllByRecursion (λ g. is_some g.place ≡ true) (take_places own.params (held_slots own n) (beside_kept own reads n) ts)
    unfolding take_places
    all-taken on chain fit [] is = tt
    all-taken on chain fit (t ∷ ts) is =
        let one : Member t (turns (others n)) = subst (Member t) (sym is) (inl refl) in
        let mine = (turn-member own.params (others n) t one).0 in
        let has : IsTrue (list_all (has_channel own.params.channels) (channels_in cs)) = subst (λ k. IsTrue (list_all (has_channel own.params.channels) (channels_in k))) (of-each (λ b. b.wish.channels ≡ cs) (others n) t on mine) (fits t (asked-one n t (other-asked n t mine))) in
        let way = fit-way own (beside_kept own reads n) (others n) fit.0 other-lines fit.1 in
        let turned = way-among own (beside_kept own reads n) (way_of (others n) fit.0) (others n) way (turns (others n)) (λ x at. (turn-member own.params (others n) x at).0) (turn-lines n (others n) (other-asked n) (other-by_line n)) in
        let order = all-in_order own n cs count has (others n) chain (turns (others n))
        (each-of _ (turns (others n)) (λ x at.
        let its = turn-member own.params (others n) x at in
        (its.0, ((node-asked own true reads first numbered n x (other-asked n x its.0)).1, of-each (λ b. b.wish.channels ≡ cs) (others n) x on its.0), its.1)))
        (turns-in_order own.params (others n) (other-by_line n)) in
        subst (λ xs. AllByRecursion (λ g. is_some g.place ≡ true) (take_places own.params (held_slots own n) (beside_kept own reads n) xs)) is
        (all-take own n cs count has (beside_kept own reads n) (turns (others n)) order (map (way_of (others n) fit.0) (turns (others n)), way-fits own (beside_kept own reads n) (way_of (others n) fit.0) (turns (others n)) turned))

    given-is : AllByRecursion (λ a. a.wish.channels ≡ cs) (others n) → AreChain (map (λ a. a.wish.repetition) (others n)) → Fit own (beside_kept own reads n) (wishes_of (others n)) → given_node own true reads first numbered n ≡ with_kept n
    unfolding given_to given_with take_turns
    given-is on chain fit =
        let all = all-append (filter (λ g. is_some g.place) (kept n)) (taken_beside n) (all-kept (kept n)) (all-each (taken_beside n) (all-taken on chain fit (turns (others n)) refl)) in
        ap (λ b. cond b (with_kept n) (cond (all_placed (given_beside own n at_first (wishes n))) (given_beside own n at_first (wishes n)) (with_kept n))) all

    pub kept-stays : AllByRecursion (λ a. a.wish.channels ≡ cs) (others n) → AreChain (map (λ a. a.wish.repetition) (others n)) → Fit own (beside_kept own reads n) (wishes_of (others n)) →
        AllByRecursion (λ g. (q : Placement) → g.place ≡ Some q → placement_told (told_at (proposal own true reads) g.asked.line) ≡ Some (g.asked.wish.frame, q)) (kept n)
    kept-stays on chain fit =
        let is = given-is on chain fit in
        each-of _ (kept n) (λ g at q e.
        let here : Member g (with_kept n) = member-front g (filter (λ g. is_some g.place) (kept n)) (taken_beside n) (member-kept (λ g. is_some g.place) g (kept n) at (ap is_some e)) in
        let place = given-at_line own true reads first numbered node-one n g (subst (Member g) (sym is) here) (subst HaveOwnLines (sym is) (with-lines n)) in
        ap placement_told (told-is own true reads first numbered g.asked (asked-one n g.asked (kept-one n g at)) ∙ ap (λ p. Some (proposed_for own true reads first numbered g.asked.wish p)) (place ∙ e)))

pub nothing_moves : NothingMovesThatNeedNot
unfolding own_rows
nothing_moves c b s v n x cs body sound found on chain fit =
    let mine = own_rows c.params b s x in
    let reads = wishes_of_body c.params body in
    let numbered = body-numbered c.params body in
    kept-stays mine reads numbered.0 numbered.1 (sound-count c b sound) n cs
    (λ a at. held-has c b s v a.wish.node x a.wish.channels (slots_of c.params) sound found (wish-admitted mine true reads numbered.0 numbered.1 a at).1.held) on chain fit
