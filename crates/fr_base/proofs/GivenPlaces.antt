-- What wishes are given may stand where the supplier's frames are, and no two of them share a cell.
use Rattle.std.proofs.Common.{◌≡◌, ◌≢◌, ◌⊎◌, ◌<◌, ◌%◌, ◌∙◌, ℕ, Bool, true, false, List, [], ◌∷◌, ◌++◌, find, Option, Some, None, IsTrue, refl, sym, ap, subst, inl, inr, true≢false}
use Rattle.std.specs.Option.{option_and_then}
use Rattle.std.specs.List.{AllByRecursion, list_all}
use Rattle.std.proofs.lemmas.Bool.{cases_Bool, eqb-true}
use Rattle.fr_base.specs.Tables.{get}
use Rattle.fr_base.specs.Cells.{Cell, has_cell}
use Rattle.fr_base.specs.Channels.{channels_in, has_channel}
use Rattle.fr_base.specs.Cycles.{is_cycle_count}
use Rattle.fr_base.specs.Book.{Holder, granted, held_by_node}
use Rattle.fr_base.specs.Names.{same_text}
use Rattle.fr_base.specs.OwnRows.{OwnRows}
use Rattle.fr_base.specs.Turns.{in_turn, with_place, fittest_for, take_places, take_turns}
use Rattle.fr_base.specs.RefusedWishes.{asked_of}
use Rattle.fr_base.specs.Fits.{MayStand}
use Rattle.fr_base.specs.Proposals.{held_slots, given_to, given_all, node_names, place_at}
use Rattle.fr_base.specs.declared.name.Name.{Name}
use Rattle.fr_base.specs.declared.placement.Placement.{Placement}
use Rattle.fr_base.specs.declared.proposal.Given.{Given}
use Rattle.fr_base.specs.declared.wish.Asked.{Asked}
use Rattle.fr_base.specs.declared.wish.Wish.{Wish}
use Rattle.fr_base.specs.declared.wish.WishRead.{WishRead}
use Rattle.fr_base.proofs.SoundRows.{same_text-is, holder-is}
use Rattle.fr_base.proofs.SoundTables.{same_some}
use Rattle.fr_base.proofs.SoundCells.{has_cell-in}
use Rattle.fr_base.proofs.AloneCells.{same_text-itself}
use Rattle.fr_base.proofs.FreeCells.{free-empty, empty-free, empty-both, one-lacks}
use Rattle.fr_base.proofs.AskedLines.{Member, member-flat, AreNumbered}
use Rattle.fr_base.proofs.TurnOrder.{Pairs, each-of, of-each, turn-member}
use Rattle.fr_base.proofs.TurnLaws.{taken-stands}
use Rattle.fr_base.proofs.GivenLaws.{is_at, the_judged, of_node, there, taken, all_given, one-wish, turn-asked, taken-asked}

-- they have no cell in common
abbrev pub AreDisjoint : Placement → Placement → Type 0
AreDisjoint q r = (c : Cell) → has_cell q c ≡ true → has_cell r c ≡ true → ⊥

-- beside fewer placements it may stand too
pub stands-fewer : (own : OwnRows) (filled more : List (Name × Placement)) (wish : Wish) (q : Placement) → MayStand own (filled ++ more) wish q → MayStand own filled wish q
stands-fewer own filled more wish q h = record {
  fits = h.fits;
  channels = h.channels;
  repetition = h.repetition;
  granted = h.granted;
  free = empty-free filled q (λ c has. (empty-both filled more c (free-empty (filled ++ more) q h.free c has)).0);
}

-- and has no cell of those
pub stands-apart : (own : OwnRows) (filled : List (Name × Placement)) (f : Name) (r : Placement) (wish : Wish) (q : Placement) → MayStand own (filled ++ (f, r) ∷ []) wish q → AreDisjoint r q
stands-apart own filled f r wish q h c in_r in_q =
    true≢false (sym in_r ∙ one-lacks f r c (empty-both filled ((f, r) ∷ []) c (free-empty (filled ++ (f, r) ∷ []) q h.free c in_q)).1)

-- what was given may stand, and what two were given has no cell in common
abbrev pub Stood : OwnRows → List (Name × Placement) → Given → Type 0
Stood own filled g = (q : Placement) → g.place ≡ Some q → MayStand own filled g.asked.wish q

abbrev pub AreApart : Given → Given → Type 0
AreApart g h = (q r : Placement) → g.place ≡ Some q → h.place ≡ Some r → AreDisjoint q r

-- each of the node, with channels of the cluster and a repetition that divides the count
abbrev pub MayTake : OwnRows → Name → Asked → Type 0
MayTake own m a = (a.wish.node ≡ m) × IsTrue (list_all (has_channel own.params.channels) (channels_in a.wish.channels)) × ((0 < a.wish.repetition) × (own.params.cycles % a.wish.repetition ≡ 0))

module _ (own : OwnRows) (count : is_cycle_count own.params.cycles ≡ true) (m : Name) where
  weaker : (filled : List (Name × Placement)) (f : Name) (place : Option Placement) (gs : List Given) → AllByRecursion (Stood own (with_place filled f place)) gs → AllByRecursion (Stood own filled) gs
  weaker filled f None gs h = h
  weaker filled f (Some q) [] h = tt
  weaker filled f (Some q) (g ∷ gs) h = ((λ r is. stands-fewer own filled ((f, q) ∷ []) g.asked.wish r (h.0 r is)), weaker filled f (Some q) gs h.1)

  apart_from : (filled : List (Name × Placement)) (a : Asked) (place : Option Placement) (gs : List Given) → AllByRecursion (Stood own (with_place filled a.wish.frame place)) gs → AllByRecursion (AreApart (record { asked = a; place = place })) gs
  apart_from filled a None [] h = tt
  apart_from filled a None (g ∷ gs) h = ((λ q r none is. absurd (nothing q none)), apart_from filled a None gs h.1)
    where
      nothing : (q : Placement) → ◌≡◌ {A = Option Placement} None (Some q) → ⊥
      nothing q e = cc
  apart_from filled a (Some p) [] h = tt
  apart_from filled a (Some p) (g ∷ gs) h =
      ((λ q r same is. subst (λ k. AreDisjoint k r) (same_some p q same) (stands-apart own filled a.wish.frame p g.asked.wish r (h.0 r is))), apart_from filled a (Some p) gs h.1)

  pub taken-stood : (filled : List (Name × Placement)) (asked : List Asked) → AllByRecursion (MayTake own m) asked →
      AllByRecursion (Stood own filled) (take_places own.params (held_slots own m) filled asked) × Pairs AreApart (take_places own.params (held_slots own m) filled asked)
  unfolding take_places
  taken-stood filled [] h = (tt, tt)
  taken-stood filled (a ∷ asked) h =
      let place = fittest_for own.params (held_slots own m) filled a.wish in
      let rest = taken-stood (with_place filled a.wish.frame place) asked h.1 in
      let gs = take_places own.params (held_slots own m) (with_place filled a.wish.frame place) asked in (
        (
          (λ q is. taken-stands own m a.wish.channels count h.0.1 filled a.wish q (h.0.0, refl) h.0.2 is),
          weaker filled a.wish.frame place gs rest.0,
        ),
        (apart_from filled a place gs rest.0, rest.1),
      )

-- ---- all that is given

find-is : (t : Given → Bool) (xs : List Given) (g : Given) → find t xs ≡ Some g → Member g xs × (t g ≡ true)
find-is t [] g e = cc
find-is t (x ∷ xs) g e = elim (cases_Bool (t x)) [
  | inl holds ↦ let same = same_some x g (rw holds at e) in (inl (sym same), ap t (sym same) ∙ holds)
  | inr lacks ↦ let more = find-is t xs g (rw lacks at e) in (inr more.0, more.1)
]

found_place : (o : Option Given) (q : Placement) → option_and_then (λ g. g.place) o ≡ Some q → (g : Given) × (o ≡ Some g) × (g.place ≡ Some q)
found_place None q e = cc
found_place (Some g) q e = (g, refl, e)

one-of_two : (xs : List Given) (g h : Given) → Pairs AreApart xs → Member g xs → Member h xs → (g ≡ h → ⊥) → AreApart g h ⊎ AreApart h g
one-of_two [] g h pairs at in_too differ = absurd at
one-of_two (x ∷ xs) g h pairs at in_too differ = elim at [
  | inl here ↦ elim in_too [
    | inl too ↦ absurd (differ (here ∙ sym too))
    | inr later ↦ inl (subst (λ k. AreApart k h) (sym here) (of-each (AreApart x) xs h pairs.0 later))
  ]
  | inr before ↦ elim in_too [
    | inl too ↦ inr (subst (λ k. AreApart k g) (sym too) (of-each (AreApart x) xs g pairs.0 before))
    | inr later ↦ one-of_two xs g h pairs.1 before later differ
  ]
]

-- placements of several nodes have no cell in common
nodes-apart : (own : OwnRows) (m n : Name) (q r : Placement) → IsTrue (granted own.grants own.supplier m q) → IsTrue (granted own.grants own.supplier n r) → (m ≡ n → ⊥) → AreDisjoint q r
unfolding granted
nodes-apart own m n q r by_m by_n differ c in_q in_r =
    let one = has_cell-in (λ x. held_by_node own.supplier m (get own.grants (q.slot, x))) q c by_m in_q in
    let two = has_cell-in (λ x. held_by_node own.supplier n (get own.grants (r.slot, x))) r c by_n in_r in
    let x : get own.grants (c.slot, c.channel) ≡ Some (record { supplier = own.supplier; node = m }) = ap (λ k. get own.grants (k, c.channel)) one.0 ∙ holder-is own.supplier m _ one.1 in
    let y : get own.grants (c.slot, c.channel) ≡ Some (record { supplier = own.supplier; node = n }) = ap (λ k. get own.grants (k, c.channel)) two.0 ∙ holder-is own.supplier n _ two.1 in
    differ (ap (λ (h : Holder). h.node) (same_some _ _ (sym x ∙ y)))

module _ (own : OwnRows) (reads : List WishRead) (first : ℕ) (numbered : AreNumbered first reads) (count : is_cycle_count own.params.cycles ≡ true)
    (fits : (a : Asked) → Member a (asked_of (the_judged own false reads first numbered)) → IsTrue (list_all (has_channel own.params.channels) (channels_in a.wish.channels))) where
  may-take : (n : Name) → AllByRecursion (MayTake own n) (in_turn own.params (of_node own false reads first numbered n))
  may-take n = each-of (MayTake own n) (in_turn own.params (of_node own false reads first numbered n)) (λ a at.
      let mine = turn-asked own false reads first numbered n a at in
      (mine.1, fits a mine.0, (turn-member own.params (of_node own false reads first numbered n) a at).1))

  stood-of : (n : Name) → AllByRecursion (Stood own (there own false reads first numbered)) (taken own false reads first numbered n) × Pairs AreApart (taken own false reads first numbered n)
  stood-of n = taken-stood own count n (there own false reads first numbered) (in_turn own.params (of_node own false reads first numbered n)) (may-take n)

  -- what is given at the line of a wish that is not refused, in its node's turns
  pub record IsGivenAt (a : Asked) (q : Placement) : Type 0 where
    pub given : Given
    pub member : Member given (taken own false reads first numbered a.wish.node)
    pub asked : given.asked ≡ a
    pub place : given.place ≡ Some q

  given-at : (a : Asked) (q : Placement) → Member a (asked_of (the_judged own false reads first numbered)) → place_at (all_given own false reads first numbered) a.line ≡ Some q → IsGivenAt a q
  unfolding given_all given_to take_turns
  given-at a q at e =
      let g = found_place (find (is_at a.line) (all_given own false reads first numbered)) q e in
      let found = find-is (is_at a.line) (all_given own false reads first numbered) g.0 g.1 in
      let node = member-flat (taken own false reads first numbered) g.0 (node_names own) found.0 in
      let its = turn-asked own false reads first numbered node.0 g.0.asked (taken-asked own false reads first numbered node.0 g.0 node.2) in
      let same : g.0.asked ≡ a = one-wish own false reads first numbered g.0.asked a its.0 at (eqb-true _ _ found.1) in
      let name : node.0 ≡ a.wish.node = sym its.1 ∙ ap (λ (z : Asked). z.wish.node) same in
      record { given = g.0; member = subst (λ k. Member g.0 (taken own false reads first numbered k)) name node.2; asked = same; place = g.2 }

  pub placed-stands : (a : Asked) (q : Placement) → Member a (asked_of (the_judged own false reads first numbered)) → place_at (all_given own false reads first numbered) a.line ≡ Some q → MayStand own (there own false reads first numbered) a.wish q
  placed-stands a q at e =
      let g = given-at a q at e in
      let may = of-each (Stood own (there own false reads first numbered)) (taken own false reads first numbered a.wish.node) g.given (stood-of a.wish.node).0 g.member q g.place in
      subst (λ (z : Asked). MayStand own (there own false reads first numbered) z.wish q) g.asked may

  pub placed-apart : (a b : Asked) (q r : Placement) → Member a (asked_of (the_judged own false reads first numbered)) → Member b (asked_of (the_judged own false reads first numbered)) → a.line ≢ b.line →
      place_at (all_given own false reads first numbered) a.line ≡ Some q → place_at (all_given own false reads first numbered) b.line ≡ Some r → AreDisjoint q r
  placed-apart a b q r at in_too differ e k c in_q in_r =
      let g = given-at a q at e in
      let h = given-at b r in_too k in
      elim (cases_Bool (same_text a.wish.node b.wish.node)) [
        | inl same ↦
            let node : b.wish.node ≡ a.wish.node = sym (same_text-is a.wish.node b.wish.node same) in
            elim (one-of_two (taken own false reads first numbered a.wish.node) g.given h.given (stood-of a.wish.node).1 g.member (subst (λ n. Member h.given (taken own false reads first numbered n)) node h.member)
            (λ one. differ (ap (λ (z : Asked). z.line) (sym g.asked ∙ ap (λ (z : Given). z.asked) one ∙ h.asked)))) [
              | inl apart ↦ apart q r g.place h.place c in_q in_r
              | inr apart ↦ apart r q h.place g.place c in_r in_q
            ]
        | inr other ↦ nodes-apart own a.wish.node b.wish.node q r (placed-stands a q at e).granted (placed-stands b r in_too k).granted
            (λ one. true≢false (sym (ap (λ n. same_text n b.wish.node) one ∙ same_text-itself b.wish.node) ∙ other)) c in_q in_r
      ]
