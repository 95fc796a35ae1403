-- Each wish of a node has a placement exactly where all fit: wishes fit in one order where they do in another.
use Rattle.std.proofs.Common.{◌≡◌, ◌≢◌, ◌↔◌, ◌<◌, ◌≤◌, ◌+◌, ◌*◌, ◌%◌, ◌∙◌, ℕ, nat_le, true, false, cond, List, [], ◌∷◌, ◌++◌, map, filter, Option, Some, None, is_some, IsTrue, refl, sym, ap, subst, inl, inr, arith, true≢false}
use Rattle.std.specs.List.{AllByRecursion, list_all, range_with_len}
use Rattle.std.specs.Prelude.{◌==◌}
use Rattle.std.proofs.lemmas.Bool.{cases_Bool, cases_lt, and_parts, eqb-true, eq-eqb, ne_eqb}
use Rattle.std.proofs.lemmas.Bool.Decides.{nat_tests}
use Rattle.std.proofs.lemmas.Nat.{mod-mul-add}
use Rattle.std.specs.Option.{unwrap_or}
use Rattle.fr_base.specs.Cells.{slots_of, has_cell}
use Rattle.fr_base.specs.Channels.{channels_in, channels_number, has_channel}
use Rattle.fr_base.specs.Cycles.{is_cycle_count, is_repetition}
use Rattle.fr_base.specs.OwnRows.{OwnRows, own_rows}
use Rattle.fr_base.specs.Wishes.{wishes_of_body}
use Rattle.fr_base.specs.Turns.{is_for, repetitions_of, turns_on, in_turn, with_place, fittest_for, take_places}
use Rattle.fr_base.specs.RefusedWishes.{frames_beside, asked_of, counted_frames}
use Rattle.fr_base.specs.Proposals.{held_slots, is_of_node, place_at, proposal}
use Rattle.fr_base.specs.Fits.{MayStand, FitBeside, Fit}
use Rattle.fr_base.specs.ProposalLaws.{AreChain, placement_told, has_placement, AllAreGivenWhereAllFit}
use Rattle.fr_base.specs.declared.channel.Channels.{Channels}
use Rattle.fr_base.specs.declared.channel.Channels.TheVariants as channels
use Rattle.fr_base.specs.declared.name.Name.{Name}
use Rattle.fr_base.specs.declared.params.Params.{Params}
use Rattle.fr_base.specs.declared.placement.Placement.{Placement}
use Rattle.fr_base.specs.declared.proposal.Given.{Given}
use Rattle.fr_base.specs.declared.proposal.Proposal.{Proposal}
use Rattle.fr_base.specs.declared.wish.Asked.{Asked}
use Rattle.fr_base.specs.declared.wish.Wish.{Wish}
use Rattle.fr_base.specs.declared.wish.WishRead.{WishRead}
use Rattle.fr_base.proofs.SoundTables.{value_of}
use Rattle.fr_base.proofs.FreeCells.{free-empty, empty-free, both-empty, one-empty}
use Rattle.fr_base.proofs.AskedLines.{Member, member-filter, member-kept, flat-member, AreNumbered, body-numbered, judge-numbered}
use Rattle.fr_base.proofs.FitPlaces.{others-fit, some_cycle}
use Rattle.fr_base.proofs.TurnOrder.{Pairs, pairs-filter, each-of, of-each, IsBefore, turn_of, turn-member}
use Rattle.fr_base.proofs.TurnLaws.{wishes_of, AreInOrder, taken-stands, untaken-stands}
use Rattle.fr_base.proofs.GivenLaws.{the_judged, of_node, there, taken, all_given, one-wish, asked-by_line, wish-admitted, turn-asked, turns-before, not_before_itself, asked-taken, taken-at, told-is, proposed_for}
use Rattle.fr_base.proofs.GivenPlaces.{AreDisjoint, stands-fewer, stands-apart, placed-stands, placed-apart}
use Rattle.fr_base.proofs.CertainLaws.{held-has, sound-count, divides-up, chain-of}
use Rattle.fr_base.proofs.ClassSwaps.{DividesEach}
use Rattle.fr_base.proofs.FittestLaws.{In, in-range}
use Rattle.fr_base.proofs.SoundRows.{same_text-is}

-- ---- a placement for each wish, in whatever order

-- each wish may stand where it is put, and no two share a cell
pub record IsWay (own : OwnRows) (filled : List (Name × Placement)) (way : Asked → Placement) (asked : List Asked) : Type 0 where
  pub stand : AllByRecursion (λ a. MayStand own filled a.wish (way a)) asked
  pub apart : Pairs (λ a b. AreDisjoint (way a) (way b)) asked

stands-more : (own : OwnRows) (filled : List (Name × Placement)) (f : Name) (r : Placement) (wish : Wish) (q : Placement) → MayStand own filled wish q → AreDisjoint r q → MayStand own (filled ++ (f, r) ∷ []) wish q
stands-more own filled f r wish q h apart = record {
  fits = h.fits;
  channels = h.channels;
  repetition = h.repetition;
  granted = h.granted;
  free = empty-free (filled ++ (f, r) ∷ []) q (λ c has. both-empty filled ((f, r) ∷ []) c (free-empty filled q h.free c has) (one-empty f r c (elim (cases_Bool (has_cell r c)) [
    | inl clash ↦ absurd (apart c clash has)
    | inr lacks ↦ lacks
  ])));
}

way-more : (own : OwnRows) (filled : List (Name × Placement)) (way : Asked → Placement) (a : Asked) (asked : List Asked) → AllByRecursion (λ b. MayStand own filled b.wish (way b)) asked → AllByRecursion (λ b. AreDisjoint (way a) (way b)) asked →
    AllByRecursion (λ b. MayStand own (filled ++ (a.wish.frame, way a) ∷ []) b.wish (way b)) asked
way-more own filled way a [] h k = tt
way-more own filled way a (b ∷ asked) h k = (stands-more own filled a.wish.frame (way a) b.wish (way b) h.0 k.0, way-more own filled way a asked h.1 k.1)

pub way-fits : (own : OwnRows) (filled : List (Name × Placement)) (way : Asked → Placement) (asked : List Asked) → IsWay own filled way asked → FitBeside own filled (wishes_of asked) (map way asked)
way-fits own filled way [] h = tt
way-fits own filled way (a ∷ asked) h =
    (h.stand.0, way-fits own (filled ++ (a.wish.frame, way a) ∷ []) way asked (record { stand = way-more own filled way a asked h.stand.1 h.apart.0; apart = h.apart.1 }))

-- ---- from one order to another

-- where a wish is put that is not among them
abbrev nowhere : Placement
nowhere = record { slot = 0; channels = channels.A; cycles = record { count = 0; base = 0; repetition = 0 } }

-- where these placements put the wishes, by their lines
abbrev pub way_of : List Asked → List Placement → Asked → Placement
way_of [] qs a = nowhere
way_of (b ∷ asked) [] a = nowhere
way_of (b ∷ asked) (q ∷ qs) a = cond (b.line == a.line) q (way_of asked qs a)

abbrev pub HaveLines : List Asked → Type 0
HaveLines = Pairs (λ (a b : Asked). a.line ≢ b.line)

same-way : (own : OwnRows) (filled : List (Name × Placement)) (way other : Asked → Placement) (asked : List Asked) → AllByRecursion (λ a. way a ≡ other a) asked → IsWay own filled way asked → IsWay own filled other asked
same-way own filled way other [] e h = record { stand = tt; apart = tt }
same-way own filled way other (a ∷ asked) e h =
    let rest = same-way own filled way other asked e.1 (record { stand = h.stand.1; apart = h.apart.1 }) in
    record { stand = (subst (MayStand own filled a.wish) e.0 h.stand.0, rest.stand); apart = (all asked e.1 h.apart.0, rest.apart) }
  where
    all : (xs : List Asked) → AllByRecursion (λ b. way b ≡ other b) xs → AllByRecursion (λ b. AreDisjoint (way a) (way b)) xs → AllByRecursion (λ b. AreDisjoint (other a) (other b)) xs
    all [] k d = tt
    all (b ∷ xs) k d = (subst (λ (z : Placement × Placement). AreDisjoint z.0 z.1) (λ i. (e.0 i, k.0 i)) d.0, all xs k.1 d.1)

beside-way : (own : OwnRows) (filled : List (Name × Placement)) (f : Name) (q : Placement) (way : Asked → Placement) (asked : List Asked) → AllByRecursion (λ a. MayStand own (filled ++ (f, q) ∷ []) a.wish (way a)) asked →
    AllByRecursion (λ a. MayStand own filled a.wish (way a)) asked × AllByRecursion (λ a. AreDisjoint q (way a)) asked
beside-way own filled f q way [] h = (tt, tt)
beside-way own filled f q way (a ∷ asked) h =
    let rest = beside-way own filled f q way asked h.1 in
    ((stands-fewer own filled ((f, q) ∷ []) a.wish (way a) h.0, rest.0), (stands-apart own filled f q a.wish (way a) h.0, rest.1))

pub fit-way : (own : OwnRows) (filled : List (Name × Placement)) (asked : List Asked) (qs : List Placement) → HaveLines asked → FitBeside own filled (wishes_of asked) qs → IsWay own filled (way_of asked qs) asked
fit-way own filled [] qs lines fits = record { stand = tt; apart = tt }
fit-way own filled (a ∷ asked) [] lines fits = absurd fits
fit-way own filled (a ∷ asked) (q ∷ qs) lines fits =
    let here : q ≡ way_of (a ∷ asked) (q ∷ qs) a = sym (ap (λ t. cond t q (way_of asked qs a)) (eq-eqb a.line a.line refl)) in
    let rest = fit-way own (filled ++ (a.wish.frame, q) ∷ []) asked qs lines.1 fits.1 in
    let both = beside-way own filled a.wish.frame q (way_of asked qs) asked rest.stand in
    let later = same-way own filled (way_of asked qs) (way_of (a ∷ asked) (q ∷ qs)) asked (others asked lines.0) (record { stand = both.0; apart = rest.apart }) in
    record {
      stand = (subst (MayStand own filled a.wish) here fits.0, later.stand);
      apart = (apart asked lines.0 both.1, later.apart);
    }
  where
    others : (xs : List Asked) → AllByRecursion (λ b. a.line ≢ b.line) xs → AllByRecursion (λ b. way_of asked qs b ≡ way_of (a ∷ asked) (q ∷ qs) b) xs
    others [] k = tt
    others (b ∷ xs) k = (sym (ap (λ t. cond t q (way_of asked qs b)) (ne_eqb a.line b.line k.0)), others xs k.1)

    apart : (xs : List Asked) → AllByRecursion (λ b. a.line ≢ b.line) xs → AllByRecursion (λ b. AreDisjoint q (way_of asked qs b)) xs → AllByRecursion (λ b. AreDisjoint (way_of (a ∷ asked) (q ∷ qs) a) (way_of (a ∷ asked) (q ∷ qs) b)) xs
    apart [] k d = tt
    apart (b ∷ xs) k d =
        (subst (λ (z : Placement × Placement). AreDisjoint z.0 z.1) (λ i. (sym (ap (λ t. cond t q (way_of asked qs a)) (eq-eqb a.line a.line refl)) i, sym (ap (λ t. cond t q (way_of asked qs b)) (ne_eqb a.line b.line k.0)) i)) d.0, apart xs k.1 d.1)

one-of_two : (way : Asked → Placement) (xs : List Asked) (a b : Asked) → Pairs (λ x y. AreDisjoint (way x) (way y)) xs → Member a xs → Member b xs → (a ≡ b → ⊥) → AreDisjoint (way a) (way b)
one-of_two way [] a b pairs at in_too differ = absurd at
one-of_two way (x ∷ xs) a b pairs at in_too differ = elim at [
  | inl here ↦ elim in_too [
    | inl too ↦ absurd (differ (here ∙ sym too))
    | inr later ↦ subst (λ z. AreDisjoint (way z) (way b)) (sym here) (of-each (λ y. AreDisjoint (way x) (way y)) xs b pairs.0 later)
  ]
  | inr before ↦ elim in_too [
    | inl too ↦ λ c in_a in_b. subst (λ z. AreDisjoint (way z) (way a)) (sym too) (of-each (λ y. AreDisjoint (way x) (way y)) xs a pairs.0 before) c in_b in_a
    | inr later ↦ one-of_two way xs a b pairs.1 before later differ
  ]
]

-- a way for some wishes is one for others that are among them
pub way-among : (own : OwnRows) (filled : List (Name × Placement)) (way : Asked → Placement) (asked : List Asked) → IsWay own filled way asked → (xs : List Asked) → ((x : Asked) → Member x xs → Member x asked) → HaveLines xs → IsWay own filled way xs
way-among own filled way asked h [] among lines = record { stand = tt; apart = tt }
way-among own filled way asked h (x ∷ xs) among lines =
    let rest = way-among own filled way asked h xs (λ y at. among y (inr at)) lines.1 in
    record {
      stand = (of-each (λ a. MayStand own filled a.wish (way a)) asked x h.stand (among x (inl refl)), rest.stand);
      apart = (each-of (λ y. AreDisjoint (way x) (way y)) xs (λ y at. one-of_two way asked x y h.apart (among x (inl refl)) (among y (inr at)) (λ same. of-each (λ z. x.line ≢ z.line) xs y lines.0 at (ap (λ (z : Asked). z.line) same))), rest.apart);
    }

-- ---- where all fit, each takes a place

module _ (own : OwnRows) (m : Name) (cs : Channels) (count : is_cycle_count own.params.cycles ≡ true) (has : IsTrue (list_all (has_channel own.params.channels) (channels_in cs))) where
  pub all-take : (filled : List (Name × Placement)) (asked : List Asked) → AreInOrder own m cs count has (wishes_of asked) → Fit own filled (wishes_of asked) → AllByRecursion (λ g. is_some g.place ≡ true) (take_places own.params (held_slots own m) filled asked)
  unfolding take_places
  all-take filled [] h fit = tt
  all-take filled (a ∷ asked) h fit =
      (elim (fittest_for own.params (held_slots own m) filled a.wish) as (λ place. fittest_for own.params (held_slots own m) filled a.wish ≡ place →
      (is_some place ≡ true) × AllByRecursion (λ g. is_some g.place ≡ true) (take_places own.params (held_slots own m) (with_place filled a.wish.frame place) asked)) [
        | None ↦ λ e. absurd (nothing fit.0 fit.1 e)
        | Some q ↦ λ e. (
          refl,
          all-take (filled ++ (a.wish.frame, q) ∷ []) asked (record { of = h.of.1; divide = h.divide.1; chain = h.chain.1 })
              (others-fit own m cs count has filled a.wish q (wishes_of asked) h.of h.divide h.chain.0 (taken-stands own m cs count has filled a.wish q h.of.0 h.divide.0 e) fit),
        )
      ]) refl
    where
      nothing : (qs : List Placement) → FitBeside own filled (wishes_of (a ∷ asked)) qs → fittest_for own.params (held_slots own m) filled a.wish ≡ None → ⊥
      nothing [] fits e = fits
      nothing (q ∷ qs) fits e = untaken-stands own m cs count has filled a.wish q h.of.0 e fits.0

  -- wishes in order of turns, of this node and for these channels
  pub all-in_order : (wishes : List Asked) → AreChain (map (λ a. a.wish.repetition) wishes) → (xs : List Asked) →
      AllByRecursion (λ x. Member x wishes × ((x.wish.node ≡ m) × (x.wish.channels ≡ cs)) × ((0 < x.wish.repetition) × (own.params.cycles % x.wish.repetition ≡ 0))) xs → Pairs IsBefore xs → AreInOrder own m cs count has (wishes_of xs)
  all-in_order wishes chain [] h k = record { of = tt; divide = tt; chain = tt }
  all-in_order wishes chain (x ∷ xs) h k =
      let rest = all-in_order wishes chain xs h.1 k.1 in
      record { of = (h.0.1, rest.of); divide = (h.0.2, rest.divide); chain = (divides xs h.1 k.0, rest.chain) }
    where
      up : (y : Asked) → IsBefore x y → y.wish.channels ≡ cs → x.wish.repetition ≤ y.wish.repetition
      up y less on = elim less [
        | inl early ↦ absurd (omega (arith, early, ap turn_of (h.0.1.1 ∙ sym on)))
        | inr same ↦ elim same.1 [
          | inl low ↦ omega (arith, low)
          | inr level ↦ omega (arith, level.0)
        ]
      ]

      divides : (ys : List Asked) → AllByRecursion (λ y. Member y wishes × ((y.wish.node ≡ m) × (y.wish.channels ≡ cs)) × ((0 < y.wish.repetition) × (own.params.cycles % y.wish.repetition ≡ 0))) ys → AllByRecursion (IsBefore x) ys →
          DividesEach x.wish.repetition (map (λ w. w.repetition) (wishes_of ys))
      divides [] p l = tt
      divides (y ∷ ys) p l = (divides-up x.wish.repetition y.wish.repetition h.0.2.0 (up y l.0 p.0.1.1) (chain-of wishes x y chain h.0.0 p.0.0 h.0.2.0), divides ys p.1 l.1)

-- ---- the law

add_none : (b r : ℕ) → b ≡ 0 * r + b
add_none b r = omega arith

pub within-range : (r n : ℕ) → 0 < n → n % r ≡ 0 → r ≤ n
within-range r n some divides = elim (cases_lt n r) [
  | inl less ↦ let none : n ≡ 0 = sym (ap (λ k. k % r) (add_none n r) ∙ mod-mul-add 0 r n less) ∙ divides in absurd (omega (arith, none, some))
  | inr more ↦ more
]

-- a wish whose repetition is one of the cluster has a turn
pub turn-of : (p : Params) (wishes : List Asked) (a : Asked) → Member a wishes → is_repetition p.cycles a.wish.repetition ≡ true → 0 < p.cycles → Member a (in_turn p wishes)
unfolding in_turn turns_on
turn-of p wishes a at valid some =
    let parts = and_parts (nat_le 1 a.wish.repetition) ((p.cycles % a.wish.repetition) == 0) valid in
    let low : 1 ≤ a.wish.repetition = let t = parts.0 in grind (arith, nat_tests) in
    let high : a.wish.repetition ≤ p.cycles = within-range a.wish.repetition p.cycles some (eqb-true _ _ parts.1) in
    let listed = member-kept (is_repetition p.cycles) a.wish.repetition (range_with_len 1 p.cycles) (member-in a.wish.repetition (range_with_len 1 p.cycles) (in-range a.wish.repetition 1 p.cycles low (omega (arith, high)))) valid in
    let mine : is_for a.wish.channels a.wish.repetition a ≡ true = rw (eq-eqb (channels_number a.wish.channels) (channels_number a.wish.channels) refl) (eq-eqb a.wish.repetition a.wish.repetition refl) in
    flat-member (turns_on p wishes) a a.wish.channels (channels.AB ∷ channels.A ∷ channels.B ∷ []) (kind-there a.wish.channels)
    (flat-member (λ r. filter (is_for a.wish.channels r) wishes) a a.wish.repetition (repetitions_of p) listed (member-kept (is_for a.wish.channels a.wish.repetition) a wishes at mine))
  where
    kind-there : (cs : Channels) → Member cs (channels.AB ∷ channels.A ∷ channels.B ∷ [])
    kind-there channels.AB = inl refl
    kind-there channels.A = inr (inl refl)
    kind-there channels.B = inr (inr (inl refl))

    member-in : (k : ℕ) (xs : List ℕ) → In k xs → Member k xs
    member-in k [] h = h
    member-in k (x ∷ xs) h = elim h [ inl here ↦ inl here | inr later ↦ inr (member-in k xs later) ]

module _ (own : OwnRows) (reads : List WishRead) (first : ℕ) (numbered : AreNumbered first reads) (count : is_cycle_count own.params.cycles ≡ true) (n : Name) (cs : Channels)
    (fits : (a : Asked) → Member a (asked_of (the_judged own false reads first numbered)) → IsTrue (list_all (has_channel own.params.channels) (channels_in a.wish.channels))) where
  abbrev wishes : List Asked
  wishes = of_node own false reads first numbered n

  abbrev turns : List Asked
  turns = in_turn own.params wishes

  abbrev at_first : List (Name × Placement)
  at_first = there own false reads first numbered

  abbrev told : Proposal
  told = proposal own false reads

  asked-one : (a : Asked) → Member a wishes → Member a (asked_of (the_judged own false reads first numbered))
  asked-one a at = (member-filter (is_of_node n) a (asked_of (the_judged own false reads first numbered)) at).0

  node-one : (a : Asked) → Member a wishes → a.wish.node ≡ n
  node-one a at = same_text-is a.wish.node n (member-filter (is_of_node n) a (asked_of (the_judged own false reads first numbered)) at).1

  wish-lines : HaveLines wishes
  wish-lines = lines-of wishes (pairs-filter (λ (x y : Asked). x.line < y.line) (is_of_node n) (asked_of (the_judged own false reads first numbered)) (asked-by_line first (the_judged own false reads first numbered) (judge-numbered own (counted_frames (frames_beside own false reads)) first reads numbered)))
    where
      one : (x : Asked) (xs : List Asked) → AllByRecursion (λ y. x.line < y.line) xs → AllByRecursion (λ y. x.line ≢ y.line) xs
      one x [] h = tt
      one x (y ∷ xs) h = ((λ same. let less = h.0 in omega (arith, less, same)), one x xs h.1)

      lines-of : (xs : List Asked) → Pairs (λ (x y : Asked). x.line < y.line) xs → HaveLines xs
      lines-of [] h = tt
      lines-of (x ∷ xs) h = (one x xs h.0, lines-of xs h.1)

  turn-lines : HaveLines turns
  turn-lines = lines-of turns (λ x at. at) (turns-before own false reads first numbered n)
    where
      lines-of : (xs : List Asked) → ((x : Asked) → Member x xs → Member x turns) → Pairs IsBefore xs → HaveLines xs
      lines-of [] among h = tt
      lines-of (x ∷ xs) among h = (
        each-of (λ y. x.line ≢ y.line) xs (λ y at same. not_before_itself x y (one-wish own false reads first numbered x y (turn-asked own false reads first numbered n x (among x (inl refl))).0 (turn-asked own false reads first numbered n y (among y (inr at))).0 same) (of-each (IsBefore x) xs y h.0 at)),
        lines-of xs (λ y at. among y (inr at)) h.1,
      )

  -- what is told of a wish that has a placement
  placed-told : (a : Asked) → Member a wishes → has_placement told a ≡ true → (q : Placement) × (place_at (all_given own false reads first numbered) a.line ≡ Some q)
  placed-told a at h = go (place_at (all_given own false reads first numbered) a.line) refl (sym (ap (λ o. is_some (placement_told o)) (told-is own false reads first numbered a (asked-one a at))) ∙ h)
    where
      go : (place : Option Placement) → place_at (all_given own false reads first numbered) a.line ≡ place → is_some (placement_told (Some (proposed_for own false reads first numbered a.wish place))) ≡ true → (q : Placement) × (place_at (all_given own false reads first numbered) a.line ≡ Some q)
      go None e k = absurd (true≢false (sym k))
      go (Some q) e k = (q, e)

  told-placed : (a : Asked) → Member a wishes → (q : Placement) → place_at (all_given own false reads first numbered) a.line ≡ Some q → has_placement told a ≡ true
  told-placed a at q e = ap (λ o. is_some (placement_told o)) (told-is own false reads first numbered a (asked-one a at) ∙ ap (λ place. Some (proposed_for own false reads first numbered a.wish place)) e)

  -- where each has a placement, they fit
  given-fit : AllByRecursion (λ a. has_placement told a ≡ true) wishes → Fit own at_first (wishes_of wishes)
  given-fit h =
      let way : Asked → Placement = λ a. unwrap_or (place_at (all_given own false reads first numbered) a.line) nowhere in
      let put : (a : Asked) → Member a wishes → place_at (all_given own false reads first numbered) a.line ≡ Some (way a) =
      λ a at. let x = placed-told a at (of-each (λ b. has_placement told b ≡ true) wishes a h at) in x.1 ∙ ap Some (sym (ap (λ o. unwrap_or o nowhere) x.1)) in (
        map way wishes,
        way-fits own at_first way wishes (record {
          stand = each-of _ wishes (λ a at. placed-stands own reads first numbered count fits a (way a) (asked-one a at) (put a at));
          apart = pairs-with wishes (λ a b at in_too lines. placed-apart own reads first numbered count fits a b (way a) (way b) (asked-one a at) (asked-one b in_too) lines (put a at) (put b in_too)) wish-lines;
        }),
      )
    where
      pairs-with : {S : Asked → Asked → Type 0} (xs : List Asked) → ((a b : Asked) → Member a xs → Member b xs → a.line ≢ b.line → S a b) → HaveLines xs → Pairs S xs
      pairs-with [] f lines = tt
      pairs-with {S} (x ∷ xs) f lines = (each-of (S x) xs (λ y at. f x y (inl refl) (inr at) (of-each (λ z. x.line ≢ z.line) xs y lines.0 at)), pairs-with xs (λ a b at in_too. f a b (inr at) (inr in_too)) lines.1)

  -- where they fit, each has a placement
  fit-given : AllByRecursion (λ a. a.wish.channels ≡ cs) wishes → AreChain (map (λ a. a.wish.repetition) wishes) → Fit own at_first (wishes_of wishes) → (a : Asked) → Member a wishes → has_placement told a ≡ true
  fit-given on chain fit a at =
      let has : IsTrue (list_all (has_channel own.params.channels) (channels_in cs)) = subst (λ k. IsTrue (list_all (has_channel own.params.channels) (channels_in k))) (of-each (λ b. b.wish.channels ≡ cs) wishes a on at) (fits a (asked-one a at)) in
      let way = fit-way own at_first wishes fit.0 wish-lines fit.1 in
      let among : (x : Asked) → Member x turns → Member x wishes = λ x in_turns. (turn-member own.params wishes x in_turns).0 in
      let turned = way-among own at_first (way_of wishes fit.0) wishes way turns among turn-lines in
      let order = all-in_order own n cs count has wishes chain turns
      (each-of _ turns (λ x in_turns. let its = turn-member own.params wishes x in_turns in (its.0, (node-one x its.0, of-each (λ b. b.wish.channels ≡ cs) wishes x on its.0), its.1)))
      (turns-before own false reads first numbered n) in
      let all = all-take own n cs count has at_first turns order (map (way_of wishes fit.0) turns, way-fits own at_first (way_of wishes fit.0) turns turned) in
      let cycles = (of-each (λ b. MayStand own at_first b.wish (way_of wishes fit.0 b)) wishes a way.stand at) in
      let turn = turn-of own.params wishes a at (valid a (way_of wishes fit.0 a) cycles) (some_cycle own n cs count has) in
      let g = given-of (taken own false reads first numbered n) a (subst (Member a) (sym (asked-taken own.params (held_slots own n) at_first turns)) turn) in
      let q = value_of g.0.place (of-each (λ h. is_some h.place ≡ true) (taken own false reads first numbered n) g.0 all g.1) in
      told-placed a at q.0 (ap (λ (z : Asked). place_at (all_given own false reads first numbered) z.line) (sym g.2) ∙ taken-at own reads first numbered n g.0 g.1 ∙ q.1)
    where
      valid : (a : Asked) (q : Placement) → MayStand own at_first a.wish q → is_repetition own.params.cycles a.wish.repetition ≡ true
      valid a q may =
          let set = (and_parts (is_cycle_count q.cycles.count) _ may.fits.cycles).1 in
          subst (λ (z : ℕ × ℕ). is_repetition z.0 z.1 ≡ true) (λ i. (may.fits.count i, may.repetition i)) (and_parts (is_repetition q.cycles.count q.cycles.repetition) _ set).0

      given-of : (xs : List Given) (a : Asked) → Member a (map (λ g. g.asked) xs) → (g : Given) × Member g xs × (g.asked ≡ a)
      given-of [] a h = absurd h
      given-of (x ∷ xs) a h = elim h [
        | inl here ↦ (x, inl refl, sym here)
        | inr later ↦ let more = given-of xs a later in (more.0, inr more.1, more.2)
      ]

  pub given-where_fit : AllByRecursion (λ a. a.wish.channels ≡ cs) wishes → AreChain (map (λ a. a.wish.repetition) wishes) → AllByRecursion (λ a. has_placement told a ≡ true) wishes ↔ Fit own at_first (wishes_of wishes)
  given-where_fit on chain = (given-fit, λ fit. each-of (λ a. has_placement told a ≡ true) wishes (fit-given on chain fit))

pub all_fit : AllAreGivenWhereAllFit
unfolding own_rows frames_beside
all_fit c b s v n x cs body sound found on chain =
    let mine = own_rows c.params b s x in
    let reads = wishes_of_body c.params body in
    let numbered = body-numbered c.params body in
    given-where_fit mine reads numbered.0 numbered.1 (sound-count c b sound) n cs
    (λ a at. held-has c b s v a.wish.node x a.wish.channels (slots_of c.params) sound found (wish-admitted mine false reads numbered.0 numbered.1 a at).1.held) on chain
