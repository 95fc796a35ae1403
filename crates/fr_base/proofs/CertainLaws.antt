-- Without `replace`, where the repetitions of a node's wishes are a chain, a wish has no room exactly where it does not fit.
use Rattle.std.proofs.Common.{◌≡◌, ◌↔◌, ◌<◌, ◌≤◌, ◌+◌, ◌*◌, ◌%◌, ◌∙◌, ℕ, true, false, not, cond, List, [], ◌∷◌, ◌++◌, map, filter, Option, Some, None, is_some, Err, IsTrue, refl, sym, ap, subst, inl, inr, arith, true≢false, append_assoc}
use Rattle.std.specs.List.{AllByRecursion, cons_option, filter_map, list_all, list_any}
use Rattle.std.proofs.lemmas.Bool.{cases_Bool, cases_order}
use Rattle.std.proofs.lemmas.Nat.{mod-mul-add}
use Rattle.fr_base.specs.Tables.{get}
use Rattle.fr_base.specs.Channels.{channels_in, has_channel}
use Rattle.fr_base.specs.Cycles.{is_cycle_count}
use Rattle.fr_base.specs.Cluster.{Cluster}
use Rattle.fr_base.specs.Book.{Book, Variant, own_grants, held_by}
use Rattle.fr_base.specs.OwnRows.{OwnRows, own_rows}
use Rattle.fr_base.specs.Wishes.{wishes_of_body}
use Rattle.fr_base.specs.Turns.{in_turn, with_place, fittest_for, take_places, filled_by, places_given}
use Rattle.fr_base.specs.RefusedWishes.{asked_of, frames_beside, holds}
use Rattle.fr_base.specs.Proposals.{held_slots, place_at, proposal}
use Rattle.fr_base.specs.Sound.{IsSound}
use Rattle.fr_base.specs.Fits.{Fit}
use Rattle.fr_base.specs.ProposalLaws.{OneDivides, AreChain, told_at, placement_told, has_placement, is_on, placements_told, there_and, placed_on, NoRoomIsCertain}
use Rattle.fr_base.specs.declared.channel.Channels.{Channels}
use Rattle.fr_base.specs.declared.channel.Channels.TheVariants as channels
use Rattle.fr_base.specs.declared.name.Name.{Name}
use Rattle.fr_base.specs.declared.params.Params.{Params}
use Rattle.fr_base.specs.declared.placement.Placement.{Placement}
use Rattle.fr_base.specs.declared.proposal.Given.{Given}
use Rattle.fr_base.specs.declared.proposal.Proposal.{Proposal}
use Rattle.fr_base.specs.declared.refusal.Refusal.TheVariants.{NoRoom}
use Rattle.fr_base.specs.declared.wish.Asked.{Asked}
use Rattle.fr_base.specs.declared.wish.Wish.{Wish}
use Rattle.fr_base.specs.declared.wish.WishRead.{WishRead}
use Rattle.fr_base.specs.Cells.{slots_of}
use Rattle.fr_base.specs.Keys.{channel_slots}
use Rattle.fr_base.proofs.ParametersLaws.{counted_cycles}
use Rattle.fr_base.proofs.SoundTables.{only-stood}
use Rattle.fr_base.proofs.SoundRows.{holder-is, all_more}
use Rattle.fr_base.proofs.AskedLines.{Member, member-filter, member-front, member-back, AreNumbered, body-numbered}
use Rattle.fr_base.proofs.ClassSwaps.{DividesEach}
use Rattle.fr_base.proofs.TurnOrder.{Pairs, pairs-filter, pairs-member, each-of, of-each, IsBefore, same_kind-is, kind-same, turn-member, turn_of}
use Rattle.fr_base.proofs.TurnLaws.{wishes_of, placed_wishes, given_and, filled_after, take-append, AreInOrder, takes-nothing}
use Rattle.fr_base.proofs.GivenLaws.{the_judged, of_node, all_given, taken, there, asked-taken, taken-asked, taken-at, told-is, wish-admitted, turn-asked, turns-before, proposed_for}

-- ---- those before on other channels come first

module _ (cs : Channels) where
  -- those for other channels, and those for these
  abbrev others : List Asked → List Asked
  others xs = filter (λ a. not (is_on cs a)) xs

  abbrev on : List Asked → List Asked
  on xs = filter (is_on cs) xs

  all-on : (xs : List Asked) → AllByRecursion (λ y. is_on cs y ≡ true) xs → (others xs ≡ []) × (on xs ≡ xs)
  all-on [] h = (refl, refl)
  all-on (y ∷ xs) h = let here = h.0 in let rest = all-on xs h.1 in (rw here rest.0, rw here (ap (λ l. y ∷ l) rest.1))

  -- no wish for other channels comes behind one for these
  abbrev GoFirst : List Asked → Type 0
  GoFirst = Pairs (λ x y. is_on cs x ≡ true → is_on cs y ≡ true)

  others-first : (xs : List Asked) → GoFirst xs → xs ≡ others xs ++ on xs
  others-first [] h = refl
  others-first (x ∷ xs) h = elim (cases_Bool (is_on cs x)) [
    | inl here ↦
        let rest = all-on xs (each-of (λ y. is_on cs y ≡ true) xs (λ y at. of-each (λ z. is_on cs x ≡ true → is_on cs z ≡ true) xs y h.0 at here)) in
        rw here (sym (ap (λ l. l ++ x ∷ on xs) rest.0 ∙ ap (λ l. x ∷ l) rest.1))
    | inr other ↦ rw other (ap (λ l. x ∷ l) (others-first xs h.1))
  ]

turn-same : (cs ds : Channels) → turn_of cs ≡ turn_of ds → cs ≡ ds
turn-same channels.A channels.A h = refl
turn-same channels.A channels.AB h = cc
turn-same channels.A channels.B h = cc
turn-same channels.AB channels.A h = cc
turn-same channels.AB channels.AB h = refl
turn-same channels.AB channels.B h = cc
turn-same channels.B channels.A h = cc
turn-same channels.B channels.AB h = cc
turn-same channels.B channels.B h = refl

turn-up : (x y : Asked) → IsBefore x y → turn_of x.wish.channels ≤ turn_of y.wish.channels
turn-up x y h = elim h [
  | inl less ↦ omega (arith, less)
  | inr same ↦ omega (arith, ap turn_of same.0)
]

-- ---- chains

mod-self : (r : ℕ) → 0 < r → r % r ≡ 0
mod-self r h = let e : r ≡ 1 * r + 0 = omega arith in ap (λ k. k % r) e ∙ mod-mul-add 1 r 0 h

add_none : (b r : ℕ) → b ≡ 0 * r + b
add_none b r = omega arith

-- what is not above another number and divides it or is divided by it, divides it
pub divides-up : (q r : ℕ) → 0 < q → q ≤ r → OneDivides q r → r % q ≡ 0
divides-up q r some up h = elim h [
  | inl divides ↦ divides
  | inr divided ↦ elim (cases_order q r) [
    | inl same ↦ subst (λ k. k % q ≡ 0) same (mod-self q some)
    | inr other ↦ elim other [
      | inl less ↦ let none : q ≡ 0 = sym (ap (λ k. k % r) (add_none q r) ∙ mod-mul-add 0 r q less) ∙ divided in absurd (omega (arith, none, some))
      | inr more ↦ absurd (omega (arith, more, up))
    ]
  ]
]

turned : (q r : ℕ) → OneDivides q r → OneDivides r q
turned q r h = elim h [ inl a ↦ inr a | inr a ↦ inl a ]

chain-each : (ws : List Asked) (x : Asked) (r : ℕ) → AllByRecursion (OneDivides r) (map (λ a. a.wish.repetition) ws) → Member x ws → OneDivides r x.wish.repetition
chain-each [] x r h at = absurd at
chain-each (w ∷ ws) x r h at = elim at [
  | inl here ↦ subst (λ (z : Asked). OneDivides r z.wish.repetition) (sym here) h.0
  | inr later ↦ chain-each ws x r h.1 later
]

pub chain-of : (ws : List Asked) (x y : Asked) → AreChain (map (λ a. a.wish.repetition) ws) → Member x ws → Member y ws → 0 < x.wish.repetition → OneDivides x.wish.repetition y.wish.repetition
chain-of [] x y h at in_too some = absurd at
chain-of (w ∷ ws) x y h at in_too some = elim at [
  | inl here ↦ elim in_too [
    | inl too ↦ inl (subst (λ (z : Asked). z.wish.repetition % x.wish.repetition ≡ 0) (here ∙ sym too) (mod-self x.wish.repetition some))
    | inr later ↦ subst (λ (z : Asked). OneDivides z.wish.repetition y.wish.repetition) (sym here) (chain-each ws y w.wish.repetition h.0 later)
  ]
  | inr before ↦ elim in_too [
    | inl too ↦ turned _ _ (subst (λ (z : Asked). OneDivides z.wish.repetition x.wish.repetition) (sym too) (chain-each ws x w.wish.repetition h.0 before))
    | inr later ↦ chain-of ws x y h.1 before later some
  ]
]

filter_map-append : {X Y : Type 0} (f : X → Option Y) (xs ys : List X) → filter_map f (xs ++ ys) ≡ filter_map f xs ++ filter_map f ys
filter_map-append f [] ys = refl
filter_map-append f (x ∷ xs) ys = elim (f x) as (λ o. cons_option o (filter_map f (xs ++ ys)) ≡ cons_option o (filter_map f xs) ++ filter_map f ys) [
  | None ↦ filter_map-append f xs ys
  | Some y ↦ ap (λ l. y ∷ l) (filter_map-append f xs ys)
]

-- ---- what is told of those before

module _ (own : OwnRows) (reads : List WishRead) (first : ℕ) (numbered : AreNumbered first reads) where
  abbrev told : Proposal
  told = proposal own false reads

  abbrev given : List Given
  given = all_given own false reads first numbered

  -- these are wishes that are not refused, and what they were given is told at their lines
  abbrev AreTold : List Given → Type 0
  AreTold gs = AllByRecursion (λ g. Member g.asked (asked_of (the_judged own false reads first numbered)) × (place_at given g.asked.line ≡ g.place)) gs

  placement-told : (wish : Wish) (place : Option Placement) → placement_told (Some (proposed_for own false reads first numbered wish place)) ≡ elim place as (λ o. Option (Name × Placement)) [ None ↦ None | Some q ↦ Some (wish.frame, q) ]
  placement-told wish None = refl
  placement-told wish (Some q) = refl

  filled-is : (a : Asked) (place : Option Placement) → filled_by (record { asked = a; place = place }) ≡ elim place as (λ o. Option (Name × Placement)) [ None ↦ None | Some q ↦ Some (a.wish.frame, q) ]
  filled-is a None = refl
  filled-is a (Some q) = refl

  told-filled : (g : Given) → Member g.asked (asked_of (the_judged own false reads first numbered)) × (place_at given g.asked.line ≡ g.place) → placement_told (told_at told g.asked.line) ≡ filled_by g
  told-filled g h =
      ap placement_told (told-is own false reads first numbered g.asked h.0 ∙ ap (λ place. Some (proposed_for own false reads first numbered g.asked.wish place)) h.1)
      ∙ placement-told g.asked.wish g.place ∙ sym (filled-is g.asked g.place)

  told-places : (gs : List Given) → AreTold gs → placements_told told (map (λ g. g.asked) gs) ≡ places_given gs
  told-places [] h = refl
  told-places (g ∷ gs) h = λ i. cons_option (told-filled g h.0 i) (told-places gs h.1 i)

  some-filled : (a : Asked) (place : Option Placement) → is_some (filled_by (record { asked = a; place = place })) ≡ is_some place
  some-filled a None = refl
  some-filled a (Some q) = refl

  pub told-placed : (gs : List Given) → AreTold gs → map (λ a. a.wish) (filter (has_placement told) (map (λ g. g.asked) gs)) ≡ placed_wishes gs
  told-placed [] h = refl
  told-placed (g ∷ gs) h =
      let same : has_placement told g.asked ≡ is_some g.place = ap is_some (told-filled g h.0) ∙ some-filled g.asked g.place in
      (elim (is_some g.place) as (λ t. has_placement told g.asked ≡ t → map (λ a. a.wish) (filter (has_placement told) (g.asked ∷ map (λ g. g.asked) gs)) ≡ map (λ g. g.asked.wish) (cond t (g ∷ filter (λ g. is_some g.place) gs) (filter (λ g. is_some g.place) gs))) [
        | true ↦ λ e. rw e (ap (λ l. g.asked.wish ∷ l) (told-placed gs h.1))
        | false ↦ λ e. rw e (told-placed gs h.1)
      ]) same

  -- ---- a wish in its turn

  module _ (count : is_cycle_count own.params.cycles ≡ true) (n : Name) (before after : List Asked) (a : Asked) (chain : AreChain (map (λ a. a.wish.repetition) (of_node own false reads first numbered n)))
      (eq : in_turn own.params (of_node own false reads first numbered n) ≡ before ++ a ∷ after) (has : IsTrue (list_all (has_channel own.params.channels) (channels_in a.wish.channels))) where
    abbrev p : Params
    p = own.params

    abbrev cs : Channels
    cs = a.wish.channels

    abbrev slots : Channels → List ℕ
    slots = held_slots own n

    abbrev at_first : List (Name × Placement)
    at_first = there own false reads first numbered

    -- the turns, those before, and what those on other channels took
    abbrev turns : List Asked
    turns = in_turn own.params (of_node own false reads first numbered n)

    in-turns : (x : Asked) → Member x (before ++ a ∷ after) → Member x turns
    in-turns x at = subst (Member x) (sym eq) at

    pairs : Pairs IsBefore (before ++ a ∷ after)
    pairs = subst (Pairs IsBefore) eq (turns-before own false reads first numbered n)

    each-before : AllByRecursion (λ x. IsBefore x a) before
    each-before = pairs-member IsBefore before a after pairs

    front-pairs : (xs ys : List Asked) → Pairs IsBefore (xs ++ ys) → Pairs IsBefore xs
    front-pairs [] ys h = tt
    front-pairs (x ∷ xs) ys h = (front xs h.0, front-pairs xs ys h.1)
      where
        front : (zs : List Asked) → AllByRecursion (IsBefore x) (zs ++ ys) → AllByRecursion (IsBefore x) zs
        front [] k = tt
        front (z ∷ zs) k = (k.0, front zs k.1)

    before-pairs : Pairs IsBefore before
    before-pairs = front-pairs before (a ∷ after) pairs

    go-first : (xs : List Asked) → Pairs IsBefore xs → AllByRecursion (λ x. IsBefore x a) xs → GoFirst cs xs
    go-first [] h k = tt
    go-first (x ∷ xs) h k = (
      each-of _ xs (λ y at here.
          let up = turn-up x y (of-each (IsBefore x) xs y h.0 at) in
          let last = turn-up y a (of-each (λ z. IsBefore z a) xs y k.1 at) in
          let level : turn_of x.wish.channels ≡ turn_of cs = ap turn_of (same_kind-is x.wish.channels cs here) in
          kind-same y.wish.channels cs (turn-same y.wish.channels cs (omega (arith, up, last, level)))),
      go-first xs h.1 k.1,
    )

    abbrev U : List Asked
    U = others cs before

    abbrev V : List Asked
    V = on cs before

    split : before ≡ U ++ V
    split = others-first cs before (go-first before before-pairs each-before)

    -- what those before took
    abbrev took : List Given
    took = take_places p slots at_first before

    abbrev F : Option Placement
    F = fittest_for p slots (filled_after p slots at_first before) a.wish

    all-taken : taken own false reads first numbered n ≡ took ++ (record { asked = a; place = F } ∷ take_places p slots (with_place (filled_after p slots at_first before) a.wish.frame F) after)
    unfolding take_places
    all-taken = ap (take_places p slots at_first) eq ∙ take-append p slots at_first before (a ∷ after)

    member-taken : (g : Given) → Member g (took ++ (record { asked = a; place = F } ∷ take_places p slots (with_place (filled_after p slots at_first before) a.wish.frame F) after)) → Member g (taken own false reads first numbered n)
    member-taken g at = subst (Member g) (sym all-taken) at

    place-of_a : place_at given a.line ≡ F
    place-of_a = taken-at own reads first numbered n (record { asked = a; place = F }) (member-taken _ (member-back _ took _ (inl refl)))

    each-told : (gs : List Given) → ((g : Given) → Member g gs → Member g (taken own false reads first numbered n)) → AreTold gs
    each-told gs within =
        each-of _ gs (λ g at. (
          (turn-asked own false reads first numbered n g.asked (taken-asked own false reads first numbered n g (within g at))).0,
          taken-at own reads first numbered n g (within g at),
        ))

    parts : took ≡ take_places p slots at_first U ++ take_places p slots (filled_after p slots at_first U) V
    parts = ap (take_places p slots at_first) split ∙ take-append p slots at_first U V

    abbrev beside : List (Name × Placement)
    beside = filled_after p slots at_first U

    u-told : AreTold (take_places p slots at_first U)
    u-told = each-told _ (λ g at. member-taken g (member-front g took _ (subst (Member g) (sym parts) (member-front g _ _ at))))

    v-told : AreTold (take_places p slots beside V)
    v-told = each-told _ (λ g at. member-taken g (member-front g took _ (subst (Member g) (sym parts) (member-back g (take_places p slots at_first U) _ at))))

    beside-is : there_and own told cs before ≡ beside
    unfolding frames_beside
    beside-is =
        ap (λ l. at_first ++ l) (ap (placements_told told) (sym (asked-taken p slots at_first U)) ∙ told-places (take_places p slots at_first U) u-told)

    placed-is : placed_on told cs before ≡ placed_wishes (take_places p slots beside V)
    placed-is = ap (λ l. map (λ x. x.wish) (filter (has_placement told) l)) (sym (asked-taken p slots beside V)) ∙ told-placed (take_places p slots beside V) v-told

    filled-same : filled_after p slots beside V ≡ filled_after p slots at_first before
    filled-same =
        append_assoc at_first (places_given (take_places p slots at_first U)) (places_given (take_places p slots beside V))
        ∙ ap (λ l. at_first ++ l) (sym (filter_map-append filled_by (take_places p slots at_first U) (take_places p slots beside V)) ∙ ap places_given (sym parts))

    -- those on these channels are in order
    abbrev Stands : Asked → Type 0
    Stands x = Member x turns × (x.wish.channels ≡ cs)

    stands-of : (x : Asked) → Stands x → ((x.wish.node ≡ n) × (x.wish.channels ≡ cs)) × ((0 < x.wish.repetition) × (p.cycles % x.wish.repetition ≡ 0))
    stands-of x h = (((turn-asked own false reads first numbered n x h.0).1, h.1), (turn-member p (of_node own false reads first numbered n) x h.0).1)

    divides-one : (x y : Asked) → Stands x → Stands y → IsBefore x y → y.wish.repetition % x.wish.repetition ≡ 0
    divides-one x y h k less =
        let mine = turn-member p (of_node own false reads first numbered n) x h.0 in
        let its = turn-member p (of_node own false reads first numbered n) y k.0 in
        let up : x.wish.repetition ≤ y.wish.repetition = elim less [
          | inl early ↦ absurd (omega (arith, early, ap turn_of h.1, ap turn_of k.1))
          | inr same ↦ elim same.1 [
            | inl low ↦ omega (arith, low)
            | inr level ↦ omega (arith, level.0)
          ]
        ] in
        divides-up x.wish.repetition y.wish.repetition mine.1.0 up (chain-of (of_node own false reads first numbered n) x y chain mine.0 its.0 mine.1.0)

    divides-all : (x : Asked) (ys : List Asked) → Stands x → AllByRecursion Stands ys → AllByRecursion (IsBefore x) ys → Stands a → IsBefore x a → DividesEach x.wish.repetition (map (λ w. w.repetition) (wishes_of ys ++ a.wish ∷ []))
    divides-all x [] h k less last behind = (divides-one x a h last behind, tt)
    divides-all x (y ∷ ys) h k less last behind = (divides-one x y h k.0 less.0, divides-all x ys h k.1 less.1 last behind)

    in-order : (xs : List Asked) → AllByRecursion Stands xs → Pairs IsBefore xs → AllByRecursion (λ x. IsBefore x a) xs → Stands a → AreInOrder own n cs count has (wishes_of xs ++ a.wish ∷ [])
    in-order [] h k less last = let is = stands-of a last in record { of = (is.0, tt); divide = (is.1, tt); chain = (tt, tt) }
    in-order (x ∷ xs) h k less last =
        let is = stands-of x h.0 in
        let rest = in-order xs h.1 k.1 less.1 last in
        record { of = (is.0, rest.of); divide = (is.1, rest.divide); chain = (divides-all x xs h.0 h.1 k.0 last less.0, rest.chain) }

    v-stands : AllByRecursion Stands V
    v-stands = each-of Stands V (λ x at.
        let m = member-filter (is_on cs) x before at in
        (in-turns x (member-front x before (a ∷ after) m.0), same_kind-is x.wish.channels cs m.1))

    v-before : AllByRecursion (λ x. IsBefore x a) V
    v-before = each-of _ V (λ x at. of-each (λ y. IsBefore y a) before x each-before (member-filter (is_on cs) x before at).0)

    a-stands : Stands a
    a-stands = (in-turns a (member-back a before (a ∷ after) (inl refl)), refl)

    nothing : (F ≡ None) ↔ ¬ Fit own (there_and own told cs before) (placed_on told cs before ++ a.wish ∷ [])
    nothing =
        let x = takes-nothing own n cs count has beside V a (in-order V v-stands (pairs-filter IsBefore (is_on cs) before before-pairs) v-before a-stands) in
        let y = subst (λ f. (fittest_for p slots f a.wish ≡ None) ↔ ¬ Fit own beside (given_and (take_places p slots beside V) (a.wish ∷ []))) filled-same x in
        subst (λ (z : List (Name × Placement) × List Wish). (F ≡ None) ↔ ¬ Fit own z.0 (z.1 ++ a.wish ∷ [])) (λ i. (sym beside-is i, sym placed-is i)) y

    none-told : (wish : Wish) (place : Option Placement) → (Some (proposed_for own false reads first numbered wish place) ≡ Some (Err NoRoom)) ↔ (place ≡ None)
    none-told wish None = ((λ e. refl), (λ e. refl))
    none-told wish (Some q) = ((λ e. cc), (λ e. cc))

    pub no_room-certain : (told_at told a.line ≡ Some (Err NoRoom)) ↔ ¬ Fit own (there_and own told cs before) (placed_on told cs before ++ a.wish ∷ [])
    no_room-certain =
        let asked = (turn-asked own false reads first numbered n a a-stands.0).0 in
        let row = told-is own false reads first numbered a asked ∙ ap (λ place. Some (proposed_for own false reads first numbered a.wish place)) place-of_a in
        let tells = none-told a.wish F in (
          (λ e. nothing.0 (tells.0 (sym row ∙ e))),
          (λ none. row ∙ tells.1 (nothing.1 none)),
        )

-- ---- the law

-- a slot that is held has channels of the cluster
pub held-has : (c : Cluster) (b : Book) (s v n : Name) (x : Variant) (cs : Channels) (ss : List ℕ) → IsSound c b → get b.variants v ≡ Some x → list_any (holds (own_rows c.params b s x) n cs) ss ≡ true → IsTrue (list_all (has_channel c.params.channels) (channels_in cs))
unfolding own_rows
held-has c b s v n x cs [] sound found h = absurd (true≢false (sym h))
held-has c b s v n x cs (slot ∷ ss) sound found h = elim (cases_Bool (holds (own_rows c.params b s x) n cs slot)) [
  | inl here ↦
      all_more _ _ (channels_in cs) (λ ch held.
      let own = holder-is s n (get (own_grants s x.grants) (slot, ch)) held in
      let at = only-stood channel_slots (λ _ z. held_by s (Some z)) x.grants (slot, ch) _ own in
      ((sound.variants v x found).1.grants_fit (slot, ch) _ at).channel) here
  | inr other ↦ held-has c b s v n x cs ss sound found (rw other at h)
]

pub sound-count : (c : Cluster) (b : Book) → IsSound c b → is_cycle_count c.params.cycles ≡ true
sound-count c b sound = counted_cycles c.params sound.cluster.params

pub certain : NoRoomIsCertain
unfolding own_rows
certain c b s v n x body before after a sound found chain eq =
    let own = own_rows c.params b s x in
    let reads = wishes_of_body c.params body in
    let numbered = body-numbered c.params body in
    let at = subst (Member a) (sym eq) (member-back a before (a ∷ after) (inl refl)) in
    let asked = (turn-asked own false reads numbered.0 numbered.1 n a at).0 in
    let held = (wish-admitted own false reads numbered.0 numbered.1 a asked).1.held in
    no_room-certain own reads numbered.0 numbered.1 (sound-count c b sound) n before after a chain eq (held-has c b s v a.wish.node x a.wish.channels (slots_of c.params) sound found held)
