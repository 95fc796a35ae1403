-- Slots with the fittest place in each: the fittest of all, a slot more, and what one place more leaves.
use Rattle.std.proofs.Common.{◌≡◌, ℕ, ◌+◌, ◌%◌, ◌<◌, ◌≤◌, Bool, true, false, ◌&&◌, cond, eqb, List, [], ◌∷◌, ◌++◌, drop, length, map, filter, get_or, take, Option, Some, None, is_some, option_map, refl, sym, ap, subst, ◌∙◌, inl, inr, arith}
use Rattle.std.specs.Prelude.{is_none}
use Rattle.std.specs.List.{count_by, find, flat_map, list_all, range_with_len, sum_by}
use Rattle.std.proofs.lemmas.Bool.{cases_Bool, eq-eqb, eqb-true, ne_eqb}
use Rattle.std.proofs.lemmas.List.{map-append, take_more}
use Rattle.fr_base.specs.Channels.{channels_in}
use Rattle.fr_base.specs.Cycles.{cycles_of}
use Rattle.fr_base.specs.Fittest.{Rated, broken, coarser, divisors_below, fittest, fittest_of, free_places, is_free, least, lesser, on_channel, rated, rated_cmp}
use Rattle.fr_base.specs.Room.{placed, places_on}
use Rattle.fr_base.specs.Schedule.{fill}
use Rattle.fr_base.specs.declared.channel.Channel.{Channel}
use Rattle.fr_base.specs.declared.channel.Channels.{Channels}
use Rattle.fr_base.specs.declared.name.Name.{Name}
use Rattle.fr_base.specs.declared.params.Params.{Params}
use Rattle.fr_base.specs.declared.placement.Placement.{Placement}
use Rattle.fr_world.specs.Masks.{first_cycle, is_free_on}
use Rattle.fr_world.specs.Proposals.{AreRooms, fittest_in, places_left, rated_of, renewed_room, room_of}
use Rattle.fr_world.specs.declared.proposal.rooms.Room.{Room}
use Rattle.fr_world.proofs.FitLaws.{filled_at, least-append, lesser-assoc, lesser-none, rated_total, same_free}
use Rattle.fr_world.proofs.MarkLaws.{free_by_channels}
use Rattle.fr_world.proofs.MaskLaws.{cell_in, filled-more, has_cell-other, or_none}

-- ---- the fittest of several

-- the fittest of those that are found in turn
abbrev pub best_among : List (Option Rated) → Option Rated
best_among [] = None
best_among (x ∷ xs) = lesser rated_cmp x (best_among xs)

pub best_among-push : (xs : List (Option Rated)) (x : Option Rated) → best_among (xs ++ x ∷ []) ≡ lesser rated_cmp (best_among xs) x
best_among-push [] x = lesser-none rated_cmp x
best_among-push (y ∷ xs) x = ap (lesser rated_cmp y) (best_among-push xs x) ∙ sym (lesser-assoc rated_cmp rated_total y (best_among xs) x)

abbrev pub found_in : Room → Option Rated
found_in room = option_map rated_of room.fittest

-- with one more room
pub best-next : (rooms : List Room) (i : ℕ) (room : Room) (old new : Option Rated) → i < length rooms → room ≡ get_or rooms i room → old ≡ best_among (map found_in (take i rooms)) → new ≡ lesser rated_cmp old (found_in room) → new ≡ best_among (map found_in (take (i + 1) rooms))
best-next rooms i room old new low is was e =
    e ∙ ap (λ o. lesser rated_cmp o (found_in room)) was
    ∙ sym (best_among-push (map found_in (take i rooms)) (found_in room))
    ∙ ap best_among (sym (map-append found_in (take i rooms) (room ∷ [])))
    ∙ ap (λ rs. best_among (map found_in rs)) (ap (λ r. take i rooms ++ r ∷ []) is ∙ sym (take_more rooms i room low))

module _ (p : Params) (ps : List (Name × Placement)) (cs : Channels) (r : ℕ) where
  -- the fittest of several slots is the fittest of those that each has
  in-slots : (slots : List ℕ) → least rated_cmp (map (rated ps) (flat_map (λ slot. filter (is_free ps) (places_on p r slot cs)) slots)) ≡ best_among (map (fittest_in p ps cs r) slots)
  unfolding least fittest_in
  in-slots [] = refl
  in-slots (slot ∷ slots) =
      ap (least rated_cmp) (map-append (rated ps) (filter (is_free ps) (places_on p r slot cs)) (flat_map (λ slot. filter (is_free ps) (places_on p r slot cs)) slots))
      ∙ least-append rated_cmp rated_total (map (rated ps) (places_left p ps slot cs r)) (map (rated ps) (flat_map (λ slot. filter (is_free ps) (places_on p r slot cs)) slots))
      ∙ ap (lesser rated_cmp (fittest_in p ps cs r slot)) (in-slots slots)

  of-rooms : (slots : List ℕ) (rooms : List Room) → AreRooms p ps cs r slots rooms → map found_in rooms ≡ map (fittest_in p ps cs r) slots
  of-rooms slots rooms are = sym (seconds room_of rooms) ∙ ap (map (λ e. e.1)) are ∙ seconds (λ slot. (slot, fittest_in p ps cs r slot)) slots
    where
      seconds : {X : Type 0} (f : X → ℕ × Option Rated) (xs : List X) → map (λ e. e.1) (map f xs) ≡ map (λ x. (f x).1) xs
      seconds f [] = refl
      seconds f (x ∷ xs) = ap (λ es. (f x).1 ∷ es) (seconds f xs)

  pub best-found : (slots : List ℕ) (rooms : List Room) (found : Option Rated) → AreRooms p ps cs r slots rooms → found ≡ best_among (map found_in rooms) → option_map (λ x. x.place) found ≡ fittest p ps slots cs r
  unfolding fittest fittest_of free_places
  best-found slots rooms found are e = ap (option_map (λ x. x.place)) (e ∙ ap best_among (of-rooms slots rooms are) ∙ sym (in-slots slots))

  -- a slot more
  pub room-pushed : (slots : List ℕ) (slot : ℕ) (olds news : List Room) (room : Room) → AreRooms p ps cs r slots olds → room.slot ≡ slot → found_in room ≡ fittest_in p ps cs r slot → news ≡ olds ++ room ∷ [] → AreRooms p ps cs r (slots ++ slot ∷ []) news
  room-pushed slots slot olds news room are at is e =
      ap (map room_of) e ∙ map-append room_of olds (room ∷ [])
      ∙ (λ i. are i ++ (at i, is i) ∷ [])
      ∙ sym (map-append (λ slot. (slot, fittest_in p ps cs r slot)) slots (slot ∷ []))

-- ---- one place more

-- what is free depends on what is filled in its slot
free-alike : (ps qs : List (Name × Placement)) (q : Placement) → ((x : Channel) (k : ℕ) → filled_at ps q.slot x k ≡ filled_at qs q.slot x k) → is_free ps q ≡ is_free qs q
unfolding first_cycle
free-alike ps qs q same =
    sym (free_by_channels ps q ∙ same_free ps q)
    ∙ (λ i. list_all (λ x. is_none (find (λ k. same x k i) (cycles_of q.cycles))) (channels_in q.channels))
    ∙ (free_by_channels qs q ∙ same_free qs q)

rated-alike : (ps qs : List (Name × Placement)) (q : Placement) → ((x : Channel) (k : ℕ) → filled_at ps q.slot x k ≡ filled_at qs q.slot x k) → rated ps q ≡ rated qs q
unfolding rated broken
rated-alike ps qs q same = λ i. record {
  place = q;
  together = count_by (λ d. free-alike ps qs (coarser q d) same i) (divisors_below q.cycles.repetition);
  apart = sum_by (λ c. count_by (λ d. free-alike ps qs (coarser (on_channel q c) d) same i) (divisors_below q.cycles.repetition)) (channels_in q.channels);
}

kept_alike : (t u : Placement → Bool) (h k : Placement → Rated) (g : ℕ → Placement) (xs : List ℕ) → ((x : ℕ) → t (g x) ≡ u (g x)) → ((x : ℕ) → h (g x) ≡ k (g x)) → map h (filter t (map g xs)) ≡ map k (filter u (map g xs))
kept_alike t u h k g [] tests values = refl
kept_alike t u h k g (x ∷ xs) tests values = elim (cases_Bool (t (g x))) [
  | inl passes ↦ rw (passes, sym (tests x) ∙ passes) (λ i. values x i ∷ kept_alike t u h k g xs tests values i)
  | inr fails ↦ rw (fails, sym (tests x) ∙ fails) (kept_alike t u h k g xs tests values)
]

module _ (p : Params) (ps : List (Name × Placement)) (f : Name) (q : Placement) (cs : Channels) (r : ℕ) where
  -- another slot has the same fittest place
  pub elsewhere : (slot : ℕ) → eqb slot q.slot ≡ false → fittest_in p ps cs r slot ≡ fittest_in p (ps ++ (f, q) ∷ []) cs r slot
  unfolding fittest_in places_on
  elsewhere slot apart =
      ap (least rated_cmp) (kept_alike (is_free ps) (is_free (ps ++ (f, q) ∷ [])) (rated ps) (rated (ps ++ (f, q) ∷ [])) (placed p r slot cs) (range_with_len 0 r)
      (λ base. free-alike ps (ps ++ (f, q) ∷ []) (placed p r slot cs base) alike)
      (λ base. rated-alike ps (ps ++ (f, q) ∷ []) (placed p r slot cs base) alike))
    where
      alike : (x : Channel) (k : ℕ) → filled_at ps slot x k ≡ filled_at (ps ++ (f, q) ∷ []) slot x k
      alike x k = sym (filled-more ps f q (cell_in slot x k) ∙ or_none _ _ (has_cell-other q slot x k apart))

  -- so only its own slot is looked at anew
  abbrev pub renewed : ℕ → Option Rated → ℕ × Option Rated → ℕ × Option Rated
  renewed slot found e = if_same (eqb e.0 slot)
    where
      if_same : Bool → ℕ × Option Rated
      if_same true = (e.0, found)
      if_same false = e

  renewed-one : (found : Option Rated) → found ≡ fittest_in p (ps ++ (f, q) ∷ []) cs r q.slot → (slot : ℕ) → renewed q.slot found (slot, fittest_in p ps cs r slot) ≡ (slot, fittest_in p (ps ++ (f, q) ∷ []) cs r slot)
  renewed-one found is slot = elim (cases_Bool (eqb slot q.slot)) [
    | inl same ↦ rw same (ap (λ o. (slot, o)) (is ∙ ap (fittest_in p (ps ++ (f, q) ∷ []) cs r) (sym (eqb-true slot q.slot same))))
    | inr other ↦ rw other (ap (λ o. (slot, o)) (elsewhere slot other))
  ]

  module _ (fresh : Room) (at : fresh.slot ≡ q.slot) where
    one_room : (room : Room) → room_of (renewed_room fresh room) ≡ renewed q.slot (option_map rated_of fresh.fittest) (room_of room)
    one_room room = elim (cases_Bool (eqb room.slot fresh.slot)) [
      | inl same ↦
          let mine : eqb room.slot q.slot ≡ true = ap (eqb room.slot) (sym at) ∙ same in
          rw (same, mine) (λ i. (sym (eqb-true room.slot fresh.slot same) i, option_map rated_of fresh.fittest))
      | inr other ↦
          let nor : eqb room.slot q.slot ≡ false = ap (eqb room.slot) (sym at) ∙ other in
          rw (other, nor) refl
    ]

    each_room : (rooms : List Room) → map room_of (map (renewed_room fresh) rooms) ≡ map (λ room. renewed q.slot (option_map rated_of fresh.fittest) (room_of room)) rooms
    each_room [] = refl
    each_room (room ∷ rooms) = λ i. one_room room i ∷ each_room rooms i

  composed : {X : Type 0} (found : Option Rated) (g : X → ℕ × Option Rated) (xs : List X) → map (renewed q.slot found) (map g xs) ≡ map (λ x. renewed q.slot found (g x)) xs
  composed found g [] = refl
  composed found g (x ∷ xs) = ap (λ es. renewed q.slot found (g x) ∷ es) (composed found g xs)

  pub rooms-renewed : (slots : List ℕ) (olds news : List Room) (fresh : Room) → fresh.slot ≡ q.slot → AreRooms p ps cs r slots olds → option_map rated_of fresh.fittest ≡ fittest_in p (ps ++ (f, q) ∷ []) cs r q.slot → news ≡ map (renewed_room fresh) olds → AreRooms p (ps ++ (f, q) ∷ []) cs r slots news
  rooms-renewed slots olds news fresh at are is e =
      let found = option_map rated_of fresh.fittest in
      ap (map room_of) e ∙ each_room fresh at olds ∙ sym (composed found room_of olds) ∙ ap (map (renewed q.slot found)) are
      ∙ composed found (λ slot. (slot, fittest_in p ps cs r slot)) slots
      ∙ (λ i. map (λ slot. renewed-one found is slot i) slots)
