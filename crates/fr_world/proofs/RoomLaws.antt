-- The room for a page's frame, placement by placement.
use Rattle.std.proofs.Common.{◌≡◌, ◌<◌, ◌+◌, ℕ, suc, Bool, true, false, cond, List, [], ◌∷◌, ◌++◌, length, take, get_or, map, filter, Option, Some, None, option_map, Result, Ok, Err, IsTrue, refl, sym, ap, ◌∙◌, arith, append_assoc, append-nil}
use Rattle.std.specs.Prelude.{◌&&◌, is_none, nat_le, nat_lt}
use Rattle.std.specs.List.{flat_map, list_all, range_with_len}
use Rattle.std.proofs.lemmas.Bool.{and_from}
use Rattle.std.proofs.lemmas.Bool.Decides.{nat_tests}
use Rattle.std.proofs.lemmas.Grind.{flat_map-append}
use Rattle.std.proofs.lemmas.List.{take_more}
use Rattle.std.proofs.lemmas.List.Elements.{filter-append}
use Rattle.std.proofs.lemmas.List.FromFn.{map-range_with_len_more}
use Rattle.fr_base.specs.Cluster.{Cluster}
use Rattle.fr_base.specs.Sound.{IsSound}
use Rattle.fr_base.specs.Cells.{cells_of}
use Rattle.fr_base.specs.Cycles.{Cycles, is_repetition, is_cycle_set}
use Rattle.fr_base.specs.declared.cycles.BadCycles.{BadCycles}
use Rattle.fr_base.specs.Book as book
use Rattle.fr_base.specs.Book.{granted, held_by_node, schedule_of}
use Rattle.fr_base.specs.Channels.{channels_in}
use Rattle.fr_base.specs.Keys.{owned}
use Rattle.fr_base.specs.Schedule.{fill, first_taken}
use Rattle.fr_base.specs.Tables.{Table, get, len}
use Rattle.fr_base.specs.Room.{is_vacant, placed, places_on, places_with, own_room, room, room_in}
use Rattle.fr_base.specs.declared.channel.Channels.{Channels}
use Rattle.fr_base.specs.declared.name.Name.{Name}
use Rattle.fr_base.specs.declared.params.Params.{Params}
use Rattle.fr_base.specs.declared.placement.Placement.{Placement}
use Rattle.fr_base.specs.declared.limits.TheConstants.{MAX_PLACEMENTS}
use Rattle.fr_base.specs.declared.refusal.Refusal.{Refusal}
use Rattle.fr_base.specs.declared.refusal.Refusal.TheVariants.{Released, NoFrame, Limit}
use Rattle.fr_base.specs.Refusing.{◌>>=◌, ◌>>◌, ◌or◌, refuse◌when◌}
use Rattle.fr_base.specs.Step.{OwnRows, own_rows, shared_by}
use Rattle.fr_world.specs.Pages.{PageData, own_rows_of, page_in}
use Rattle.fr_world.specs.Rooms.{is_free_alone, is_vacant_alone, open_node, page_room}
use Rattle.fr_world.specs.Decisions.{taken_by}
use Rattle.fr_world.specs.Occupancies.{ShowCells, is_free, taken_cell}
use Rattle.fr_world.proofs.DecideFilling.{taken-like}
use Rattle.fr_world.proofs.ScheduleLaws.{range-more}
use Rattle.fr_world.proofs.PageLaws.{rows-registers}
use Rattle.fr_base.proofs.RoomLaws.{room-page}

-- ---- what is vacant

none-mapped : {A B : Type 0} (g : A → B) (o : Option A) → is_none (option_map g o) ≡ is_none o
none-mapped g None = refl
none-mapped g (Some x) = refl

-- a placement is free as by the schedule
pub free-shown : (pairs : List (Name × Placement)) (frames : Table owned book.Frame) (q : Placement) → ShowCells pairs frames → is_free pairs q ≡ is_none (first_taken (schedule_of frames) (cells_of q))
unfolding is_free
free-shown pairs frames q shows =
    sym (none-mapped taken_cell (first_taken (fill pairs) (cells_of q)))
    ∙ ap is_none (taken-like (fill pairs) (schedule_of frames) shows (cells_of q))
    ∙ none-mapped taken_by (first_taken (schedule_of frames) (cells_of q))

-- tests that come out alike for each keep the same
kept-alike : {X : Type 0} (t u : Placement → Bool) (g : X → Placement) (xs : List X) → ((x : X) → t (g x) ≡ u (g x)) → filter t (map g xs) ≡ filter u (map g xs)
kept-alike t u g [] same = refl
kept-alike t u g (x ∷ xs) same = λ i. cond (same x i) (g x ∷ kept-alike t u g xs same i) (kept-alike t u g xs same i)

kept-no : {X : Type 0} (t : Placement → Bool) (g : X → Placement) (xs : List X) → ((x : X) → t (g x) ≡ false) → filter t (map g xs) ≡ []
kept-no t g [] none = refl
kept-no t g (x ∷ xs) none = ap (λ b. cond b (g x ∷ filter t (map g xs)) (filter t (map g xs))) (none x) ∙ kept-no t g xs none

and_true : (t u : Bool) → t ≡ true → t && u ≡ u
and_true true u h = refl
and_true false u h = cc

and_false : (t u : Bool) → t ≡ false → t && u ≡ false
and_false true u h = cc
and_false false u h = refl

module _ (page : OwnRows) (node : Name) (p : Params) (r slot : ℕ) (cs : Channels) where
  -- whether the node holds the slot on the channels
  abbrev pub held : Bool
  held = list_all (λ c. held_by_node page.supplier node (get page.grants (slot, c))) (channels_in cs)

  -- where it does, what is free is vacant
  pub vacant-held : held ≡ true → filter (is_free_alone page) (places_on p r slot cs) ≡ filter (is_vacant_alone page node) (places_on p r slot cs)
  unfolding places_on is_vacant granted
  vacant-held h = kept-alike (is_free_alone page) (is_vacant_alone page node) (placed p r slot cs) (range_with_len 0 r) (λ base. sym (and_true held _ h))

  -- where it does not, nothing is
  pub vacant-none : held ≡ false → filter (is_vacant_alone page node) (places_on p r slot cs) ≡ []
  unfolding places_on is_vacant granted
  vacant-none h = kept-no (is_vacant_alone page node) (placed p r slot cs) (range_with_len 0 r) (λ base. and_false held _ h)

-- ---- a slot, and a set of cycles

pub one-slot : (made : Option ℕ) (s t : ℕ) → made ≡ Some s → made ≡ Some t → s ≡ t
one-slot None s t e f = cc
one-slot (Some x) s t e f = cc

one-made : (made : Result Cycles BadCycles) (s t : Cycles) → made ≡ Ok s → made ≡ Ok t → s ≡ t
one-made (Ok x) s t e f = cc
one-made (Err x) s t e f = cc

pub set-made : (count cycles base r : ℕ) (made : Result Cycles BadCycles) → cycles ≡ count → IsTrue (is_repetition count r) → base < r
    → made ≡ cond (is_cycle_set cycles base r) (Ok (record { count = cycles; base = base; repetition = r })) (Err (record {}))
    → made ≡ Ok (record { count = count; base = base; repetition = r })
set-made count cycles base r made same divides below e =
    let low : nat_lt base r ≡ true = grind (arith, nat_tests) in
    e ∙ (λ i. cond (is_cycle_set (same i) base r) (Ok (record { count = same i; base = base; repetition = r })) (Err (record {})))
    ∙ ap (λ b. cond b (Ok (record { count = count; base = base; repetition = r })) (Err (record {}))) (and_from (is_repetition count r) (nat_lt base r) divides low)

-- ---- one more

module _ (t : Placement → Bool) where
  pub kept-nothing : (old : List Placement) → old ≡ old ++ filter t []
  kept-nothing old = sym (append-nil old)

  pub kept-one : (old new : List Placement) (q : Placement) → t q ≡ true → new ≡ old ++ q ∷ [] → new ≡ old ++ filter t (q ∷ [])
  kept-one old new q h e = e ∙ ap (λ b. old ++ cond b (q ∷ []) []) (sym h)

  pub kept-none : (old : List Placement) (q : Placement) → t q ≡ false → old ≡ old ++ filter t (q ∷ [])
  kept-none old q h = sym (append-nil old) ∙ ap (λ b. old ++ cond b (q ∷ []) []) (sym h)

  -- first some placements, and then others
  kept-more : (old mid new xs ys : List Placement) → mid ≡ old ++ filter t xs → new ≡ mid ++ filter t ys → new ≡ old ++ filter t (xs ++ ys)
  kept-more old mid new xs ys h g =
      g ∙ ap (λ front. front ++ filter t ys) h
      ∙ append_assoc old (filter t xs) (filter t ys)
      ∙ ap (λ rest. old ++ rest) (sym (filter-append t xs ys))

  -- one base more
  pub kept-base : (f : ℕ → Placement) (old mid new : List Placement) (base n : ℕ) → n ≡ base + 1
      → mid ≡ old ++ filter t (map f (range_with_len 0 base))
      → new ≡ mid ++ filter t (f base ∷ [])
      → new ≡ old ++ filter t (map f (range_with_len 0 n))
  kept-base f old mid new base n e h g =
      kept-more old mid new _ _ h g
      ∙ ap (λ qs. old ++ filter t qs) (sym (map-range_with_len_more f 0 base base (omega arith)) ∙ ap (λ m. map f (range_with_len 0 m)) (sym e))

  -- one of a list more
  pub kept-next : {X : Type 0} (g : X → List Placement) (xs : List X) (i : ℕ) (x y : X) (old mid new : List Placement) → i < length xs → x ≡ get_or xs i y
      → mid ≡ old ++ filter t (flat_map g (take i xs))
      → new ≡ mid ++ filter t (g x)
      → new ≡ old ++ filter t (flat_map g (take (i + 1) xs))
  kept-next g xs i x y old mid new l is h e =
      kept-more old mid new _ _ h e
      ∙ ap (λ qs. old ++ filter t qs) (
      ap (λ rest. flat_map g (take i xs) ++ rest) (sym (append-nil (g x)))
      ∙ sym (flat_map-append g (take i xs) (x ∷ []))
      ∙ ap (flat_map g) (ap (λ z. take i xs ++ z ∷ []) is ∙ sym (take_more xs i y l)))

  -- one number more
  pub kept-number : (g : ℕ → List Placement) (old mid new : List Placement) (number m n : ℕ) → number ≡ 1 + m → n ≡ suc m
      → mid ≡ old ++ filter t (flat_map g (range_with_len 1 m))
      → new ≡ mid ++ filter t (g number)
      → new ≡ old ++ filter t (flat_map g (range_with_len 1 n))
  kept-number g old mid new number m n e f h k =
      kept-more old mid new _ _ h k
      ∙ ap (λ qs. old ++ filter t qs) (
      ap (λ rest. flat_map g (range_with_len 1 m) ++ rest) (sym (append-nil (g number)) ∙ ap (λ z. g z ++ []) e)
      ∙ sym (flat_map-append g (range_with_len 1 m) ((1 + m) ∷ []))
      ∙ ap (flat_map g) (sym (range-more 1 m) ∙ ap (range_with_len 1) (sym f)))

  -- a base more, whose set of cycles was made
  pub kept-made : (p : Params) (r slot : ℕ) (cs : Channels) (old mid new : List Placement) (base : ℕ) (cycles : Cycles) (made : Result Cycles BadCycles)
      → made ≡ Ok (record { count = p.cycles; base = base; repetition = r }) → made ≡ Ok cycles
      → mid ≡ old ++ filter t (map (placed p r slot cs) (range_with_len 0 base))
      → new ≡ mid ++ filter t (record { slot = slot; channels = cs; cycles = cycles } ∷ [])
      → new ≡ old ++ filter t (map (placed p r slot cs) (range_with_len 0 (base + 1)))
  kept-made p r slot cs old mid new base cycles made found is h e =
      let same : cycles ≡ record { count = p.cycles; base = base; repetition = r } = one-made made _ _ is found in
      kept-base (placed p r slot cs) old mid new base (base + 1) refl h (e ∙ (λ i. mid ++ filter t (record { slot = slot; channels = cs; cycles = same i } ∷ [])))

-- ---- the room for a frame

-- it is where the frame's node may fill placements, once no refusal applies
pub room-parts : (rows : PageData) (f : Name) (r : ℕ) → page_room rows f r ≡ (open_node rows f >>= λ node. Ok (filter (is_vacant_alone (own_rows_of rows) node) (places_with rows.params r)))
unfolding page_room open_node room ◌or◌ ◌>>=◌ ◌>>◌ refuse◌when◌
room-parts rows f r = by_open rows.released
  where
    page : OwnRows
    page = own_rows_of rows

    places : Name → List Placement
    places node = filter (is_vacant_alone page node) (places_with rows.params r)

    by_limit : (full : Bool) (node : Name) → ((refuse Limit when full) >> Ok (places node)) ≡ (((refuse Limit when full) >> Ok node) >>= λ node. Ok (places node))
    by_limit true node = refl
    by_limit false node = refl

    by_frame : (there : Option book.Frame) →
        ((there or NoFrame) >>= λ frame. (refuse Limit when nat_le MAX_PLACEMENTS (len frame.placements)) >> Ok (places frame.node))
        ≡ (((there or NoFrame) >>= λ frame. (refuse Limit when nat_le MAX_PLACEMENTS (len frame.placements)) >> Ok frame.node) >>= λ node. Ok (places node))
    by_frame None = refl
    by_frame (Some frame) = by_limit (nat_le MAX_PLACEMENTS (len frame.placements)) frame.node

    by_open : (released : Bool) →
        ((refuse Released when released) >> ((get page.frames (page.supplier, f) or NoFrame) >>= λ frame. (refuse Limit when nat_le MAX_PLACEMENTS (len frame.placements)) >> Ok (places frame.node)))
        ≡ (((refuse Released when released) >> ((get page.frames (page.supplier, f) or NoFrame) >>= λ frame. (refuse Limit when nat_le MAX_PLACEMENTS (len frame.placements)) >> Ok frame.node)) >>= λ node. Ok (places node))
    by_open true = refl
    by_open false = by_frame (get page.frames (page.supplier, f))

module _ (rows : PageData) (f : Name) where
  pub room-made : (node : Name) (r : ℕ) (places : List Placement) → Ok node ≡ open_node rows f → places ≡ filter (is_vacant_alone (own_rows_of rows) node) (places_with rows.params r) → page_room rows f r ≡ Ok places
  unfolding ◌>>=◌
  room-made node r places is e = room-parts rows f r ∙ ap (λ (o : Result Name Refusal). o >>= λ node. Ok (filter (is_vacant_alone (own_rows_of rows) node) (places_with rows.params r))) (sym is) ∙ ap Ok (sym e)

  pub room-refused : (e : Refusal) (r : ℕ) → Err e ≡ open_node rows f → page_room rows f r ≡ Err e
  unfolding ◌>>=◌
  room-refused e r is = room-parts rows f r ∙ ap (λ (o : Result Name Refusal). o >>= λ node. Ok (filter (is_vacant_alone (own_rows_of rows) node) (places_with rows.params r))) (sym is)

  -- the frame's node, by what stands on the page
  pub node-released : rows.released ≡ true → Err Released ≡ open_node rows f
  unfolding open_node ◌or◌ ◌>>=◌ ◌>>◌ refuse◌when◌
  node-released is = rw is refl

  module _ (open_yet : rows.released ≡ false) where
    pub node-missing : get (own_rows_of rows).frames (rows.supplier, f) ≡ None → Err NoFrame ≡ open_node rows f
    unfolding open_node ◌or◌ ◌>>=◌ ◌>>◌ refuse◌when◌
    node-missing none = rw (open_yet, none) refl

    module _ (frame : book.Frame) (found : get (own_rows_of rows).frames (rows.supplier, f) ≡ Some frame) where
      pub node-full : nat_le MAX_PLACEMENTS (len frame.placements) ≡ true → Err Limit ≡ open_node rows f
      unfolding open_node ◌or◌ ◌>>=◌ ◌>>◌ refuse◌when◌
      node-full full = rw (open_yet, found, full) refl

      pub node-there : nat_le MAX_PLACEMENTS (len frame.placements) ≡ false → Ok frame.node ≡ open_node rows f
      unfolding open_node ◌or◌ ◌>>=◌ ◌>>◌ refuse◌when◌
      node-there few = rw (open_yet, found, few) refl

-- ---- the room in a book

-- in a sound book it is that on the supplier's page
pub room-decides : (c : Cluster) (b : book.Book) (s v : Name) (x : book.Variant) (f : Name) (r : ℕ) → IsSound c b → get b.variants v ≡ Some x → room_in c.params b s v f r ≡ page_room (page_in c.params b s v x) f r
unfolding page_room own_rows shared_by
room-decides c b s v x f r sound found =
    sym (room-page c b sound s v x found f r)
    ∙ ap (λ (rows : OwnRows). (refuse Released when x.released) >> own_room rows.params rows.grants rows.frames rows.supplier f r) (sym (rows-registers c b s v x))
