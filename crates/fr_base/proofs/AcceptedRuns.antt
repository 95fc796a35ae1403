-- The placements of a proposal, row by row: each is accepted where those before it stand.
use Rattle.std.proofs.Common.{◌≡◌, ◌⊎◌, ◌<◌, ◌≤◌, ◌+◌, ◌∙◌, ℕ, Bool, true, false, not, cond, nat_le, List, [], ◌∷◌, ◌++◌, map, flat_map, length, Option, Some, None, option_map, is_some, Result, Ok, Err, IsTrue, refl, sym, ap, subst, inl, inr, arith, true≢false}
use Rattle.std.specs.Prelude.{⊤}
use Rattle.std.specs.List.{AllByRecursion, cons_option, filter_map}
use Rattle.std.proofs.lemmas.Bool.{cases_Bool}
use Rattle.std.proofs.lemmas.Bool.Decides.{nat_tests}
use Rattle.fr_base.specs.Refusing.{◌>>=◌, ◌>>◌, ◌or◌, refuse◌when◌}
use Rattle.fr_base.specs.Tables.{Table, Becomes, empty, get, contains, len, insert, settle}
use Rattle.fr_base.specs.Keys.{owned, placement_order}
use Rattle.fr_base.specs.Cells.{Cell, cells_of, has_cell}
use Rattle.fr_base.specs.Schedule.{fill, first_taken}
use Rattle.fr_base.specs.Names.{same_text}
use Rattle.fr_base.specs.Book.{Frame, Sender, Variant, Book, is_of, own, own_grants, granted, placements_of, schedule_of}
use Rattle.fr_base.specs.OwnRows.{OwnRows, own_rows}
use Rattle.fr_base.specs.Fittest.{is_free}
use Rattle.fr_base.specs.RefusedWishes.{Counted, one_more, count_wish, has_another_node, is_full, judged, judge, asked_at, asked_of}
use Rattle.fr_base.specs.Proposals.{filled_places, place_at, proposal_row}
use Rattle.fr_base.specs.Fits.{MayStand}
use Rattle.fr_base.specs.Sound.{IsSoundVariant}
use Rattle.fr_base.specs.Step.{cell_taken, admits_frame, frame_after, at_line}
use Rattle.fr_base.specs.declared.limits.TheConstants.{MAX_FRAMES, MAX_PLACEMENTS}
use Rattle.fr_base.specs.declared.import.Row.{Row}
use Rattle.fr_base.specs.declared.import.Row.TheVariants as row
use Rattle.fr_base.specs.declared.import.RowRead.{RowRead}
use Rattle.fr_base.specs.declared.name.Name.{Name}
use Rattle.fr_base.specs.declared.params.Params.{Params}
use Rattle.fr_base.specs.declared.placement.Placement.{Placement}
use Rattle.fr_base.specs.declared.refusal.Refusal.{Refusal}
use Rattle.fr_base.specs.declared.refusal.Refusal.TheVariants.{NoNode, NodeDiffers, NotGranted, Limit}
use Rattle.fr_base.specs.declared.request.FrameChange.TheVariants.{Place}
use Rattle.fr_base.specs.ProposalLaws.{record_of}
use Rattle.fr_base.specs.declared.proposal.Given.{Given}
use Rattle.fr_base.specs.declared.wish.Asked.{Asked}
use Rattle.fr_base.specs.declared.wish.Wish.{Wish}
use Rattle.fr_base.specs.declared.wish.WishRead.{WishRead}
use Rattle.fr_base.proofs.SoundRows.{same_text-is}
use Rattle.fr_base.proofs.SoundTables.{same_some, value_of, get-put, insert-cases, insert-again, contains-cases, len-within, get-passing, only-stood}
use Rattle.fr_base.proofs.SoundCells.{free_cells}
use Rattle.std.specs.FinMap.Entries.{length-put}
use Rattle.fr_base.proofs.TableLaws.{get-empty, get-only, kept}
use Rattle.fr_base.proofs.AloneCells.{same_text-itself, first_taken-own, first_taken-alike}
use Rattle.fr_base.proofs.AloneChanges.{own-granted}
use Rattle.fr_base.proofs.Filling.{free-cells}
use Rattle.fr_base.proofs.SettledRows.{other_frame, settle-other}
use Rattle.fr_base.proofs.FrameRuns.{past_when, past_unless, change_in, framed_in, act_in, change-is, place_test, place-is, run_in}
use Rattle.fr_base.proofs.FreeCells.{free-empty}
use Rattle.fr_base.proofs.GivenPlaces.{AreDisjoint}
use Rattle.fr_base.proofs.AskedLines.{Member}
use Rattle.fr_base.proofs.GivenLaws.{IsAdmitted, judged-admitted}
use Rattle.fr_base.proofs.TurnOrder.{Pairs}
use Rattle.fr_base.proofs.TablesWithin.{len-fewer}

-- ---- what is filled, with a sender or with a frame's name

fill-same : {O P : Type 0} (xs : List (O × Placement)) (ys : List (P × Placement)) (c : Cell) → map (λ e. e.1) xs ≡ map (λ e. e.1) ys → fill xs c ≡ None → fill ys c ≡ None
unfolding fill
fill-same [] [] c e h = refl
fill-same [] (y ∷ ys) c e h = cc
fill-same (x ∷ xs) [] c e h = cc
fill-same (x ∷ xs) (y ∷ ys) c e h =
    let first : x.1 ≡ y.1 = head x.1 y.1 _ _ e in
    let rest = tail x.1 y.1 _ _ e in
    elim (cases_Bool (has_cell x.1 c)) [
      | inl has ↦ let taken = rw has at h in cc
      | inr lacks ↦
          let too : has_cell y.1 c ≡ false = ap (λ q. has_cell q c) (sym first) ∙ lacks in
          rw too (fill-same xs ys c rest (rw lacks at h))
    ]
  where
    head : (q r : Placement) (qs rs : List Placement) → q ∷ qs ≡ r ∷ rs → q ≡ r
    head q r qs rs k = cc

    tail : (q r : Placement) (qs rs : List Placement) → q ∷ qs ≡ r ∷ rs → qs ≡ rs
    tail q r qs rs k = cc

abbrev sent_by : (Name × Name) × Frame → List (Sender × Placement)
sent_by row = map (λ q. (record { supplier = row.0.0; frame = row.0.1; node = row.1.node }, q.0)) row.1.placements.rows

abbrev named_by : (Name × Name) × Frame → List (Name × Placement)
named_by row = map (λ q. (row.0.1, q.0)) row.1.placements.rows

map-append_of : {X Y : Type 0} (f : X → Y) (xs ys : List X) → map f (xs ++ ys) ≡ map f xs ++ map f ys
map-append_of f [] ys = refl
map-append_of f (x ∷ xs) ys = ap (λ l. f x ∷ l) (map-append_of f xs ys)

row-places : (name : Name) (sender : Sender) (qs : List (Placement × ⊤)) → map (λ (e : Name × Placement). e.1) (map (λ (q : Placement × ⊤). (name, q.0)) qs) ≡ map (λ (e : Sender × Placement). e.1) (map (λ (q : Placement × ⊤). (sender, q.0)) qs)
row-places name sender [] = refl
row-places name sender (q ∷ qs) = ap (λ l. q.0 ∷ l) (row-places name sender qs)

same-places : (rows : List ((Name × Name) × Frame)) → map (λ (e : Name × Placement). e.1) (flat_map named_by rows) ≡ map (λ (e : Sender × Placement). e.1) (flat_map sent_by rows)
same-places [] = refl
same-places (row ∷ rows) =
    map-append_of (λ (e : Name × Placement). e.1) (named_by row) (flat_map named_by rows)
    ∙ (λ i. row-places row.0.1 (record { supplier = row.0.0; frame = row.0.1; node = row.1.node }) row.1.placements.rows i ++ same-places rows i)
    ∙ sym (map-append_of (λ (e : Sender × Placement). e.1) (sent_by row) (flat_map sent_by rows))

none_taken : {O : Type 0} (ds : List Cell) → first_taken {O = O} (λ c. None) ds ≡ None
unfolding first_taken
none_taken [] = refl
none_taken (d ∷ ds) = none_taken ds

-- a placement that is free beside the frames' placements has no cell that is filled by them
pub free-schedule : (frames : Table owned Frame) (q : Placement) → is_free (filled_places frames) q ≡ true → first_taken (schedule_of frames) (cells_of q) ≡ None
unfolding filled_places schedule_of placements_of has_cell
free-schedule frames q free =
    first_taken-alike (fill (flat_map sent_by frames.rows)) (λ c. None) (cells_of q) (λ c has.
    fill-same (flat_map named_by frames.rows) (flat_map sent_by frames.rows) c (same-places frames.rows) (free-empty (filled_places frames) q free c has)) ∙ none_taken (cells_of q)

-- ---- the frames now

module _ (p : Params) (b : Book) (s v : Name) (y : Variant) (sound : IsSoundVariant p b.nodes y) where
  -- the supplier's own rows at first
  abbrev at_first : OwnRows
  at_first = own_rows p b s y

  abbrev free_now : List (Name × Placement)
  free_now = filled_places (own s y.frames)

  -- Each placement stood there at first, or was added. Of the supplier's frames each counts, with its node and at least its placements.
  pub record IsAlong (added : List Placement) (counted : Table owned Counted) (t : Table owned Frame) : Type 0 where
    pub old : (k : Name × Name) (g : Frame) (r : Placement) → get t k ≡ Some g → IsTrue (contains g.placements r) → ((h : Frame) × (get y.frames k ≡ Some h) × IsTrue (contains h.placements r)) ⊎ Member r added
    pub counts : (f : Name) (g : Frame) → get t (s, f) ≡ Some g → (n : Counted) × (get counted (s, f) ≡ Some n) × (g.node ≡ n.node) × (len g.placements ≤ n.placements)
    pub few : len counted ≤ MAX_FRAMES

  -- a placement that has no cell of those added has none that is filled
  still-free : (added : List Placement) (t : Table owned Frame) (wish : Wish) (q : Placement) → MayStand at_first free_now wish q → AllByRecursion (λ r. AreDisjoint r q) added →
      ((k : Name × Name) (g : Frame) (r : Placement) → get t k ≡ Some g → IsTrue (contains g.placements r) → ((h : Frame) × (get y.frames k ≡ Some h) × IsTrue (contains h.placements r)) ⊎ Member r added) →
      first_taken (schedule_of t) (cells_of q) ≡ None
  unfolding own_rows
  still-free added t wish q may apart old =
      let none : first_taken (schedule_of y.frames) (cells_of q) ≡ None = first_taken-own p b.nodes y sound s wish.node q (own-granted y.grants s s wish.node q may.granted) ∙ free-schedule (own s y.frames) q may.free in
      free-cells t q (λ c has k g there r in_g. elim (cases_Bool (has_cell r c)) [
        | inl clash ↦ elim (old k g r there in_g) [
          | inl before ↦ absurd (free_cells y.frames q none k before.0 r c before.1 before.2 has clash)
          | inr new ↦ absurd (disjoint added r apart new c clash has)
        ]
        | inr lacks ↦ lacks
      ])
    where
      disjoint : (xs : List Placement) (r : Placement) → AllByRecursion (λ x. AreDisjoint x q) xs → Member r xs → AreDisjoint r q
      disjoint [] r h at = absurd at
      disjoint (x ∷ xs) r h at = elim at [
        | inl here ↦ subst (λ k. AreDisjoint k q) (sym here) h.0
        | inr later ↦ disjoint xs r h.1 later
      ]

  -- ---- one row

  -- the frame that a row names, there or added
  abbrev frame_or : Name → Option Frame → Frame
  frame_or n (Some g) = g
  frame_or n None = record { node = n; placements = empty; signals = [] }

  abbrev with_one : Frame → Placement → Frame
  with_one g q = record g { placements = insert g.placements q tt }

  -- the frames with the frame that a row names
  abbrev framed : Table owned Frame → Name → Name → Option Frame → Table owned Frame
  framed t f n (Some g) = t
  framed t f n None = insert t (s, f) (frame_or n None)

  same-not : (m n : Name) → not (same_text m n) ≡ false → m ≡ n
  same-not m n h = same_text-is m n (twice (same_text m n) h)
    where
      twice : (t : Bool) → not t ≡ false → t ≡ true
      twice true h = refl
      twice false h = cc

  may_add : (m n : ℕ) → m < n → nat_le n m ≡ false
  may_add m n h = grind (arith, nat_tests)

  not_full : (m n : ℕ) → nat_le n m ≡ false → m < n
  not_full m n h = grind (arith, nat_tests)

  empty_has : (r : Placement) → contains (empty {V = ⊤} {o = placement_order}) r ≡ true → ⊥
  empty_has r h = true≢false (sym h ∙ ap is_some (get-empty placement_order r))

  len-new : {V : Type 0} (u : Table owned V) (k : Name × Name) (z : V) → contains u k ≡ false → len (insert u k z) ≡ len u + 1
  unfolding len get insert
  len-new u k z free = length-put owned.compare owned.total k z u.rows u.sorted ∙ ap (λ c. cond c (length u.rows) (length u.rows + 1)) free

  module _ (added : List Placement) (counted : Table owned Counted) (t : Table owned Frame) (along : IsAlong added counted t) (wish : Wish) (admitted : IsAdmitted at_first counted wish) where
    abbrev f : Name
    f = wish.frame

    abbrev n : Name
    n = wish.node

    -- what counts there, if something does
    node-counted : (c : Counted) → get counted (s, f) ≡ Some c → c.node ≡ n
    unfolding own_rows
    node-counted c e = same-not c.node n (subst (λ o. has_another_node n o ≡ false) e admitted.one_node)

    room-counted : (c : Counted) → get counted (s, f) ≡ Some c → c.placements < MAX_PLACEMENTS
    unfolding own_rows
    room-counted c e = not_full c.placements MAX_PLACEMENTS (subst (λ o. is_full counted o ≡ false) e admitted.room)

    has-node : IsTrue (contains b.nodes (s, n))
    unfolding own_rows
    has-node = subst IsTrue (ap is_some (get-passing owned (is_of s) b.nodes (s, n) (same_text-itself s))) admitted.node

    counted_too : (k : Name × Name) → contains (own s t) k ≡ true → contains counted k ≡ true
    counted_too k h =
        let g = value_of (get (own s t) k) h in
        let at : get t k ≡ Some g.0 = only-stood owned (λ j _. is_of s j) t k g.0 g.1 in
        elim (cases_Bool (is_of s k)) [
          | inl mine ↦
              let key : k ≡ (s, k.1) = λ i. (same_text-is k.0 s mine i, k.1) in
              let n = along.counts k.1 g.0 (ap (get t) (sym key) ∙ at) in
              ap (contains counted) key ∙ ap is_some n.1
          | inr other ↦
              let no : get (own s t) k ≡ None = get-only owned (λ j _. is_of s j) t k ∙ ap (kept {K = Name × Name} (λ j _. is_of s j) k) at ∙ ap (λ c. cond c (Some g.0) None) other in
              absurd (true≢false (sym h ∙ ap is_some no))
        ]

    -- where the frame is not there, there is room for one more
    room-for_frame : get t (s, f) ≡ None → len (own s t) < MAX_FRAMES
    unfolding own_rows
    room-for_frame none =
        let fewer : len (own s t) ≤ len counted = len-fewer owned (own s t) counted counted_too in
        elim (cases_Bool (contains counted (s, f))) [
          | inl there ↦
              let more : len (insert (own s t) (s, f) (frame_or n None)) ≤ len counted =
              len-fewer owned (insert (own s t) (s, f) (frame_or n None)) counted (λ k h. elim (contains-cases (own s t) (s, f) (frame_or n None) k h) [
                | inl same ↦ subst (λ j. contains counted j ≡ true) (sym same) there
                | inr mine ↦ counted_too k mine
              ]) in
              let one : len (insert (own s t) (s, f) (frame_or n None)) ≡ len (own s t) + 1 = len-new (own s t) (s, f) (frame_or n None) (ap is_some (get-passing owned (is_of s) t (s, f) (same_text-itself s) ∙ none)) in
              omega (arith, more, one, along.few)
          | inr other ↦ let room = not_full (len counted) MAX_FRAMES (full-none (get counted (s, f)) other admitted.room) in omega (arith, fewer, room)
        ]
      where
        full-none : (o : Option Counted) → is_some o ≡ false → is_full counted o ≡ false → nat_le MAX_FRAMES (len counted) ≡ false
        full-none None e h = h
        full-none (Some c) e h = absurd (true≢false e)

    -- ---- the row

    framed-there : (o : Option Frame) → get t (s, f) ≡ o → get (framed t f n o) (s, f) ≡ Some (frame_or n o)
    framed-there (Some g) e = e
    framed-there None e = get-put t (s, f) (frame_or n None)

    framed-again : (o : Option Frame) (z : Frame) → insert (framed t f n o) (s, f) z ≡ insert t (s, f) z
    framed-again (Some g) z = refl
    framed-again None z = insert-again t (s, f) (frame_or n None) z

    framed-old : (o : Option Frame) → get t (s, f) ≡ o → (k : Name × Name) (g : Frame) (r : Placement) → get (framed t f n o) k ≡ Some g → IsTrue (contains g.placements r) →
        ((h : Frame) × (get y.frames k ≡ Some h) × IsTrue (contains h.placements r)) ⊎ Member r added
    framed-old (Some w) e k g r at h = along.old k g r at h
    framed-old None e k g r at h = elim (insert-cases t (s, f) (frame_or n None) k g at) [
      | inl here ↦ absurd (empty_has r (subst (λ (z : Frame). contains z.placements r ≡ true) (sym here.1) h))
      | inr other ↦ along.old k g r other.1 h
    ]

    node-is : (o : Option Frame) → get t (s, f) ≡ o → (frame_or n o).node ≡ n
    node-is (Some g) e = let c = along.counts f g e in c.2 ∙ node-counted c.0 c.1
    node-is None e = refl

    room-is : (o : Option Frame) → get t (s, f) ≡ o → len (frame_or n o).placements < MAX_PLACEMENTS
    unfolding len empty
    room-is (Some g) e = let c = along.counts f g e in let room = room-counted c.0 c.1 in let less = c.3 in omega (arith, room, less)
    room-is None e = omega arith

    add-passes : get t (s, f) ≡ None → framed_in p b s v y t f n None ≡ Ok (insert t (s, f) (frame_or n None))
    unfolding framed_in change_in admits_frame own_rows frame_after settle ◌>>◌ refuse◌when◌
    add-passes e =
        let has : contains (own s b.nodes) (s, n) ≡ true = ap is_some (get-passing owned (is_of s) b.nodes (s, n) (same_text-itself s)) ∙ has-node in
        let room : nat_le MAX_FRAMES (len (own s t)) ≡ false = may_add (len (own s t)) MAX_FRAMES (room-for_frame e) in
        rw (e, has, room) refl

    framed-passes : (o : Option Frame) → get t (s, f) ≡ o → framed_in p b s v y t f n o ≡ Ok (framed t f n o)
    unfolding framed_in
    framed-passes (Some g) e = past_unless NodeDiffers (same_text g.node n) (Ok t) (ap (same_text g.node) (sym (node-is (Some g) e)) ∙ same_text-itself g.node)
    framed-passes None e = add-passes e

    place-passes : (o : Option Frame) → get t (s, f) ≡ o → (q : Placement) → MayStand at_first free_now wish q → AllByRecursion (λ r. AreDisjoint r q) added → place_test p b s v y (framed t f n o) (frame_or n o) q ≡ Ok tt
    unfolding cell_taken own_rows
    place-passes o e q may apart =
        past_unless NotGranted (granted (own_grants s y.grants) s (frame_or n o).node q) _ (subst (λ m. IsTrue (granted (own_grants s y.grants) s m q)) (sym (node-is o e)) may.granted)
        ∙ past_when Limit (nat_le MAX_PLACEMENTS (len (frame_or n o).placements)) _ (may_add (len (frame_or n o).placements) MAX_PLACEMENTS (room-is o e))
        ∙ ap cell_taken (still-free added (framed t f n o) wish q may apart (framed-old o e))

    place-first : (replaces : Bool) (q : Placement) →
        act_in p b s v y replaces t (row.Place f n q) ≡ ((refuse NoNode when not (contains b.nodes (s, n))) >> (framed_in p b s v y t f n (get t (s, f)) >>= (λ u. change_in p b s v y u f (Place q))))
    unfolding act_in
    place-first true q = refl
    place-first false q = refl

    -- it is accepted
    row-done : (replaces : Bool) (o : Option Frame) → get t (s, f) ≡ o → (q : Placement) → MayStand at_first free_now wish q → AllByRecursion (λ r. AreDisjoint r q) added →
        act_in p b s v y replaces t (row.Place f n q) ≡ Ok (insert t (s, f) (with_one (frame_or n o) q))
    unfolding ◌>>=◌ ◌>>◌ frame_after
    row-done replaces o e q may apart =
        place-first replaces q
        ∙ past_unless NoNode (contains b.nodes (s, n)) _ has-node
        ∙ ap (λ r. r >>= (λ u. change_in p b s v y u f (Place q))) (ap (framed_in p b s v y t f n) e ∙ framed-passes o e)
        ∙ change-is p b s v y (framed t f n o) f (Place q) (frame_or n o) (with_one (frame_or n o) q) (framed-there o e) refl
        ∙ ap (λ r. r >> Ok (insert (framed t f n o) (s, f) (with_one (frame_or n o) q))) (place-is p b s v y (framed t f n o) (frame_or n o) q ∙ place-passes o e q may apart)
        ∙ ap Ok (framed-again o (with_one (frame_or n o) q))

    -- ---- what holds then

    count-at : (c : Option Counted) → get counted (s, f) ≡ c → (o : Option Frame) → get t (s, f) ≡ o → ((one_more wish c).node ≡ n) × (len (frame_or n o).placements + 1 ≤ (one_more wish c).placements)
    unfolding len empty
    count-at (Some c) e (Some g) k =
        let m = along.counts f g k in
        let same : m.0 ≡ c = same_some m.0 c (sym m.1 ∙ e) in
        let few : len g.placements ≤ c.placements = subst (λ (z : Counted). len g.placements ≤ z.placements) same m.3 in
        (node-counted c e, omega (arith, few))
    count-at (Some c) e None k = (node-counted c e, omega arith)
    count-at None e (Some g) k = let m = along.counts f g k in absurd (nothing m.0 (sym e ∙ m.1))
      where
        nothing : (c : Counted) → ◌≡◌ {A = Option Counted} None (Some c) → ⊥
        nothing c h = cc
    count-at None e None k = (refl, omega arith)

    still-few : len (insert counted (s, f) (one_more wish (get counted (s, f)))) ≤ MAX_FRAMES
    unfolding own_rows
    still-few = len-within counted (s, f) (one_more wish (get counted (s, f))) MAX_FRAMES along.few (elim (cases_Bool (contains counted (s, f))) [
      | inl there ↦ inl there
      | inr other ↦ inr (not_full (len counted) MAX_FRAMES (free-one (get counted (s, f)) other admitted.room))
    ])
      where
        free-one : (o : Option Counted) → is_some o ≡ false → is_full counted o ≡ false → nat_le MAX_FRAMES (len counted) ≡ false
        free-one None e h = h
        free-one (Some c) e h = absurd (true≢false e)

    len-one : (g : Frame) (q : Placement) → len (insert g.placements q tt) ≤ len g.placements + 1
    len-one g q = len-within g.placements q tt (len g.placements + 1) (omega arith) (inr (omega arith))

    -- a wish that is given nothing counts
    pub along-counted : IsAlong added (insert counted (s, f) (one_more wish (get counted (s, f)))) t
    unfolding settle
    along-counted = record {
      old = along.old;
      counts = λ g z at. elim (cases_Bool (same_text f g)) [
        | inl same ↦
            let key : g ≡ f = sym (same_text-is f g same) in
            let here : get t (s, f) ≡ Some z = ap (λ k. get t (s, k)) (sym key) ∙ at in
            let m = along.counts f z here in
            let c = count-at (Some m.0) m.1 (Some z) here in
            let put : get (insert counted (s, f) (one_more wish (get counted (s, f)))) (s, g) ≡ Some (one_more wish (Some m.0)) = ap (λ k. get (insert counted (s, f) (one_more wish (get counted (s, f)))) (s, k)) key ∙ get-put counted (s, f) (one_more wish (get counted (s, f))) ∙ ap (λ o. Some (one_more wish o)) m.1 in
            (one_more wish (Some m.0), put, m.2, omega (arith, m.3))
        | inr other ↦
            let m = along.counts g z at in
            (m.0, settle-other counted (s, f) (s, g) (Becomes (one_more wish (get counted (s, f)))) (other_frame s f g other) ∙ m.1, m.2, m.3)
      ];
      few = still-few;
    }

    -- and one that is given a placement has it then
    pub along-placed : (q : Placement) → IsAlong (q ∷ added) (insert counted (s, f) (one_more wish (get counted (s, f)))) (insert t (s, f) (with_one (frame_or n (get t (s, f))) q))
    unfolding settle
    along-placed q = record {
      old = λ k g r at h. elim (insert-cases t (s, f) (with_one (frame_or n (get t (s, f))) q) k g at) [
        | inl here ↦ elim (contains-cases (frame_or n (get t (s, f))).placements q tt r (subst (λ (z : Frame). contains z.placements r ≡ true) (sym here.1) h)) [
          | inl same ↦ inr (inl same)
          | inr before ↦ later (framed-old (get t (s, f)) refl k (frame_or n (get t (s, f))) r (ap (get (framed t f n (get t (s, f)))) here.0 ∙ framed-there (get t (s, f)) refl) before)
        ]
        | inr other ↦ later (along.old k g r other.1 h)
      ];
      counts = λ g z at. elim (cases_Bool (same_text f g)) [
        | inl same ↦
            let key : g ≡ f = sym (same_text-is f g same) in
            let one = one_more wish (get counted (s, f)) in
            let after = with_one (frame_or n (get t (s, f))) q in
            let here : after ≡ z = same_some after z (sym (get-put t (s, f) after) ∙ ap (λ k. get (insert t (s, f) after) (s, k)) (sym key) ∙ at) in
            let c = count-at (get counted (s, f)) refl (get t (s, f)) refl in
            let less = len-one (frame_or n (get t (s, f))) q in
            let few : len (insert (frame_or n (get t (s, f))).placements q tt) ≤ one.placements = omega (arith, c.1, less) in (
              one,
              ap (λ k. get (insert counted (s, f) one) (s, k)) key ∙ get-put counted (s, f) one,
              ap (λ (w : Frame). w.node) (sym here) ∙ node-is (get t (s, f)) refl ∙ sym c.0,
              subst (λ (w : Frame). len w.placements ≤ one.placements) here few,
            )
        | inr other ↦
            let m = along.counts g z (sym (settle-other t (s, f) (s, g) (Becomes (with_one (frame_or n (get t (s, f))) q)) (other_frame s f g other)) ∙ at) in
            (m.0, settle-other counted (s, f) (s, g) (Becomes (one_more wish (get counted (s, f)))) (other_frame s f g other) ∙ m.1, m.2, m.3)
      ];
      few = still-few;
    }
      where
        later : {X : Type 0} {r : Placement} → X ⊎ Member r added → X ⊎ Member r (q ∷ added)
        later h = elim h [ inl old ↦ inl old | inr new ↦ inr (inr new) ]

  -- ---- rows in turn

  -- a placement that is given at the line of a wish, and what holds of those
  abbrev Given_at : List Given → Asked → Placement → Type 0
  Given_at given a q = place_at given a.line ≡ Some q

  abbrev Stand : List Given → List Asked → Type 0
  Stand given asked = AllByRecursion (λ a. (q : Placement) → Given_at given a q → MayStand at_first free_now a.wish q) asked

  abbrev Apart : List Given → List Asked → Type 0
  Apart given asked = Pairs (λ a e. (q r : Placement) → Given_at given a q → Given_at given e r → AreDisjoint q r) asked

  abbrev ApartFrom : List Given → List Placement → List Asked → Type 0
  ApartFrom given added asked = AllByRecursion (λ r. AllByRecursion (λ a. (q : Placement) → Given_at given a q → AreDisjoint r q) asked) added

  -- the rows of a file that has these records, row by row
  abbrev pub Passes : Bool → Table owned Frame → List RowRead → Type 0
  Passes replaces t file = (u : Table owned Frame) × (run_in p b s v y replaces t file ≡ Ok u)

  -- what becomes of the wishes of these lines
  abbrev Runs : Bool → List Given → List WishRead → Type 0
  Runs replaces given reads = (counted : Table owned Counted) (added : List Placement) (t : Table owned Frame) → IsAlong added counted t →
      Stand given (asked_of (judge at_first counted reads)) → Apart given (asked_of (judge at_first counted reads)) → ApartFrom given added (asked_of (judge at_first counted reads)) →
      (file : List RowRead) → map (λ f. f.row) file ≡ map Ok (filter_map (λ row. record_of row.proposed) (map (proposal_row given) (judge at_first counted reads))) → Passes replaces t file

  tails : (given : List Given) (added : List Placement) (a : Asked) (asked : List Asked) → ApartFrom given added (a ∷ asked) → ApartFrom given added asked
  tails given [] a asked h = tt
  tails given (r ∷ added) a asked h = (h.0.1, tails given added a asked h.1)

  heads : (given : List Given) (added : List Placement) (a : Asked) (asked : List Asked) → ApartFrom given added (a ∷ asked) → (q : Placement) → Given_at given a q → AllByRecursion (λ r. AreDisjoint r q) added
  heads given [] a asked h q e = tt
  heads given (r ∷ added) a asked h q e = (h.0.0 q e, heads given added a asked h.1 q e)

  first-apart : (given : List Given) (a : Asked) (asked : List Asked) (q : Placement) → Given_at given a q → AllByRecursion (λ e. (q r : Placement) → Given_at given a q → Given_at given e r → AreDisjoint q r) asked → AllByRecursion (λ e. (r : Placement) → Given_at given e r → AreDisjoint q r) asked
  first-apart given a [] q e h = tt
  first-apart given a (x ∷ asked) q e h = ((λ r k. h.0 q r e k), first-apart given a asked q e h.1)

  row-first : (replaces : Bool) (t u : Table owned Frame) (f : RowRead) (file : List RowRead) (r : Row) → f.row ≡ Ok r → act_in p b s v y replaces t r ≡ Ok u → run_in p b s v y replaces t (f ∷ file) ≡ run_in p b s v y replaces u file
  unfolding run_in at_line ◌>>=◌
  row-first replaces t u f file r is does = ap (λ z. at_line f.line (z >>= act_in p b s v y replaces t) >>= (λ after. run_in p b s v y replaces after file)) is ∙ ap (λ z. at_line f.line z >>= (λ after. run_in p b s v y replaces after file)) does

  -- the record of a wish that the rows do not refuse
  record-of : (given : List Given) (line : ℕ) (wish : Wish) (place : Option Placement) → place_at given line ≡ place →
      record_of (proposal_row given (record { line = line; wish = Ok wish })).proposed ≡ option_map (λ q. row.Place wish.frame wish.node q) place
  unfolding proposal_row ◌>>=◌ ◌or◌
  record-of given line wish None e = rw e refl
  record-of given line wish (Some q) e = rw e refl

  module _ (replaces : Bool) (given : List Given) where
    one_row : (reads : List WishRead) → Runs replaces given reads → (line : ℕ) (counted : Table owned Counted) (added : List Placement) (t : Table owned Frame) → IsAlong added counted t → (wish : Wish) → IsAdmitted at_first counted wish →
        (place : Option Placement) → place_at given line ≡ place →
        let asked = asked_of (judge at_first (count_wish s counted (Ok wish)) reads) in
        Stand given (record { line = line; wish = wish } ∷ asked) → Apart given (record { line = line; wish = wish } ∷ asked) → ApartFrom given added (record { line = line; wish = wish } ∷ asked) →
        (file : List RowRead) → map (λ f. f.row) file ≡ map Ok (cons_option (option_map (λ q. row.Place wish.frame wish.node q) place) (filter_map (λ row. record_of row.proposed) (map (proposal_row given) (judge at_first (count_wish s counted (Ok wish)) reads)))) → Passes replaces t file
    one_row reads rest line counted added t along wish admitted None e stand apart from file are =
        rest (count_wish s counted (Ok wish)) added t (along-counted added counted t along wish admitted) stand.1 apart.1 (tails given added (record { line = line; wish = wish }) _ from) file are
    one_row reads rest line counted added t along wish admitted (Some q) e stand apart from [] are = cc
    one_row reads rest line counted added t along wish admitted (Some q) e stand apart from (f ∷ file) are =
        let a : Asked = record { line = line; wish = wish } in
        let is : f.row ≡ Ok (row.Place wish.frame wish.node q) = ap (head_or f.row) are in
        let others = ap tail_of are in
        let may = stand.0 q e in
        let does = row-done added counted t along wish admitted replaces (get t (s, wish.frame)) refl q may (heads given added a _ from q e) in
        let more = rest (count_wish s counted (Ok wish)) (q ∷ added) _ (along-placed added counted t along wish admitted q) stand.1 apart.1 (first-apart given a _ q e apart.0, tails given added a _ from) file others in
        (more.0, row-first replaces t _ f file (row.Place wish.frame wish.node q) is does ∙ more.1)
      where
        head_or : Result Row Refusal → List (Result Row Refusal) → Result Row Refusal
        head_or d [] = d
        head_or d (x ∷ xs) = x

        tail_of : List (Result Row Refusal) → List (Result Row Refusal)
        tail_of [] = []
        tail_of (x ∷ xs) = xs

    refused-record : (line : ℕ) (refusal : Refusal) → record_of (proposal_row given (record { line = line; wish = Err refusal })).proposed ≡ None
    unfolding proposal_row ◌>>=◌
    refused-record line refusal = refl

    pub runs : (reads : List WishRead) → Runs replaces given reads
    unfolding judge run_in own_rows
    runs [] counted added t along stand apart from [] are = (t, refl)
    runs [] counted added t along stand apart from (f ∷ file) are = cc
    runs (read ∷ reads) counted added t along stand apart from file are =
        (elim (judged at_first counted read.wish) as (λ j. judged at_first counted read.wish ≡ j →
        Stand given (cons_option (asked_at read.line j) (asked_of (judge at_first (count_wish s counted j) reads))) →
        Apart given (cons_option (asked_at read.line j) (asked_of (judge at_first (count_wish s counted j) reads))) →
        ApartFrom given added (cons_option (asked_at read.line j) (asked_of (judge at_first (count_wish s counted j) reads))) →
        map (λ f. f.row) file ≡ map Ok (cons_option (record_of (proposal_row given (record { line = read.line; wish = j })).proposed) (filter_map (λ row. record_of row.proposed) (map (proposal_row given) (judge at_first (count_wish s counted j) reads)))) → Passes replaces t file) [
          | Ok wish ↦ λ e h k l m.
              one_row reads (runs reads) read.line counted added t along wish (judged-admitted at_first counted read.wish wish e).1 (place_at given read.line) refl h k l file
              (m ∙ ap (λ o. map Ok (cons_option o (filter_map (λ row. record_of row.proposed) (map (proposal_row given) (judge at_first (count_wish s counted (Ok wish)) reads))))) (record-of given read.line wish (place_at given read.line) refl))
          | Err refusal ↦ λ e h k l m. runs reads counted added t along h k l file (m ∙ ap (λ o. map Ok (cons_option o (filter_map (λ row. record_of row.proposed) (map (proposal_row given) (judge at_first counted reads))))) (refused-record read.line refusal))
        ]) refl stand apart from are
