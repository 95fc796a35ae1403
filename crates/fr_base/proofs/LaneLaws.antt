-- The lanes of a cluster, each once and in order: those that a load shows, and how many rows of the schedule lie in each.
use Rattle.std.proofs.Common.{◌≡◌, ◌≤◌, ◌<◌, ◌+◌, ℕ, zero, suc, Bool, true, false, cond, List, [], ◌∷◌, ◌++◌, length, map, filter, Option, Some, None, is_some, option_map, IsTrue, All, refl, sym, ap, subst, ◌∙◌, inl, inr, true≢false, arith, Less, Equal}
use Rattle.std.specs.Prelude.{⊤, T, ◌↔◌}
use Rattle.std.specs.declared.cmp.Ordering.{Ordering}
use Rattle.std.specs.Ordering.{is_lt, is_eq, eq_by_cmp, nat_cmp, ordering_then}
use Rattle.std.specs.Cmp.{nat_cmp_is}
use Rattle.std.specs.List.{cons_option, count_by, flat_map, range_with_len, sum_by}
use Rattle.std.specs.FinMap.Entries.{find, is_sorted, below_all}
use Rattle.std.proofs.lemmas.Bool.{cases_Bool, cases_lt}
use Rattle.std.proofs.lemmas.List.Elements.{All-nil, All-cons, All-head, All-tail, All-append, All-map, All-weaker, All-contains_itself, filter_passes}
use Rattle.std.specs.List.{Contains}
use Rattle.std.proofs.lemmas.List.Sums.{sum_by-cons}
use Rattle.std.proofs.lemmas.Simd.{map-map}
use Rattle.fr_base.specs.TableRows.{both, first, second}
use Rattle.fr_base.specs.Tables.{Table, get, contains, only, each}
use Rattle.fr_base.specs.Keys.{numbers, channel_order, owned, channel_slots}
use Rattle.fr_base.specs.Cells.{Cell, cluster_cells, has_cell}
use Rattle.fr_base.specs.Channels.{channels_in, channel_number, has_channel}
use Rattle.fr_base.specs.Cycles.{all_cycles}
use Rattle.fr_base.specs.Cluster.{Cluster}
use Rattle.fr_base.specs.Schedule.{entries}
use Rattle.fr_base.specs.Book.{Holder, Frame, Variant, Book, Sender, held_by, held_by_node, is_of, own, own_grants, granted, schedule_of}
use Rattle.fr_base.specs.Queries.{sending, sendings_of}
use Rattle.fr_base.specs.Seen.{seen_grants, seen_frames}
use Rattle.fr_base.specs.Load.{lanes_in, lanes_of, seen_lanes, lane_cell, used_cycles, lane_holder, load_row, load_of}
use Rattle.fr_base.specs.Sound.{HasChannelSlot, IsSoundVariant, IsSound}
use Rattle.fr_base.specs.LoadLaws.{lane_shown, grant_shown, LoadShowsOwnLanes, IsHeldSo, LoadShowsEachLane, is_in_lane, LoadCountsTheSchedule}
use Rattle.fr_base.specs.declared.channel.Channel.{Channel}
use Rattle.fr_base.specs.declared.channel.Channel.TheVariants as channel
use Rattle.fr_base.specs.declared.channel.Channels.{Channels}
use Rattle.fr_base.specs.declared.channel.Channels.TheVariants as channels
use Rattle.fr_base.specs.declared.name.Name.{Name}
use Rattle.fr_base.specs.declared.params.Params.{Params}
use Rattle.fr_base.specs.declared.answer.LaneHolder.{LaneHolder}
use Rattle.fr_base.specs.declared.answer.LoadRow.{LoadRow}
use Rattle.fr_base.specs.declared.answer.Sending.{Sending}
use Rattle.fr_base.specs.declared.actor.Actor.{Actor}
use Rattle.fr_base.specs.declared.actor.Actor.TheVariants.{Integrator, Supplier}
use Rattle.fr_base.proofs.TableLaws.{equal, get-only, kept, none_above, same_table}
use Rattle.fr_base.proofs.SoundTables.{value_of, only-stood}
use Rattle.fr_base.proofs.SoundCells.{has_cell-in}
use Rattle.fr_base.proofs.SoundRows.{holder-is}
use Rattle.fr_base.proofs.MergeLaws.{is_less, found_first}
use Rattle.fr_base.proofs.AloneCells.{Lacks, schedule-own}
use Rattle.fr_base.proofs.AloneTables.{get-each}
use Rattle.fr_base.proofs.LoadLaws.{all-lanes, count-none}
use Rattle.fr_base.proofs.DifferenceRows.{rows-found}

-- ---- lanes in order

abbrev R : ℕ × Channel → ℕ × Channel → Ordering
R = channel_slots.compare

abbrev listed : ℕ × Channel → (ℕ × Channel) × ⊤
listed at = (at, tt)

-- the lanes of some slots in turn
abbrev slots : List Channel → ℕ → ℕ → List (ℕ × Channel)
slots cs k n = flat_map (lanes_in cs) (range_with_len k n)

less-slot : (a k : ℕ) (c d : Channel) → a < k → T (is_lt (R (a, c) (k, d)))
unfolding channel_slots numbers channel_order
less-slot a k c d lt = is_less _ (ap (λ r. ordering_then r (nat_cmp (channel_number c) (channel_number d))) (sym (nat_cmp_is a k Less lt)))

less-channel : (k : ℕ) → T (is_lt (R (k, channel.A) (k, channel.B)))
unfolding channel_slots numbers channel_order
less-channel k = is_less _ (ap (λ r. ordering_then r (nat_cmp 0 1)) (sym (nat_cmp_is k k Equal refl)))

below-slot : (a k : ℕ) (c : Channel) (ds : List Channel) (rest : List (ℕ × Channel)) → a < k → T (below_all R (a, c) (map listed rest)) → T (below_all R (a, c) (map listed (lanes_in ds k ++ rest)))
below-slot a k c [] rest lt h = h
below-slot a k c (d ∷ ds) rest lt h = both _ _ (less-slot a k c d lt) (below-slot a k c ds rest lt h)

below-slots : (a : ℕ) (c : Channel) (cs : List Channel) (k n : ℕ) → a < k → T (below_all R (a, c) (map listed (slots cs k n)))
below-slots a c cs k zero lt = tt
below-slots a c cs k (suc n) lt = below-slot a k c cs (slots cs (k + 1) n) lt (below-slots a c cs (k + 1) n (omega (arith, lt)))

sorted-slots : (all : Channels) (k n : ℕ) → T (is_sorted R (map listed (slots (channels_in all) k n)))
sorted-slots channels.A k zero = tt
sorted-slots channels.A k (suc n) = both _ _ (below-slots k channel.A (channels_in channels.A) (k + 1) n (omega arith)) (sorted-slots channels.A (k + 1) n)
sorted-slots channels.AB k zero = tt
sorted-slots channels.AB k (suc n) =
    both _ _ (both _ _ (less-channel k) (below-slots k channel.A (channels_in channels.AB) (k + 1) n (omega arith)))
    (both _ _ (below-slots k channel.B (channels_in channels.AB) (k + 1) n (omega arith)) (sorted-slots channels.AB (k + 1) n))
sorted-slots channels.B k zero = tt
sorted-slots channels.B k (suc n) = both _ _ (below-slots k channel.B (channels_in channels.B) (k + 1) n (omega arith)) (sorted-slots channels.B (k + 1) n)

-- ---- those of the cluster, and no other

or_found : (b : Bool) (r : Option ⊤) → r ≡ Some tt → cond b (Some tt) r ≡ Some tt
or_found true r h = refl
or_found false r h = h

later-slot : (at : ℕ × Channel) (k : ℕ) (ds : List Channel) (rest : List (ℕ × Channel)) → find R at (map listed rest) ≡ Some tt → find R at (map listed (lanes_in ds k ++ rest)) ≡ Some tt
later-slot at k [] rest h = h
later-slot at k (d ∷ ds) rest h = or_found (eq_by_cmp R at (k, d)) _ (later-slot at k ds rest h)

has-slot : (all : Channels) (k : ℕ) (d : Channel) (rest : List (ℕ × Channel)) → IsTrue (has_channel all d) → find R (k, d) (map listed (lanes_in (channels_in all) k ++ rest)) ≡ Some tt
has-slot channels.A k channel.A rest h = found_first channel_slots (listed (k, channel.A)) (map listed rest)
has-slot channels.A k channel.B rest h = cc
has-slot channels.AB k channel.A rest h = found_first channel_slots (listed (k, channel.A)) (map listed ((k, channel.B) ∷ rest))
has-slot channels.AB k channel.B rest h = or_found (eq_by_cmp R (k, channel.B) (k, channel.A)) _ (found_first channel_slots (listed (k, channel.B)) (map listed rest))
has-slot channels.B k channel.A rest h = cc
has-slot channels.B k channel.B rest h = found_first channel_slots (listed (k, channel.B)) (map listed rest)

found-slots : (all : Channels) (at : ℕ × Channel) (k n : ℕ) → IsTrue (has_channel all at.1) → k ≤ at.0 → at.0 < k + n → find R at (map listed (slots (channels_in all) k n)) ≡ Some tt
found-slots all at k zero has low high = absurd (omega (arith, low, high))
found-slots all at k (suc n) has low high = elim (cases_lt k at.0) [
  | inl later ↦ later-slot at k (channels_in all) (slots (channels_in all) (k + 1) n) (found-slots all at (k + 1) n has (omega (arith, later)) (omega (arith, high)))
  | inr here ↦
      let same : at.0 ≡ k = omega (arith, low, here) in
      subst (λ j. find R at (map listed (lanes_in (channels_in all) j ++ slots (channels_in all) (k + 1) n)) ≡ Some tt) same
      (has-slot all at.0 at.1 (slots (channels_in all) (k + 1) n) has)
]

all-channels : (all : Channels) → All (λ c. IsTrue (has_channel all c)) (channels_in all)
all-channels channels.A = All-cons (λ c. IsTrue (has_channel channels.A c)) channel.A [] refl (All-nil (λ c. IsTrue (has_channel channels.A c)))
all-channels channels.AB =
    All-cons (λ c. IsTrue (has_channel channels.AB c)) channel.A (channel.B ∷ []) refl
    (All-cons (λ c. IsTrue (has_channel channels.AB c)) channel.B [] refl (All-nil (λ c. IsTrue (has_channel channels.AB c))))
all-channels channels.B = All-cons (λ c. IsTrue (has_channel channels.B c)) channel.B [] refl (All-nil (λ c. IsTrue (has_channel channels.B c)))

module _ (p : Params) where
  in-slots : (k n : ℕ) → 1 ≤ k → k + n ≤ 1 + p.static_slots → All (HasChannelSlot p) (slots (channels_in p.channels) k n)
  in-slots k zero low high = All-nil (HasChannelSlot p)
  in-slots k (suc n) low high =
      All-append (HasChannelSlot p) (lanes_in (channels_in p.channels) k) (slots (channels_in p.channels) (k + 1) n)
      (All-map (HasChannelSlot p) (λ c. (k, c)) (channels_in p.channels)
      (All-weaker (λ c. IsTrue (has_channel p.channels c)) (λ c. HasChannelSlot p (k, c)) (λ c has. record { from_one = low; to_last = omega (arith, high); channel = has }) (channels_in p.channels) (all-channels p.channels)))
      (in-slots (k + 1) n (omega (arith, low)) (omega (arith, high)))

  all-fit : All (HasChannelSlot p) (lanes_of p)
  unfolding lanes_of
  all-fit = in-slots 1 p.static_slots (omega arith) (omega arith)

  lanes-sorted : T (is_sorted R (map listed (lanes_of p)))
  unfolding lanes_of
  lanes-sorted = sorted-slots p.channels 1 p.static_slots

  -- the lanes, as a table
  abbrev lane_table : Table channel_slots ⊤
  lane_table = record { rows = map listed (lanes_of p); sorted = lanes-sorted }

  lane-found : (at : ℕ × Channel) → HasChannelSlot p at → find R at (map listed (lanes_of p)) ≡ Some tt
  unfolding lanes_of
  lane-found at fits = found-slots p.channels at 1 p.static_slots fits.channel fits.from_one (omega (arith, fits.to_last))

  found-in : (P : ℕ × Channel → Type 0) (ks : List (ℕ × Channel)) (at : ℕ × Channel) → All P ks → is_some (find R at (map listed ks)) ≡ true → P at
  found-in P [] at holds h = cc
  found-in P (k ∷ ks) at holds h = elim (cases_Bool (eq_by_cmp R at k)) [
    | inl tie ↦ subst P (sym (channel_slots.exact at k (equal _ tie))) (All-head P k ks holds)
    | inr other ↦ found-in P ks at (All-tail P k ks holds) (sym (ap (λ b. is_some (cond b (Some tt) (find R at (map listed ks)))) other) ∙ h)
  ]

  lane-each : (at : ℕ × Channel) → IsTrue (contains lane_table at) ↔ HasChannelSlot p at
  unfolding get
  lane-each at = (found-in (HasChannelSlot p) (lanes_of p) at all-fit, λ fits. ap is_some (lane-found at fits))

-- ---- the integrator's rows

module _ {X Y : Type 0} (f g : X → Y) where
  map-where : (xs : List X) → All (λ x. f x ≡ g x) xs → map f xs ≡ map g xs
  map-where [] same = refl
  map-where (x ∷ xs) same = λ i. All-head (λ x. f x ≡ g x) x xs same i ∷ map-where xs (All-tail (λ x. f x ≡ g x) x xs same) i

pub each-shown : LoadShowsEachLane
unfolding load_of seen_lanes load_row
each-shown p x = record {
  lanes = lane_table p;
  in_order = map-map (λ (row : LoadRow). ((row.slot, row.channel), tt)) (load_row p x.grants (schedule_of x.frames)) (lanes_of p);
  each = lane-each p;
  holders =
      All-map (IsHeldSo x.grants) (load_row p x.grants (schedule_of x.frames)) (lanes_of p)
      (All-weaker (Contains (lanes_of p)) (λ at. IsHeldSo x.grants (load_row p x.grants (schedule_of x.frames) at)) (λ at _. refl) (lanes_of p) (All-contains_itself (lanes_of p)));
}

-- ---- a supplier's rows

module _ (p : Params) (grants : Table channel_slots Holder) (fits : (at : ℕ × Channel) (h : Holder) → get grants at ≡ Some h → HasChannelSlot p at) where
  kept-held : (at : ℕ × Channel) (o : Option Holder) → get grants at ≡ o → kept {V = ⊤} (λ k _. contains grants k) at (get (lane_table p) at) ≡ option_map (λ _. tt) o
  unfolding get
  kept-held at None is = nothing (get (lane_table p) at)
    where
      nothing : (r : Option ⊤) → kept {V = ⊤} (λ k _. contains grants k) at r ≡ None
      nothing None = refl
      nothing (Some t) = ap (λ o. cond (is_some o) (Some t) None) is
  kept-held at (Some h) is =
      ap (kept {V = ⊤} (λ k _. contains grants k) at) (lane-found p at (fits at h is)) ∙ ap (λ o. cond (is_some o) (Some tt) None) is

  held_table : only (λ k _. contains grants k) (lane_table p) ≡ each (λ _. tt) grants
  held_table = same_table _ _ (λ at.
      get-only channel_slots (λ k _. contains grants k) (lane_table p) at ∙ kept-held at (get grants at) refl ∙ sym (get-each channel_slots (λ _. tt) grants at))

  firsts : (q : ℕ × Channel → Bool) (ks : List (ℕ × Channel)) → map (λ (e : (ℕ × Channel) × ⊤). e.0) (filter (λ e. q e.0) (map listed ks)) ≡ filter q ks
  firsts q [] = refl
  firsts q (k ∷ ks) =
      elim (q k) as (λ b. map (λ (e : (ℕ × Channel) × ⊤). e.0) (cond b (listed k ∷ filter (λ e. q e.0) (map listed ks)) (filter (λ e. q e.0) (map listed ks))) ≡ cond b (k ∷ filter q ks) (filter q ks)) [
        | true ↦ ap (λ r. k ∷ r) (firsts q ks)
        | false ↦ firsts q ks
      ]

  -- the lanes that are granted are those of the grants
  held_lanes : filter (contains grants) (lanes_of p) ≡ map (λ e. e.0) grants.rows
  unfolding only each
  held_lanes =
      sym (firsts (contains grants) (lanes_of p))
      ∙ ap (λ (t : Table channel_slots ⊤). map (λ (e : (ℕ × Channel) × ⊤). e.0) t.rows) held_table
      ∙ map-map (λ (e : (ℕ × Channel) × ⊤). e.0) (λ (e : (ℕ × Channel) × Holder). (e.0, tt)) grants.rows

  abbrev holder_shown : ℕ × Channel → (ℕ × Channel) × Option LaneHolder
  holder_shown at = (at, option_map lane_holder (get grants at))

  shown-grants : map (λ (e : (ℕ × Channel) × Holder). holder_shown e.0) grants.rows ≡ map grant_shown grants.rows
  unfolding get
  shown-grants =
      map-where (λ (e : (ℕ × Channel) × Holder). holder_shown e.0) grant_shown grants.rows
      (All-weaker (λ e. find R e.0 grants.rows ≡ Some e.1) (λ e. holder_shown e.0 ≡ grant_shown e) (λ e is. ap (λ o. (e.0, option_map lane_holder o)) is) grants.rows
      (rows-found channel_slots grants.rows grants.sorted))

  own-shown : (s : Name) (frames : Table owned Frame) → map lane_shown (load_of p (Supplier s) grants frames) ≡ map grant_shown grants.rows
  unfolding load_of seen_lanes load_row
  own-shown s frames =
      map-map lane_shown (load_row p grants (schedule_of frames)) (filter (contains grants) (lanes_of p))
      ∙ ap (map holder_shown) held_lanes
      ∙ map-map holder_shown (λ (e : (ℕ × Channel) × Holder). e.0) grants.rows
      ∙ shown-grants

-- what is a supplier's of sound grants fits the cluster
own-fit : (c : Cluster) (b : Book) (v : Name) (x : Variant) (s : Name) → IsSound c b → get b.variants v ≡ Some x →
    (at : ℕ × Channel) (h : Holder) → get (own_grants s x.grants) at ≡ Some h → HasChannelSlot c.params at
own-fit c b v x s sound there at h is = (sound.variants v x there).1.grants_fit at h (only-stood channel_slots (λ _ h. held_by s (Some h)) x.grants at h is)

pub own_lanes-shown : LoadShowsOwnLanes
own_lanes-shown c b v x s sound there = own-shown c.params (own_grants s x.grants) (own-fit c b v x s sound there) s (own s x.frames)

-- ---- one lane among all

module _ (g : ℕ × Channel → ℕ) (at : ℕ × Channel) where
  abbrev here : ℕ × Channel → ℕ
  here k = cond (eq_by_cmp R at k) (g k) 0

  sum-nowhere : (ks : List (ℕ × Channel)) → find R at (map listed ks) ≡ None → sum_by here ks ≡ 0
  sum-nowhere [] none = refl
  sum-nowhere (k ∷ ks) none = elim (cases_Bool (eq_by_cmp R at k)) [
    | inl tie ↦ let clash : Some tt ≡ None = sym (ap (λ b. cond b (Some tt) (find R at (map listed ks))) tie) ∙ none in cc
    | inr other ↦
        let e = sum_by-cons here k ks in
        let now : here k ≡ 0 = ap (λ b. cond b (g k) 0) other in
        let rest : sum_by here ks ≡ 0 = sum-nowhere ks (sym (ap (λ b. cond b (Some tt) (find R at (map listed ks))) other) ∙ none) in
        omega (arith, e, now, rest)
  ]

  sum-once : (ks : List (ℕ × Channel)) → T (is_sorted R (map listed ks)) → find R at (map listed ks) ≡ Some tt → sum_by here ks ≡ g at
  sum-once [] rise found = cc
  sum-once (k ∷ ks) rise found = elim (cases_Bool (eq_by_cmp R at k)) [
    | inl tie ↦
        let e = sum_by-cons here k ks in
        let now : here k ≡ g at = ap (λ b. cond b (g k) 0) tie ∙ ap g (sym (channel_slots.exact at k (equal _ tie))) in
        let below : T (below_all R k (map listed ks)) = first _ _ rise in
        let none : find R at (map listed ks) ≡ None = none_above channel_slots (λ j w. true) at k (map listed ks) (equal (R at k) tie) below in
        let rest : sum_by here ks ≡ 0 = sum-nowhere ks none in
        omega (arith, e, now, rest)
    | inr other ↦
        let e = sum_by-cons here k ks in
        let now : here k ≡ 0 = ap (λ b. cond b (g k) 0) other in
        let rest : sum_by here ks ≡ g at = sum-once ks (second _ _ rise) (sym (ap (λ b. cond b (Some tt) (find R at (map listed ks))) other) ∙ found) in
        omega (arith, e, now, rest)
  ]

module _ (p : Params) (filled : Cell → Option Sender) (at : ℕ × Channel) where
  -- the schedule in this lane alone
  abbrev part : Cell → Option Sender
  part cell = cond (is_eq (R at (cell.slot, cell.channel))) (filled cell) None

  part-used : (lane : ℕ × Channel) (b : Bool) → eq_by_cmp R at lane ≡ b → used_cycles p part lane ≡ cond b (used_cycles p filled lane) 0
  unfolding used_cycles
  part-used lane true e = ap (λ b. count_by (λ k. is_some (cond b (filled (lane_cell lane k)) None)) (all_cycles p.cycles)) e
  part-used lane false e =
      ap (λ b. count_by (λ k. is_some (cond b (filled (lane_cell lane k)) None)) (all_cycles p.cycles)) e
      ∙ count-none (λ k. is_some {T = Sender} None) (all_cycles p.cycles) (λ k. refl)

  used-sum : HasChannelSlot p at → sum_by (used_cycles p part) (lanes_of p) ≡ used_cycles p filled at
  used-sum fits =
      ap (λ f. sum_by f (lanes_of p)) (λ i lane. part-used lane (eq_by_cmp R at lane) refl i)
      ∙ sum-once (used_cycles p filled) at (lanes_of p) (lanes-sorted p) (lane-found p at fits)

  abbrev in_lane : Sending → Bool
  in_lane x = is_eq (R at (x.slot, x.channel))

  count-one : (cell : Cell) (o : Option Sender) (t : Bool) (es fs : List (Cell × Sender)) → is_eq (R at (cell.slot, cell.channel)) ≡ t → count_by in_lane (map sending es) ≡ length fs →
      count_by in_lane (map sending (cons_option (option_map (λ o. (cell, o)) o) es)) ≡ length (cons_option (option_map (λ o. (cell, o)) (cond t o None)) fs)
  count-one cell None true es fs e h = h
  count-one cell None false es fs e h = h
  count-one cell (Some o) true es fs e h =
      let s = sum_by-cons (λ x. cond (in_lane x) 1 0) (sending (cell, o)) (map sending es) in
      let now : ◌≡◌ {A = ℕ} (cond (in_lane (sending (cell, o))) 1 0) 1 = ap (λ b. cond b 1 0) e in
      omega (arith, s, now, h)
  count-one cell (Some o) false es fs e h =
      let s = sum_by-cons (λ x. cond (in_lane x) 1 0) (sending (cell, o)) (map sending es) in
      let now : ◌≡◌ {A = ℕ} (cond (in_lane (sending (cell, o))) 1 0) 0 = ap (λ b. cond b 1 0) e in
      omega (arith, s, now, h)

  count-part : (cells : List Cell) → count_by in_lane (map sending (entries filled cells)) ≡ length (entries part cells)
  unfolding entries
  count-part [] = refl
  count-part (cell ∷ cells) = count-one cell (filled cell) (is_eq (R at (cell.slot, cell.channel))) (entries filled cells) (entries part cells) refl (count-part cells)

  -- the used cycles of a lane are the rows of the schedule in it
  lane-counted : HasChannelSlot p at → used_cycles p filled at ≡ count_by in_lane (map sending (entries filled (cluster_cells p)))
  lane-counted fits = sym (used-sum fits) ∙ all-lanes part p ∙ sym (count-part (cluster_cells p))

-- ---- the whole schedule in a supplier's lanes

module _ (p : Params) (nodes : Table owned ⊤) (v : Variant) (sound : IsSoundVariant p nodes v) (s : Name) (lane : ℕ × Channel) (holds : contains (own_grants s v.grants) lane ≡ true) where
  others-lack : (cycle : ℕ) (k : Name × Name) (f : Frame) → get v.frames k ≡ Some f → is_of s k ≡ false → Lacks (lane_cell lane cycle) f
  unfolding granted
  others-lack cycle k f there other r in_f = elim (cases_Bool (has_cell r (lane_cell lane cycle))) [
    | inl clash ↦
        let lies = has_cell-in (λ d. held_by_node k.0 f.node (get v.grants (r.slot, d))) r (lane_cell lane cycle) ((sound.frames k f there).in_grants r in_f) clash in
        let holder : get v.grants lane ≡ Some (record { supplier = k.0; node = f.node }) = ap (λ x. get v.grants (x, lane.1)) lies.0 ∙ holder-is k.0 f.node _ lies.1 in
        let lacking : contains (own_grants s v.grants) lane ≡ false =
        ap is_some (get-only channel_slots (λ _ h. held_by s (Some h)) v.grants lane ∙ ap (kept {K = ℕ × Channel} {V = Holder} (λ _ h. held_by s (Some h)) lane) holder)
        ∙ ap (λ b. is_some {T = Holder} (cond b (Some (record { supplier = k.0; node = f.node })) None)) other in
        absurd (true≢false (sym holds ∙ lacking))
    | inr free ↦ free
  ]

  own-used : used_cycles p (schedule_of (own s v.frames)) lane ≡ used_cycles p (schedule_of v.frames) lane
  unfolding used_cycles
  own-used i = count_by (λ k. is_some (sym (schedule-own s (lane_cell lane k) v.frames (others-lack k)) i)) (all_cycles p.cycles)

module _ (c : Cluster) (b : Book) (v : Name) (x : Variant) (sound : IsSound c b) (there : get b.variants v ≡ Some x) where
  abbrev Counts : LoadRow → Type 0
  Counts row = row.used ≡ count_by (is_in_lane row) (sendings_of c.params x.frames)

  all_counted : All (λ at. Counts (load_row c.params x.grants (schedule_of x.frames) at)) (lanes_of c.params)
  unfolding load_row sendings_of
  all_counted =
      All-weaker (HasChannelSlot c.params) (λ at. Counts (load_row c.params x.grants (schedule_of x.frames) at)) (lane-counted c.params (schedule_of x.frames))
      (lanes_of c.params) (all-fit c.params)

  own_counted : (s : Name) → All (λ at. Counts (load_row c.params (own_grants s x.grants) (schedule_of (own s x.frames)) at)) (filter (contains (own_grants s x.grants)) (lanes_of c.params))
  unfolding load_row sendings_of
  own_counted s =
      All-weaker (λ at. contains (own_grants s x.grants) at ≡ true) (λ at. Counts (load_row c.params (own_grants s x.grants) (schedule_of (own s x.frames)) at))
      (λ at held.
      let one = value_of (get (own_grants s x.grants) at) held in
      own-used c.params b.nodes x (sound.variants v x there).1 s at held ∙ lane-counted c.params (schedule_of x.frames) at (own-fit c b v x s sound there at one.0 one.1))
      (filter (contains (own_grants s x.grants)) (lanes_of c.params)) (filter_passes (contains (own_grants s x.grants)) (lanes_of c.params))

  counted : (actor : Actor) → All Counts (load_of c.params actor (seen_grants actor x.grants) (seen_frames actor x.frames))
  unfolding load_of seen_lanes
  counted Integrator = All-map Counts (load_row c.params x.grants (schedule_of x.frames)) (lanes_of c.params) all_counted
  counted (Supplier s) =
      All-map Counts (load_row c.params (own_grants s x.grants) (schedule_of (own s x.frames))) (filter (contains (own_grants s x.grants)) (lanes_of c.params)) (own_counted s)

pub schedule-counted : LoadCountsTheSchedule
schedule-counted c b v x actor sound there = counted c b v x sound there actor
