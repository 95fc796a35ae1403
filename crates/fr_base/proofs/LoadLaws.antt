-- The load: of a supplier's own rows it is that of all rows, and its used cycles add up to the rows of the schedule.
use Rattle.std.proofs.Common.{◌≡◌, ℕ, ◌+◌, Bool, true, false, cond, List, [], ◌∷◌, ◌++◌, length, map, filter, Option, Some, None, is_some, option_map, IsTrue, refl, sym, ap, ◌∙◌, inl, inr, true≢false, arith}
use Rattle.std.specs.Prelude.{⊤}
use Rattle.std.specs.List.{cons_option, count_by, flat_map, sum_by}
use Rattle.std.proofs.lemmas.Bool.{cases_Bool}
use Rattle.std.proofs.lemmas.List.{length-map, map-append}
use Rattle.std.proofs.lemmas.List.Sums.{sum_by-append, sum_by-cons}
use Rattle.std.proofs.lemmas.Simd.{map-map}
use Rattle.fr_base.specs.Tables.{Table, get, contains, only}
use Rattle.fr_base.specs.Keys.{owned, channel_slots}
use Rattle.fr_base.specs.Cells.{Cell, cluster_cells, has_cell, slots_of}
use Rattle.fr_base.specs.Channels.{channels_in}
use Rattle.fr_base.specs.Cycles.{all_cycles}
use Rattle.fr_base.specs.Cluster.{Cluster}
use Rattle.fr_base.specs.Schedule.{entries}
use Rattle.fr_base.specs.Book.{Holder, Frame, Variant, Book, held_by, held_by_node, is_of, own, own_grants, granted, placements_of, schedule_of}
use Rattle.fr_base.specs.Queries.{sending, sendings_of}
use Rattle.fr_base.specs.Seen.{seen_grants, seen_frames}
use Rattle.fr_base.specs.Load.{lanes_in, lanes_of, seen_lanes, lane_cell, used_cycles, load_row, load_of, all_used}
use Rattle.fr_base.specs.Sound.{IsSoundVariant, IsSound}
use Rattle.fr_base.specs.declared.channel.Channel.{Channel}
use Rattle.fr_base.specs.declared.name.Name.{Name}
use Rattle.fr_base.specs.declared.params.Params.{Params}
use Rattle.fr_base.specs.declared.placement.Placement.{Placement}
use Rattle.fr_base.specs.declared.actor.Actor.{Actor}
use Rattle.fr_base.specs.declared.actor.Actor.TheVariants.{Integrator, Supplier}
use Rattle.fr_base.proofs.AloneSchedule.{own_lack}
use Rattle.fr_base.proofs.AloneTables.{only-only}
use Rattle.fr_base.proofs.SoundCells.{has_cell-in}
use Rattle.fr_base.proofs.SoundRows.{holder-is}
use Rattle.fr_base.proofs.TableLaws.{get-only, kept}

-- ---- a supplier's own rows

module _ (p : Params) (s : Name) (x : Variant) where
  -- its load is made of them alone
  pub load-own : load_of p (Supplier s) (own_grants s (own_grants s x.grants)) (own s (own s x.frames)) ≡ load_of p (Supplier s) (own_grants s x.grants) (own s x.frames)
  load-own i = load_of p (Supplier s) (only-only channel_slots (λ _ h. held_by s (Some h)) x.grants i) (only-only owned (λ k _. is_of s k) x.frames i)

-- ---- sums

sum-mapped : {X Y : Type 0} (f : Y → ℕ) (g : X → Y) (xs : List X) → sum_by f (map g xs) ≡ sum_by (λ x. f (g x)) xs
sum-mapped f g [] = refl
sum-mapped f g (x ∷ xs) = sum_by-cons f (g x) (map g xs) ∙ ap (λ n. f (g x) + n) (sum-mapped f g xs) ∙ sym (sum_by-cons (λ x. f (g x)) x xs)

sum-alike : {X : Type 0} (f g : X → ℕ) (xs : List X) → ((x : X) → f x ≡ g x) → sum_by f xs ≡ sum_by g xs
sum-alike f g xs same = ap (λ h. sum_by h xs) (λ i x. same x i)

sum-nothing : {X : Type 0} (xs : List X) → sum_by (λ x. 0) xs ≡ 0
sum-nothing [] = refl
sum-nothing {X} (x ∷ xs) =
    let e = sum_by-cons {X = X} (λ x. 0) x xs in
    let rest = sum-nothing xs in
    omega (arith, e, rest)

sum-both : {X : Type 0} (f g : X → ℕ) (xs : List X) → sum_by f xs + sum_by g xs ≡ sum_by (λ x. f x + g x) xs
sum-both f g [] = refl
sum-both f g (x ∷ xs) =
    let e = sum_by-cons f x xs in
    let h = sum_by-cons g x xs in
    let k = sum_by-cons (λ x. f x + g x) x xs in
    let rest = sum-both f g xs in
    omega (arith, e, h, k, rest)

-- what is left out adds nothing
sum-kept : {X : Type 0} (keep : X → Bool) (f : X → ℕ) (xs : List X) → ((x : X) → keep x ≡ false → f x ≡ 0) → sum_by f (filter keep xs) ≡ sum_by f xs
sum-kept keep f [] none = refl
sum-kept keep f (x ∷ xs) none = elim (cases_Bool (keep x)) [
  | inl here ↦ ap (λ b. sum_by f (cond b (x ∷ filter keep xs) (filter keep xs))) here ∙ sum_by-cons f x (filter keep xs) ∙ ap (λ n. f x + n) (sum-kept keep f xs none) ∙ sym (sum_by-cons f x xs)
  | inr out ↦
      let e = sum_by-cons f x xs in
      let zero = none x out in
      let rest = sum-kept keep f xs none in
      ap (λ b. sum_by f (cond b (x ∷ filter keep xs) (filter keep xs))) out ∙ omega (arith, e, zero, rest)
]

pub count-none : {X : Type 0} (t : X → Bool) (xs : List X) → ((x : X) → t x ≡ false) → count_by t xs ≡ 0
count-none t xs none = sum-alike (λ x. cond (t x) 1 0) (λ x. 0) xs (λ x. ap (λ b. cond b 1 0) (none x)) ∙ sum-nothing xs

-- ---- the rows of a schedule, lane by lane

module _ {O : Type 0} (filled : Cell → Option O) where
  abbrev is_filled : Cell → Bool
  is_filled c = is_some (filled c)

  one-entry : (c : Cell) (r : Option O) (es : List (Cell × O)) → length (cons_option (option_map (λ o. (c, o)) r) es) ≡ cond (is_some r) 1 0 + length es
  one-entry c None es = omega arith
  one-entry c (Some o) es = omega arith

  -- there are as many as filled cells
  length-entries : (cells : List Cell) → length (entries filled cells) ≡ count_by is_filled cells
  unfolding entries
  length-entries [] = refl
  length-entries (c ∷ cs) =
      one-entry c (filled c) (entries filled cs)
      ∙ ap (λ n. cond (is_filled c) 1 0 + n) (length-entries cs)
      ∙ sym (sum_by-cons (λ c. cond (is_filled c) 1 0) c cs)

  -- cycle by cycle they are as many as lane by lane
  count-lanes : (lanes : List (ℕ × Channel)) (ks : List ℕ) →
      count_by is_filled (flat_map (λ k. map (λ lane. lane_cell lane k) lanes) ks) ≡ sum_by (λ lane. count_by (λ k. is_filled (lane_cell lane k)) ks) lanes
  count-lanes lanes [] = sym (sum-nothing lanes)
  count-lanes lanes (k ∷ ks) =
      sum_by-append (λ c. cond (is_filled c) 1 0) (map (λ lane. lane_cell lane k) lanes) (flat_map (λ k. map (λ lane. lane_cell lane k) lanes) ks)
      ∙ (λ i. sum-mapped (λ c. cond (is_filled c) 1 0) (λ lane. lane_cell lane k) lanes i + count-lanes lanes ks i)
      ∙ sum-both (λ lane. cond (is_filled (lane_cell lane k)) 1 0) (λ lane. count_by (λ k. is_filled (lane_cell lane k)) ks) lanes
      ∙ sum-alike _ _ lanes (λ lane. sym (sum_by-cons (λ k. cond (is_filled (lane_cell lane k)) 1 0) k ks))

  -- the cells of a cycle, lane by lane
  cells-lanes : (k : ℕ) (channels : List Channel) (slots : List ℕ) →
      flat_map (λ slot. map (λ channel. lane_cell (slot, channel) k) channels) slots ≡ map (λ lane. lane_cell lane k) (flat_map (lanes_in channels) slots)
  cells-lanes k channels [] = refl
  cells-lanes k channels (slot ∷ slots) =
      (λ i. sym (map-map (λ lane. lane_cell lane k) (λ channel. (slot, channel)) channels) i ++ cells-lanes k channels slots i)
      ∙ sym (map-append (λ lane. lane_cell lane k) (lanes_in channels slot) (flat_map (lanes_in channels) slots))

  -- so the used cycles of all lanes add up to them
  pub all-lanes : (p : Params) → sum_by (used_cycles p filled) (lanes_of p) ≡ length (entries filled (cluster_cells p))
  unfolding used_cycles lanes_of cluster_cells
  all-lanes p = sym (
      length-entries (cluster_cells p)
      ∙ ap (λ g. count_by is_filled (flat_map g (all_cycles p.cycles))) (λ i k. cells-lanes k (channels_in p.channels) (slots_of p) i)
      ∙ count-lanes (lanes_of p) (all_cycles p.cycles))

-- the used cycles of some lanes' rows
used-rows : {O : Type 0} (p : Params) (grants : Table channel_slots Holder) (filled : Cell → Option O) (lanes : List (ℕ × Channel)) →
    all_used (map (load_row p grants filled) lanes) ≡ sum_by (used_cycles p filled) lanes
unfolding load_row
used-rows p grants filled lanes = sum-mapped (λ row. row.used) (load_row p grants filled) lanes

-- ---- lanes that a supplier does not hold

module _ (p : Params) (nodes : Table owned ⊤) (v : Variant) (sound : IsSoundVariant p nodes v) (s : Name) where
  -- who sends in a lane holds it
  holds-lane : (k : Name × Name) (f : Frame) (q : Placement) (c : Cell) → get v.frames k ≡ Some f → is_of s k ≡ true → IsTrue (contains f.placements q) → IsTrue (has_cell q c) →
      contains (own_grants s v.grants) (c.slot, c.channel) ≡ true
  unfolding granted
  holds-lane k f q c there mine within has =
      let lies = has_cell-in (λ d. held_by_node k.0 f.node (get v.grants (q.slot, d))) q c ((sound.frames k f there).in_grants q within) has in
      let holder : get v.grants (c.slot, c.channel) ≡ Some (record { supplier = k.0; node = f.node }) = ap (λ x. get v.grants (x, c.channel)) lies.0 ∙ holder-is k.0 f.node _ lies.1 in
      ap is_some (get-only channel_slots (λ _ h. held_by s (Some h)) v.grants (c.slot, c.channel) ∙ ap (kept {K = ℕ × Channel} {V = Holder} (λ _ h. held_by s (Some h)) (c.slot, c.channel)) holder)
      ∙ ap (λ b. is_some {T = Holder} (cond b (Some (record { supplier = k.0; node = f.node })) None)) mine

  -- so its frames are sent in no other
  none-sent : (lane : ℕ × Channel) → contains (own_grants s v.grants) lane ≡ false → (k : ℕ) → is_some (schedule_of (own s v.frames) (lane_cell lane k)) ≡ false
  unfolding schedule_of placements_of only get
  none-sent lane none k =
      ap is_some (own_lack s (lane_cell lane k) v.frames.rows v.frames.sorted (λ key f there mine q within. elim (cases_Bool (has_cell q (lane_cell lane k))) [
        | inl has ↦ absurd (true≢false (sym (holds-lane key f q (lane_cell lane k) there mine within has) ∙ none))
        | inr free ↦ free
      ]))

  unused : (lane : ℕ × Channel) → contains (own_grants s v.grants) lane ≡ false → used_cycles p (schedule_of (own s v.frames)) lane ≡ 0
  unfolding used_cycles
  unused lane none = count-none (λ k. is_some (schedule_of (own s v.frames) (lane_cell lane k))) (all_cycles p.cycles) (none-sent lane none)

-- ---- the used cycles add up

sent-entries : (p : Params) (frames : Table owned Frame) → length (entries (schedule_of frames) (cluster_cells p)) ≡ length (sendings_of p frames)
unfolding sendings_of
sent-entries p frames = sym (length-map (entries (schedule_of frames) (cluster_cells p)) sending)

module _ (p : Params) (nodes : Table owned ⊤) (v : Variant) (sound : IsSoundVariant p nodes v) where
  used-seen : (actor : Actor) → all_used (load_of p actor (seen_grants actor v.grants) (seen_frames actor v.frames)) ≡ length (sendings_of p (seen_frames actor v.frames))
  unfolding load_of seen_lanes
  used-seen Integrator = used-rows p v.grants (schedule_of v.frames) (lanes_of p) ∙ all-lanes (schedule_of v.frames) p ∙ sent-entries p v.frames
  used-seen (Supplier s) =
      used-rows p (own_grants s v.grants) (schedule_of (own s v.frames)) (filter (contains (own_grants s v.grants)) (lanes_of p))
      ∙ sum-kept (contains (own_grants s v.grants)) (used_cycles p (schedule_of (own s v.frames))) (lanes_of p) (unused p nodes v sound s)
      ∙ all-lanes (schedule_of (own s v.frames)) p
      ∙ sent-entries p (own s v.frames)

pub load-adds : (c : Cluster) (b : Book) (v : Name) (x : Variant) (actor : Actor) → IsSound c b → get b.variants v ≡ Some x →
    all_used (load_of c.params actor (seen_grants actor x.grants) (seen_frames actor x.frames)) ≡ length (sendings_of c.params (seen_frames actor x.frames))
load-adds c b v x actor sound there = used-seen c.params b.nodes x (sound.variants v x there).1 actor
