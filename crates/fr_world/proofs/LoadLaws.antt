-- The load: used cycles are counted as bits, and lanes are listed one by one.
use Rattle.std.proofs.Common.{◌≡◌, ℕ, zero, suc, ◌+◌, ◌-◌, ◌*◌, ◌/◌, ◌%◌, ◌<◌, ◌≤◌, ◌&&◌, Bool, true, false, cond, eqb, List, [], ◌∷◌, ◌++◌, length, take, get_or, map, filter, Option, Some, None, is_some, option_map, refl, sym, ap, ◌∙◌, arith, bit_and, append_assoc, append-nil}
use Rattle.std.specs.Prelude.{◌^◌}
use Rattle.std.specs.Int.Count.{ones, ones_step, ones-le}
use Rattle.std.specs.BTreeMap.{is_at}
use Rattle.std.specs.Map.{lookup}
use Rattle.std.specs.List.{count_by, flat_map, range_with_len}
use Rattle.std.proofs.Math.Nat.{pow-suc}
use Rattle.std.proofs.Math.Pow.{ones_lt}
use Rattle.std.proofs.lemmas.Grind.{flat_map-append}
use Rattle.std.proofs.lemmas.List.{map-append, take_more}
use Rattle.std.proofs.lemmas.List.Sums.{sum_by-cons}
use Rattle.std.proofs.lemmas.Nat.{and_le_r}
use Rattle.std.proofs.lemmas.Simd.{map-map}
use Rattle.std.proofs.lemmas.Nat.Bits.{bit_at_lowest, bit_at_ones, bit_at-lt, bit_at-suc}
use Rattle.fr_base.specs.Book as book
use Rattle.fr_base.specs.Book.{Sender, placements_of, schedule_of}
use Rattle.fr_base.specs.Cells.{Cell}
use Rattle.fr_base.specs.Cycles.{all_cycles, is_bit_set}
use Rattle.fr_base.specs.Keys.{owned, channel_slots}
use Rattle.fr_base.specs.Load.{lane_cell, lane_holder, lanes_of, load_of, load_row, seen_lanes, used_cycles}
use Rattle.fr_base.specs.Schedule.{fill}
use Rattle.fr_base.specs.Tables.{Table, contains, get}
use Rattle.fr_base.specs.declared.answer.LaneHolder.{LaneHolder}
use Rattle.fr_base.specs.declared.answer.LoadRow.{LoadRow}
use Rattle.fr_base.specs.declared.actor.Actor.TheVariants.{Integrator, Supplier}
use Rattle.fr_base.specs.declared.channel.Channel.{Channel}
use Rattle.fr_base.specs.declared.name.Name.{Name}
use Rattle.fr_base.specs.declared.params.Params.{Params}
use Rattle.fr_base.specs.declared.placement.Placement.{Placement}
use Rattle.fr_base.proofs.MaskLemmas.{ones_are}
use Rattle.fr_world.specs.Loads.{filled_load, grants_in_lanes, holder_in, lane_of}
use Rattle.fr_world.specs.Masks.{ShowFilled, word_on, words_at}
use Rattle.fr_world.specs.declared.filled_cycles.FilledCycles.{FilledCycles}
use Rattle.fr_world.specs.declared.page.ChannelSlot.{ChannelSlot}
use Rattle.fr_world.proofs.DecideFilling.{fill-named, named}
use Rattle.fr_world.proofs.KeyLaws.{slot_cmp, slots_alike}
use Rattle.fr_world.proofs.MapLaws.{get-table_of, is_some-map}
use Rattle.fr_world.proofs.MaskLaws.{is_set-and}
use Rattle.fr_world.proofs.ScheduleLaws.{range-more}

-- ---- bits

one_bit : (m : ℕ) → m < 2 → cond (eqb m 1) 1 0 ≡ m
one_bit zero l = refl
one_bit (suc zero) l = refl
one_bit (suc (suc m)) l = absurd (omega (arith, l))

-- a count of numbers that are all one greater
count-later : (t : ℕ → Bool) (a d : ℕ) → count_by t (range_with_len (suc a) d) ≡ count_by (λ k. t (suc k)) (range_with_len a d)
count-later t a zero = refl
count-later t a (suc d) =
    let e : suc a + 1 ≡ suc (a + 1) = omega arith in
    sum_by-cons (λ k. cond (t k) 1 0) (suc a) (range_with_len (suc a + 1) d)
    ∙ ap (λ n. cond (t (suc a)) 1 0 + n) (ap (λ n. count_by t (range_with_len n d)) e ∙ count-later t (a + 1) d)
    ∙ sym (sum_by-cons (λ k. cond (t (suc k)) 1 0) a (range_with_len (a + 1) d))

-- tests that agree on these numbers
count-alike : (t u : ℕ → Bool) (a d : ℕ) → ((k : ℕ) → a ≤ k → k < a + d → t k ≡ u k) → count_by t (range_with_len a d) ≡ count_by u (range_with_len a d)
count-alike t u a zero same = refl
count-alike t u a (suc d) same =
    sum_by-cons (λ k. cond (t k) 1 0) a (range_with_len (a + 1) d)
    ∙ (λ i. cond (same a (omega arith) (omega arith) i) 1 0 + count-alike t u (a + 1) d (λ k low high. same k (omega (arith, low)) (omega (arith, high))) i)
    ∙ sym (sum_by-cons (λ k. cond (u k) 1 0) a (range_with_len (a + 1) d))

-- the digits of a number are its bits
ones-bits : (d n : ℕ) → n < 2 ^ d → ones n ≡ count_by (is_bit_set n) (range_with_len 0 d)
ones-bits zero n h = let none = ones-le 0 n h in omega (arith, none)
ones-bits (suc d) n h =
    let twice : 2 ^ suc d ≡ 2 ^ d * 2 = pow-suc 2 d in
    let small : n / 2 < 2 ^ d = omega (arith, h, twice) in
    let lowest : cond (is_bit_set n 0) 1 0 ≡ n % 2 = one_bit _ (bit_at-lt n 0) ∙ bit_at_lowest n in
    ones_step n
    ∙ (λ i. sym lowest i + ones-bits d (n / 2) small i)
    ∙ ap (λ m. cond (is_bit_set n 0) 1 0 + m) (sym (count-later (is_bit_set n) 0 d ∙ ap (λ t. count_by t (range_with_len 0 d)) (λ i k. eqb (bit_at-suc n k i) 1)))
    ∙ sym (sum_by-cons (λ k. cond (is_bit_set n k) 1 0) 0 (range_with_len 1 d))

-- so those of a word's lowest bits are counted
pub marked-ones : (word n : ℕ) → 1 ≤ n → n ≤ 64 → ones (bit_and word (18446744073709551615 / 2 ^ (64 - n))) ≡ count_by (is_bit_set word) (all_cycles n)
unfolding all_cycles
marked-ones word n low high =
    let lower = ones_lt n in
    let within = and_le_r word (2 ^ n - 1) in
    ap (λ mask. ones (bit_and word mask)) (ones_are n low high)
    ∙ ones-bits n (bit_and word (2 ^ n - 1)) (omega (arith, lower, within))
    ∙ count-alike _ (is_bit_set word) 0 n (λ k from below. is_set-and word (2 ^ n - 1) k ∙ and_true (is_bit_set word k) _ (ap (λ b. eqb b 1) (bit_at_ones n k (omega (arith, below)))))
  where
    and_true : (b c : Bool) → c ≡ true → b && c ≡ b
    and_true true c e = e
    and_true false c e = refl

-- the word of a lane has the cycles in which it is filled
pub word-used : (p : Params) (pairs : List (Name × Placement)) (words : List (ℕ × FilledCycles)) (slot : ℕ) (x : Channel) (word : ℕ) → ShowFilled pairs words → word ≡ word_on x (words_at words slot)
    → count_by (is_bit_set word) (all_cycles p.cycles) ≡ used_cycles p (fill pairs) (slot, x)
unfolding used_cycles
word-used p pairs words slot x word shows is =
    ap (λ w. count_by (is_bit_set w) (all_cycles p.cycles)) is
    ∙ ap (λ t. count_by t (all_cycles p.cycles)) (λ i k. shows slot x k i)

-- ---- rows

-- what is filled is, by whatever name
same-used : {O Q : Type 0} (p : Params) (f : Cell → Option O) (g : Cell → Option Q) (lane : ℕ × Channel) → ((c : Cell) → is_some (f c) ≡ is_some (g c)) → used_cycles p f lane ≡ used_cycles p g lane
unfolding used_cycles
same-used p f g lane same = ap (λ t. count_by t (all_cycles p.cycles)) (λ i k. same (lane_cell lane k) i)

same-row : {O Q : Type 0} (p : Params) (grants : Table channel_slots book.Holder) (f : Cell → Option O) (g : Cell → Option Q) → ((c : Cell) → is_some (f c) ≡ is_some (g c)) → (lane : ℕ × Channel) → load_row p grants f lane ≡ load_row p grants g lane
unfolding load_row
same-row p grants f g same lane = λ i. record (load_row p grants f lane) { used = same-used p f g lane same i }

-- placements fill alike with their frames' names alone
pub named-load : (p : Params) (grants : Table channel_slots book.Holder) (cells : List (Name × Placement)) (placed : List (Sender × Placement)) → cells ≡ map named placed → filled_load p grants cells ≡ filled_load p grants placed
unfolding filled_load
named-load p grants cells placed e =
    ap (λ ps. map (load_row p grants (fill ps)) (lanes_of p)) e
    ∙ ap (λ f. map f (lanes_of p)) (λ i lane. same-row p grants (fill (map named placed)) (fill placed) (λ c. ap is_some (fill-named placed c) ∙ is_some-map (λ o. o.frame) (fill placed c)) lane i)

-- ---- one more

module _ {X R : Type 0} where
  -- one of a list more
  pub map-next : (f : X → R) (xs : List X) (i : ℕ) (x y : X) (old mid new : List R) → i < length xs → x ≡ get_or xs i y → mid ≡ old ++ map f (take i xs) → new ≡ mid ++ f x ∷ [] → new ≡ old ++ map f (take (i + 1) xs)
  map-next f xs i x y old mid new l is h e =
      e ∙ ap (λ front. front ++ f x ∷ []) h
      ∙ append_assoc old (map f (take i xs)) (f x ∷ [])
      ∙ ap (λ rest. old ++ rest) (
      sym (map-append f (take i xs) (x ∷ []))
      ∙ ap (map f) (ap (λ z. take i xs ++ z ∷ []) is ∙ sym (take_more xs i y l)))

-- one number more
pub flat-number : {R : Type 0} (g : ℕ → List R) (mid new : List R) (number m n : ℕ) → number ≡ 1 + m → n ≡ suc m → mid ≡ flat_map g (range_with_len 1 m) → new ≡ mid ++ g number → new ≡ flat_map g (range_with_len 1 n)
flat-number g mid new number m n e f h k =
    k ∙ (λ i. h i ++ g (e i))
    ∙ ap (λ rest. flat_map g (range_with_len 1 m) ++ rest) (sym (append-nil (g (1 + m))))
    ∙ sym (flat_map-append g (range_with_len 1 m) ((1 + m) ∷ []))
    ∙ ap (flat_map g) (sym (range-more 1 m) ∙ ap (range_with_len 1) (sym f))

-- ---- lanes as the code keeps them

-- the rows of all of them
pub listed-lanes : {R : Type 0} (f : ℕ × Channel → R) (lanes : List ChannelSlot) (ls : List (ℕ × Channel)) → map lane_of lanes ≡ ls → map (λ k. f (lane_of k)) lanes ≡ map f ls
listed-lanes f lanes ls e = sym (map-map f lane_of lanes) ∙ ap (map f) e

-- who holds a lane by a map holds it by the map's grants
pub lane-held : (es : List (ChannelSlot × LaneHolder)) (k : ChannelSlot) → lookup (is_at (slot_cmp k)) es ≡ option_map lane_holder (get (grants_in_lanes es) (lane_of k))
lane-held es k = back (lookup (is_at (slot_cmp k)) es) ∙ ap (option_map lane_holder) (sym (get-table_of slot_cmp channel_slots lane_of holder_in slots_alike es k))
  where
    back : (o : Option LaneHolder) → o ≡ option_map lane_holder (option_map holder_in o)
    back None = refl
    back (Some h) = refl

-- ---- as an actor sees it

-- by all placements of a variant it is the load that the integrator is shown
pub load-all : (p : Params) (grants : Table channel_slots book.Holder) (frames : Table owned book.Frame) → filled_load p grants (placements_of frames) ≡ load_of p Integrator grants frames
unfolding filled_load load_of seen_lanes schedule_of
load-all p grants frames = refl

module _ (p : Params) (grants : Table channel_slots book.Holder) (f : ℕ × Channel → LoadRow) (holds : (l : ℕ × Channel) → is_some (f l).holder ≡ is_some (get grants l)) where
  held-lanes : (ls : List (ℕ × Channel)) → filter (λ (r : LoadRow). is_some r.holder) (map f ls) ≡ map f (filter (contains grants) ls)
  held-lanes [] = refl
  held-lanes (l ∷ ls) =
      (λ i. cond (holds l i) (f l ∷ filter (λ (r : LoadRow). is_some r.holder) (map f ls)) (filter (λ (r : LoadRow). is_some r.holder) (map f ls)))
      ∙ by_test (filter (λ (r : LoadRow). is_some r.holder) (map f ls)) (filter (contains grants) ls) (is_some (get grants l)) (held-lanes ls)
    where
      by_test : (rows : List LoadRow) (kept : List (ℕ × Channel)) (b : Bool) → rows ≡ map f kept → cond b (f l ∷ rows) rows ≡ map f (cond b (l ∷ kept) kept)
      by_test rows kept true e = ap (λ rs. f l ∷ rs) e
      by_test rows kept false e = e

-- by a supplier's placements, those of its lanes that are held are the load that it is shown
pub load-own : (p : Params) (s : Name) (grants : Table channel_slots book.Holder) (frames : Table owned book.Frame) →
    filter (λ (r : LoadRow). is_some r.holder) (filled_load p grants (placements_of frames)) ≡ load_of p (Supplier s) grants frames
unfolding filled_load load_of seen_lanes schedule_of load_row
load-own p s grants frames = held-lanes p grants (load_row p grants (fill (placements_of frames))) (λ l. is_some-map lane_holder (get grants l)) (lanes_of p)
