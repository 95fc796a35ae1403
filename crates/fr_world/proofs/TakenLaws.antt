-- The first of a placement's cells that is filled: by what fills cells first, and then by what fills them after it.
use Rattle.std.proofs.Common.{◌≡◌, ℕ, zero, suc, ◌+◌, ◌<◌, Bool, true, false, cond, List, [], ◌∷◌, ◌++◌, Option, Some, None, option_map, MatchOption, refl, sym, ap, ◌∙◌, ◌⊎◌, inl, inr, arith, Ordering, Less, Equal, Greater}
use Rattle.std.specs.Prelude.{⊤}
use Rattle.std.specs.Option.{option_or}
use Rattle.std.specs.Ordering.{nat_cmp, is_lt, is_some_and, ordering_then, partial_lt, ordering_reverse, min_by_ordering}
use Rattle.std.specs.Cmp.{IsTotalOrder, nat_cmp_is, tied_itself}
use Rattle.std.specs.List.{AllByRecursion, filter, find, range_with_len}
use Rattle.std.specs.List.Sorted.{IsStrictlySortedBy}
use Rattle.std.proofs.lemmas.Bool.{cases_Bool}
use Rattle.fr_base.specs.Cells.{Cell, cells_in, cells_of, has_cell}
use Rattle.fr_base.specs.Channels.{channel_number, channels_in}
use Rattle.fr_base.specs.Cycles.{all_cycles, cycles_of, selects}
use Rattle.fr_base.specs.Keys.{channel_slots, channel_order, numbers}
use Rattle.fr_base.specs.Schedule.{fill, first_taken}
use Rattle.fr_base.specs.declared.channel.Channel.{Channel}
use Rattle.fr_base.specs.declared.channel.Channel.TheVariants as channel
use Rattle.fr_base.specs.declared.channel.Channels.{Channels}
use Rattle.fr_base.specs.declared.channel.Channels.TheVariants as channels
use Rattle.fr_base.specs.declared.name.Name.{Name}
use Rattle.fr_base.specs.declared.placement.Placement.{Placement}
use Rattle.fr_world.specs.CycleChannels.{cycle_channel, taken_of, compare_cycle_channels, lesser, earlier}
use Rattle.fr_world.specs.contracts.cycle_channel.CycleChannelOrd.TheImpl as by_parts
use Rattle.fr_world.specs.contracts.cycle_channel.CycleChannelOrd.TheImpl.Laws.{matches_partial_cmp-law}
use Rattle.fr_world.specs.contracts.cycle_channel.CycleChannelPartialOrd.TheImpl as by_some_parts
use Rattle.fr_world.specs.declared.cycle_channel.CycleChannel.{CycleChannel}
use Rattle.fr_world.specs.declared.row_occupancy.Taken.{Taken}

-- ---- what fills a cell

-- those before fill it, or else those after
pub fill-append : {O : Type 0} (xs ys : List (O × Placement)) (c : Cell) → fill (xs ++ ys) c ≡ option_or (fill xs c) (fill ys c)
unfolding fill
fill-append [] ys c = refl
fill-append (e ∷ es) ys c = elim (has_cell e.1 c) as (λ b. cond b (Some e.0) (fill (es ++ ys) c) ≡ option_or (cond b (Some e.0) (fill es c)) (fill ys c)) [
  | true ↦ refl
  | false ↦ fill-append es ys c
]

-- the first cell that one sender fills is the first that passes its test
pub first_taken-find : {O : Type 0} (o : O) (p : Cell → Bool) (cells : List Cell) → first_taken (λ c. cond (p c) (Some o) None) cells ≡ option_map (λ c. (c, o)) (find p cells)
unfolding first_taken
first_taken-find o p [] = refl
first_taken-find o p (c ∷ cs) = elim (cases_Bool (p c)) [ inl e ↦ rw e refl | inr e ↦ rw e (first_taken-find o p cs) ]

-- ---- cells by cycle and channel

-- by cycle, then A before B
abbrev pub by_cycle_channel : Cell → Cell → Ordering
by_cycle_channel c d = compare_cycle_channels (cycle_channel c) (cycle_channel d)

by_cycle_channel_total : IsTotalOrder by_cycle_channel
by_cycle_channel_total = record {
  antisymm = λ c d. channel_slots.total.antisymm (c.cycle, c.channel) (d.cycle, d.channel);
  trans = λ c d e. channel_slots.total.trans (c.cycle, c.channel) (d.cycle, d.channel) (e.cycle, e.channel);
  congr = λ c d e. channel_slots.total.congr (c.cycle, c.channel) (d.cycle, d.channel) (e.cycle, e.channel);
}

abbrev cell : ℕ → ℕ → Channel → Cell
cell k slot x = record { cycle = k; slot = slot; channel = x }

-- the cells of one slot
abbrev column : ℕ → Channels → List ℕ → List Cell
column slot chs ks = cells_in ks (slot ∷ []) (channels_in chs)

-- what holds in a cycle and in the cycles after it
all_column : (P : Cell → Type 0) (slot : ℕ) (chs : Channels) (k : ℕ) (ks : List ℕ) → ((x : Channel) → P (cell k slot x)) → AllByRecursion P (column slot chs ks) → AllByRecursion P (column slot chs (k ∷ ks))
all_column P slot channels.A k ks here rest = (here channel.A, rest)
all_column P slot channels.AB k ks here rest = (here channel.A, (here channel.B, rest))
all_column P slot channels.B k ks here rest = (here channel.B, rest)

-- the cells of later cycles come later
later : (test : ℕ → Bool) (slot : ℕ) (chs : Channels) (c : Cell) (a n : ℕ) → c.cycle < a → AllByRecursion (λ d. by_cycle_channel c d ≡ Less) (column slot chs (filter test (range_with_len a n)))
unfolding channel_slots numbers channel_order
later test slot chs c a zero l = tt
later test slot chs c a (suc n) l =
    let rest = later test slot chs c (a + 1) n (omega arith) in
    let here : (x : Channel) → by_cycle_channel c (cell a slot x) ≡ Less = λ x. ap (λ r. ordering_then r (nat_cmp (channel_number c.channel) (channel_number x))) (sym (nat_cmp_is c.cycle a Less l)) in
    elim (cases_Bool (test a)) [
      | inl e ↦ rw e (all_column _ slot chs a _ here rest)
      | inr e ↦ rw e rest
    ]

rising_column : (slot : ℕ) (chs : Channels) (k : ℕ) (ks : List ℕ) → ((x : Channel) → AllByRecursion (λ d. by_cycle_channel (cell k slot x) d ≡ Less) (column slot chs ks)) → IsStrictlySortedBy by_cycle_channel (column slot chs ks) → IsStrictlySortedBy by_cycle_channel (column slot chs (k ∷ ks))
unfolding IsStrictlySortedBy channel_slots numbers channel_order
rising_column slot channels.A k ks below rest = (below channel.A, rest)
rising_column slot channels.AB k ks below rest = ((ap (λ r. ordering_then r Less) (sym (nat_cmp_is k k Equal refl)), below channel.A), (below channel.B, rest))
rising_column slot channels.B k ks below rest = (below channel.B, rest)

rising : (test : ℕ → Bool) (slot : ℕ) (chs : Channels) (a n : ℕ) → IsStrictlySortedBy by_cycle_channel (column slot chs (filter test (range_with_len a n)))
unfolding IsStrictlySortedBy
rising test slot chs a zero = tt
rising test slot chs a (suc n) =
    let rest = rising test slot chs (a + 1) n in
    elim (cases_Bool (test a)) [
      | inl e ↦ rw e (rising_column slot chs a _ (λ x. later test slot chs (cell a slot x) (a + 1) n (omega arith)) rest)
      | inr e ↦ rw e rest
    ]

-- a placement's cells rise
pub cells-rise : (q : Placement) → IsStrictlySortedBy by_cycle_channel (cells_of q)
unfolding cells_of cycles_of all_cycles
cells-rise q = rising (selects q.cycles) q.slot q.channels 0 q.cycles.count

-- ---- the first cell that is filled by the former or by the latter

pub option_is : {A : Type 0} (r : Option A) → ((x : A) × (r ≡ Some x)) ⊎ (r ≡ None)
option_is None = inr refl
option_is (Some x) = inl (x, refl)

-- none is found at or before a cell
abbrev After : {O : Type 0} → Cell → Option (Cell × O) → Type 0
After c r = MatchOption r ⊤ (λ e. by_cycle_channel c e.0 ≡ Less)

after : {O : Type 0} (filled : Cell → Option O) (c : Cell) (ds : List Cell) → AllByRecursion (λ d. by_cycle_channel c d ≡ Less) ds → After c (first_taken filled ds)
unfolding first_taken
after filled c [] h = tt
after filled c (d ∷ ds) h = elim (option_is (filled d)) [
  | inl o ↦ rw o.1 (h.0)
  | inr e ↦ rw e (after filled c ds h.1)
]

module _ {O X : Type 0} (cmp : X → X → Ordering) (shown : Cell × O → X) (alike : (e f : Cell × O) → cmp (shown e) (shown f) ≡ by_cycle_channel e.0 f.0) where
  stays : (c : Cell) (o : O) (r : Option (Cell × O)) → After c r → Some (shown (c, o)) ≡ lesser cmp (Some (shown (c, o))) (option_map shown r)
  stays c o None h = refl
  stays c o (Some e) h = ap (λ r. Some (min_by_ordering r (shown (c, o)) (shown e))) (sym (alike (c, o) e ∙ h))

  comes : (c : Cell) (o : O) (r : Option (Cell × O)) → After c r → Some (shown (c, o)) ≡ lesser cmp (option_map shown r) (Some (shown (c, o)))
  comes c o None h = refl
  comes c o (Some e) h = ap (λ r. Some (min_by_ordering r (shown e) (shown (c, o)))) (sym (alike e (c, o) ∙ by_cycle_channel_total.antisymm e.0 c ∙ ap ordering_reverse h))

  tied : (c : Cell) (o u : O) → Some (shown (c, o)) ≡ lesser cmp (Some (shown (c, o))) (Some (shown (c, u)))
  tied c o u = ap (λ r. Some (min_by_ordering r (shown (c, o)) (shown (c, u)))) (sym (alike (c, o) (c, u) ∙ tied_itself by_cycle_channel_total c))

  pub first_taken-or : (f g : Cell → Option O) (cells : List Cell) → IsStrictlySortedBy by_cycle_channel cells → option_map shown (first_taken (λ c. option_or (f c) (g c)) cells) ≡ lesser cmp (option_map shown (first_taken f cells)) (option_map shown (first_taken g cells))
  unfolding first_taken IsStrictlySortedBy
  first_taken-or f g [] h = refl
  first_taken-or f g (c ∷ cs) h = elim (option_is (f c)) [
    | inl o ↦ elim (option_is (g c)) [
      | inl u ↦ rw (o.1, u.1) (tied c o.0 u.0)
      | inr n ↦ rw (o.1, n) (stays c o.0 (first_taken g cs) (after g c cs h.0))
    ]
    | inr m ↦ elim (option_is (g c)) [
      | inl u ↦ rw (m, u.1) (comes c u.0 (first_taken f cs) (after f c cs h.0))
      | inr n ↦ rw (m, n) (first_taken-or f g cs h.1)
    ]
  ]

-- ---- the first taken cell of a list of frames and placements

abbrev partial_cycle_channel_cmp : CycleChannel → CycleChannel → Option Ordering
partial_cycle_channel_cmp = by_some_parts.partial_cmp-value.it

-- cycles and channels compare as the tables' keys do
abbrev pub cycle_channel_cmp : CycleChannel → CycleChannel → Ordering
cycle_channel_cmp = by_parts.cmp-value.it

cycle_channels_alike_parts : (k l : ℕ) (x y : Channel) → cycle_channel_cmp (record { cycle = k; channel = x }) (record { cycle = l; channel = y }) ≡ channel_slots.compare (k, x) (l, y)
unfolding channel_slots numbers channel_order
cycle_channels_alike_parts k l channel.A channel.A = refl
cycle_channels_alike_parts k l channel.A channel.B = refl
cycle_channels_alike_parts k l channel.B channel.A = refl
cycle_channels_alike_parts k l channel.B channel.B = refl

pub cycle_channels_alike : (x y : CycleChannel) → cycle_channel_cmp x y ≡ compare_cycle_channels x y
cycle_channels_alike x y = cycle_channels_alike_parts x.cycle y.cycle x.channel y.channel

-- the first taken cell, where these frames' placements fill cells
unfoldable pub taken_among : List (Name × Placement) → Placement → Option Taken
taken_among pairs q = option_map taken_of (first_taken (fill pairs) (cells_of q))

-- a frame, where it is sent first
abbrev pub taken_by : Name → Option CycleChannel → Option Taken
taken_by f = option_map (λ at. record { at = at; frame = f })

taken_alone : (f : Name) (r : Option Cell) → option_map taken_of (option_map (λ c. (c, f)) r) ≡ taken_by f (option_map cycle_channel r)
taken_alone f None = refl
taken_alone f (Some c) = refl

never : (cells : List Cell) → first_taken {O = Name} (λ c. None) cells ≡ None
unfolding first_taken
never [] = refl
never (c ∷ cs) = never cs

pub taken_among-none : (q : Placement) → taken_among [] q ≡ None
unfolding fill taken_among
taken_among-none q = ap (option_map taken_of) (never (cells_of q))

-- with one more pair it is the earlier of what was found before and of the first cell that the pair's placement has
pub taken_among-more : (pairs : List (Name × Placement)) (f : Name) (r q : Placement) → taken_among (pairs ++ (f, r) ∷ []) q ≡ earlier (taken_among pairs q) (taken_by f (option_map cycle_channel (find (has_cell r) (cells_of q))))
unfolding taken_among fill
taken_among-more pairs f r q =
    (λ i. option_map taken_of (first_taken (λ c. fill-append pairs ((f, r) ∷ []) c i) (cells_of q)))
    ∙ first_taken-or (λ x y. compare_cycle_channels x.at y.at) taken_of (λ e f. refl) (fill pairs) (λ c. cond (has_cell r c) (Some f) None) (cells_of q) (cells-rise q)
    ∙ ap (earlier (taken_among pairs q)) (ap (option_map taken_of) (first_taken-find f (has_cell r) (cells_of q)) ∙ taken_alone f (find (has_cell r) (cells_of q)))

-- ---- which of two is the earlier one

turned : (x y : Taken) (r : Ordering) → is_lt r ≡ true → Some y ≡ Some (min_by_ordering (ordering_reverse r) x y)
turned x y Less e = refl
turned x y Equal e = cc
turned x y Greater e = cc

kept : (x y : Taken) (r : Ordering) → is_lt r ≡ false → Some x ≡ Some (min_by_ordering (ordering_reverse r) x y)
kept x y Less e = cc
kept x y Equal e = refl
kept x y Greater e = refl

back : (x y : Taken) → Some (min_by_ordering (ordering_reverse (compare_cycle_channels y.at x.at)) x y) ≡ earlier (Some x) (Some y)
back x y = ap (λ r. Some (min_by_ordering r x y)) (sym (channel_slots.total.antisymm (x.at.cycle, x.at.channel) (y.at.cycle, y.at.channel)))

-- a cycle_channel is below another one where it compares as less
pub below : (x y : CycleChannel) → partial_lt partial_cycle_channel_cmp x y ≡ is_lt (cycle_channel_cmp x y)
below x y = ap (is_some_and is_lt) (matches_partial_cmp-law x y)

pub earlier-latter : (x y : Taken) → is_lt (cycle_channel_cmp y.at x.at) ≡ true → Some y ≡ earlier (Some x) (Some y)
earlier-latter x y l = turned x y (compare_cycle_channels y.at x.at) (ap is_lt (sym (cycle_channels_alike y.at x.at)) ∙ l) ∙ back x y

pub earlier-former : (x y : Taken) → is_lt (cycle_channel_cmp y.at x.at) ≡ false → Some x ≡ earlier (Some x) (Some y)
earlier-former x y l = kept x y (compare_cycle_channels y.at x.at) (ap is_lt (sym (cycle_channels_alike y.at x.at)) ∙ l) ∙ back x y
