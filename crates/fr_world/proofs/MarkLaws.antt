-- The first filled cell of a placement, channel by channel.
use Rattle.std.proofs.Common.{◌≡◌, ℕ, ◌<◌, true, ◌&&◌, eqb, List, [], ◌∷◌, Option, Some, None, is_some, option_map, refl, sym, ap, subst, ◌∙◌, inl, inr, arith, bit_and, w64}
use Rattle.std.specs.Prelude.{is_none, ◌^◌}
use Rattle.std.specs.Int.{trailing_zeros}
use Rattle.std.specs.Option.{option_or}
use Rattle.std.specs.List.{find, list_all}
use Rattle.std.proofs.lemmas.Bool.{and_parts, cases_Bool}
use Rattle.std.proofs.Math.Bool.{and_comm}
use Rattle.std.proofs.lemmas.Nat.Bits.{bit_at-trailing_zeros}
use Rattle.fr_base.specs.Cells.{Cell, cells_in, cells_of}
use Rattle.fr_base.specs.Channels.{channels_in}
use Rattle.fr_base.specs.Cycles.{Cycles, all_cycles, cycles_of, has_cycle, is_bit_set, selects}
use Rattle.fr_base.specs.Schedule.{fill, first_taken}
use Rattle.fr_base.specs.declared.channel.Channel.{Channel}
use Rattle.fr_base.specs.declared.channel.Channel.TheVariants as channel
use Rattle.fr_base.specs.declared.channel.Channels.{Channels}
use Rattle.fr_base.specs.declared.channel.Channels.TheVariants as channels
use Rattle.fr_base.specs.declared.name.Name.{Name}
use Rattle.fr_base.specs.declared.placement.Placement.{Placement}
use Rattle.fr_base.proofs.CycleLemmas.{below-has_cycle, find-filter, find-range_None, find-range_Some, has_cycle-in}
use Rattle.fr_world.specs.CycleChannels.{compare_cycle_channels, earlier, taken_of}
use Rattle.fr_world.specs.Masks.{first_cycle, is_free_on}
use Rattle.fr_world.specs.Occupancies.{is_free}
use Rattle.fr_world.proofs.MaskLaws.{never, cell_in, is_set-and, is_set-none}
use Rattle.fr_world.proofs.TakenLaws.{cells-rise, first_taken-or, option_is, taken_among}

-- ---- the first cycle of a set whose bit is set

module _ (s : Cycles) (word mask : ℕ) (shows : (k : ℕ) → is_bit_set mask k ≡ has_cycle s k) where
  marked : (k : ℕ) → k < s.count → (selects s k && is_bit_set word k) ≡ is_bit_set (bit_and word mask) k
  marked k low =
      (λ i. (sym (has_cycle-in s k low) ∙ sym (shows k)) i && is_bit_set word k)
      ∙ and_comm (is_bit_set mask k) (is_bit_set word k)
      ∙ sym (is_set-and word mask k)

  pub none_marked : bit_and word mask ≡ 0 → None ≡ find (is_bit_set word) (cycles_of s)
  unfolding cycles_of all_cycles
  none_marked zeros = sym (
      find-filter (is_bit_set word) (selects s) (all_cycles s.count)
      ∙ find-range_None (λ k. selects s k && is_bit_set word k) 0 s.count (λ k low. marked k (omega (arith, low)) ∙ ap (λ w. is_bit_set w k) zeros ∙ is_set-none k)
      )

  pub first_marked : 0 < bit_and word mask → bit_and word mask < 2 ^ 64 → Some (trailing_zeros w64 (bit_and word mask)) ≡ find (is_bit_set word) (cycles_of s)
  unfolding cycles_of all_cycles
  first_marked some small =
      let first = bit_at-trailing_zeros w64 (bit_and word mask) some small in
      let t = trailing_zeros w64 (bit_and word mask) in
      let inside : t < s.count = below-has_cycle s t (sym (shows t) ∙ (and_parts _ _ (sym (is_set-and word mask t) ∙ ap (λ n. eqb n 1) first.1)).1) in
      sym (
      find-filter (is_bit_set word) (selects s) (all_cycles s.count)
      ∙ find-range_Some (λ k. selects s k && is_bit_set word k) 0 s.count t (omega arith) (omega (arith, inside)) (marked t inside ∙ ap (λ n. eqb n 1) first.1)
      (λ j below. let early : j < s.count = omega (arith, below, inside) in marked j early ∙ ap (λ n. eqb n 1) (first.2 j below))
      )

-- ---- the cells of a slot

module _ {O : Type 0} (filled : Cell → Option O) (slot : ℕ) where
  -- on one channel, and on both
  abbrev pub on : Channel → List ℕ → List Cell
  on x ks = cells_in ks (slot ∷ []) (x ∷ [])

  abbrev both : List ℕ → List Cell
  both ks = cells_in ks (slot ∷ []) (channel.A ∷ channel.B ∷ [])

  -- the first cycle in which one is filled
  abbrev pub first_in : Channel → List ℕ → Option ℕ
  first_in x ks = find (λ k. is_some (filled (cell_in slot x k))) ks

  pub none_on : (x : Channel) (ks : List ℕ) → first_in x ks ≡ None → first_taken filled (on x ks) ≡ None
  unfolding first_taken
  none_on x [] none = refl
  none_on x (k ∷ ks) none = elim (option_is (filled (cell_in slot x k))) [
    | inl o ↦ let there = rw o.1 at none in cc
    | inr e ↦ rw e (none_on x ks (rw e at none))
  ]

  pub some_on : (x : Channel) (ks : List ℕ) (k : ℕ) (o : O) → first_in x ks ≡ Some k → filled (cell_in slot x k) ≡ Some o → first_taken filled (on x ks) ≡ Some (cell_in slot x k, o)
  unfolding first_taken
  some_on x [] k o found is = cc
  some_on x (j ∷ ks) k o found is = elim (option_is (filled (cell_in slot x j))) [
    | inl u ↦
        let here : Some j ≡ Some k = rw u.1 at found in
        let e : j ≡ k = cc in
        rw (e, is) refl
    | inr e ↦ rw e (some_on x ks k o (rw e at found) is)
  ]

  pub filled_on : (x : Channel) (ks : List ℕ) (k : ℕ) → first_in x ks ≡ Some k → is_some (filled (cell_in slot x k)) ≡ true
  filled_on x [] k found = cc
  filled_on x (j ∷ ks) k found = elim (cases_Bool (is_some (filled (cell_in slot x j)))) [
    | inl t ↦
        let here : Some j ≡ Some k = rw t at found in
        let e : j ≡ k = cc in
        subst (λ n. is_some (filled (cell_in slot x n)) ≡ true) e t
    | inr f ↦ filled_on x ks k (rw f at found)
  ]

  -- ---- whether none is filled

  free_on : (x : Channel) (ks : List ℕ) → is_none (first_taken filled (on x ks)) ≡ (is_none (first_in x ks) && true)
  unfolding first_taken
  free_on x [] = refl
  free_on x (k ∷ ks) = elim (option_is (filled (cell_in slot x k))) [
    | inl o ↦ rw o.1 refl
    | inr e ↦ rw e (free_on x ks)
  ]

  free_both : (ks : List ℕ) → is_none (first_taken filled (both ks)) ≡ (is_none (first_in channel.A ks) && (is_none (first_in channel.B ks) && true))
  unfolding first_taken
  free_both [] = refl
  free_both (k ∷ ks) = elim (option_is (filled (cell_in slot channel.A k))) [
    | inl o ↦ rw o.1 refl
    | inr e ↦ elim (option_is (filled (cell_in slot channel.B k))) [
      | inl u ↦ rw (e, u.1) (never (is_none (first_in channel.A ks)))
      | inr d ↦ rw (e, d) (free_both ks)
    ]
  ]

  free_cells : (chs : Channels) (ks : List ℕ) → is_none (first_taken filled (cells_in ks (slot ∷ []) (channels_in chs))) ≡ list_all (λ x. is_none (first_in x ks)) (channels_in chs)
  free_cells channels.A ks = free_on channel.A ks
  free_cells channels.AB ks = free_both ks
  free_cells channels.B ks = free_on channel.B ks

  -- ---- the one of both channels

  abbrev only_A : Channel → Option O → Option O
  only_A channel.A r = r
  only_A channel.B r = None

  abbrev only_B : Channel → Option O → Option O
  only_B channel.A r = None
  only_B channel.B r = r

  A_or_B : (x : Channel) (r : Option O) → r ≡ option_or (only_A x r) (only_B x r)
  A_or_B channel.A None = refl
  A_or_B channel.A (Some o) = refl
  A_or_B channel.B r = refl

  taken_A : (ks : List ℕ) → first_taken (λ c. only_A c.channel (filled c)) (both ks) ≡ first_taken filled (on channel.A ks)
  unfolding first_taken
  taken_A [] = refl
  taken_A (k ∷ ks) = elim (option_is (filled (cell_in slot channel.A k))) [ inl o ↦ rw o.1 refl | inr e ↦ rw e (taken_A ks) ]

  taken_B : (ks : List ℕ) → first_taken (λ c. only_B c.channel (filled c)) (both ks) ≡ first_taken filled (on channel.B ks)
  unfolding first_taken
  taken_B [] = refl
  taken_B (k ∷ ks) = elim (option_is (filled (cell_in slot channel.B k))) [ inl o ↦ rw o.1 refl | inr e ↦ rw e (taken_B ks) ]

-- a placement is free where none of its cycles is filled on any of its channels
pub free_by_channels : (ps : List (Name × Placement)) (q : Placement) → list_all (is_free_on ps q) (channels_in q.channels) ≡ is_free ps q
unfolding is_free cells_of first_cycle
free_by_channels ps q = sym (free_cells (fill ps) q.slot q.channels (cycles_of q.cycles))

-- the first taken cell of both channels is the earlier one of those of each
pub taken_of_both : (filled : Cell → Option Name) (slot : ℕ) (s : Cycles) → option_map taken_of (first_taken filled (cells_in (cycles_of s) (slot ∷ []) (channels_in channels.AB)))
    ≡ earlier (option_map taken_of (first_taken filled (on filled slot channel.A (cycles_of s)))) (option_map taken_of (first_taken filled (on filled slot channel.B (cycles_of s))))
unfolding cells_of
taken_of_both filled slot s =
    let q : Placement = record { slot = slot; channels = channels.AB; cycles = s } in
    (λ i. option_map taken_of (first_taken (λ c. A_or_B filled slot c.channel (filled c) i) (cells_of q)))
    ∙ first_taken-or (λ x y. compare_cycle_channels x.at y.at) taken_of (λ e f. refl) (λ c. only_A filled slot c.channel (filled c)) (λ c. only_B filled slot c.channel (filled c)) (cells_of q) (cells-rise q)
    ∙ (λ i. earlier (option_map taken_of (taken_A filled slot (cycles_of s) i)) (option_map taken_of (taken_B filled slot (cycles_of s) i)))

-- a placement's cells are those of its channels
pub taken_by_channels : (ps : List (Name × Placement)) (q : Placement) (chs : Channels) → q.channels ≡ chs → taken_among ps q ≡ option_map taken_of (first_taken (fill ps) (cells_in (cycles_of q.cycles) (q.slot ∷ []) (channels_in chs)))
unfolding taken_among cells_of
taken_by_channels ps q chs is = ap (λ x. option_map taken_of (first_taken (fill ps) (cells_in (cycles_of q.cycles) (q.slot ∷ []) (channels_in x)))) is
