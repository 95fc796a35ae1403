-- The first cell of a placement that another placement has.
use Rattle.std.proofs.Common.{◌≡◌, ℕ, Bool, true, false, ◌&&◌, ◌||◌, not, cond, eqb, List, [], ◌∷◌, Option, Some, None, option_map, refl, sym, ap, ◌∙◌, inl, inr, arith, Ordering, Less, Equal, Greater}
use Rattle.std.specs.Ordering.{nat_cmp, is_eq, ordering_then}
use Rattle.std.specs.Cmp.{nat_cmp_is}
use Rattle.std.specs.List.{find, list_any}
use Rattle.std.proofs.lemmas.Bool.{and_right, cases_order, eq-eqb, ne_eqb}
use Rattle.fr_base.specs.Cells.{Cell, cells_in, cells_of, has_cell, same_cell}
use Rattle.fr_base.specs.Channels.{channel_number, channels_in, has_channel}
use Rattle.fr_base.specs.Cycles.{cycles_of, first_common, has_cycle}
use Rattle.fr_base.specs.declared.channel.Channel.{Channel}
use Rattle.fr_base.specs.declared.channel.Channel.TheVariants as channel
use Rattle.fr_base.specs.declared.channel.Channels.{Channels}
use Rattle.fr_base.specs.declared.channel.Channels.TheVariants as channels
use Rattle.fr_base.specs.declared.placement.Placement.{Placement}
use Rattle.fr_world.specs.CycleChannels.{cycle_channel}
use Rattle.fr_world.specs.declared.cycle_channel.CycleChannel.{CycleChannel}

abbrev cell : ℕ → ℕ → Channel → Cell
cell k slot x = record { cycle = k; slot = slot; channel = x }

-- the cells of one slot
abbrev column : ℕ → Channels → List ℕ → List Cell
column slot chs ks = cells_in ks (slot ∷ []) (channels_in chs)

-- ---- which cells a placement has

is_eq-then : (r s : Ordering) → is_eq (ordering_then r s) ≡ (is_eq r && is_eq s)
is_eq-then Less s = refl
is_eq-then Equal s = refl
is_eq-then Greater s = refl

is_eq-nat : (a b : ℕ) → is_eq (nat_cmp a b) ≡ eqb a b
is_eq-nat a b = elim (cases_order a b) [
  | inl e ↦ ap is_eq (sym (nat_cmp_is a b Equal e)) ∙ sym (eq-eqb a b e)
  | inr o ↦ elim o [
    | inl l ↦ ap is_eq (sym (nat_cmp_is a b Less l)) ∙ sym (ne_eqb a b (λ e. omega (arith, l, e)))
    | inr g ↦ ap is_eq (sym (nat_cmp_is a b Greater g)) ∙ sym (ne_eqb a b (λ e. omega (arith, g, e)))
  ]
]

abbrev same_channel : Channel → Channel → Bool
same_channel c d = eqb (channel_number c) (channel_number d)

same_cell-parts : (c : Cell) (k slot : ℕ) (x : Channel) → same_cell c (cell k slot x) ≡ (eqb c.cycle k && (eqb c.slot slot && same_channel c.channel x))
same_cell-parts c k slot x =
    let s = nat_cmp c.slot slot in
    let n = nat_cmp (channel_number c.channel) (channel_number x) in
    is_eq-then (nat_cmp c.cycle k) (ordering_then s n)
    ∙ (λ i. is_eq-nat c.cycle k i && is_eq-then s n i)
    ∙ (λ i. eqb c.cycle k && (is_eq-nat c.slot slot i && is_eq-nat (channel_number c.channel) (channel_number x) i))

-- a cell is in a cycle, or in a later one
turn_A : (s y : Bool) (c : Channel) (r : Bool) → ((y && (s && same_channel c channel.A)) || ((s && has_channel channels.A c) && r)) ≡ ((s && has_channel channels.A c) && (y || r))
turn_A true true channel.A r = refl
turn_A true true channel.B r = refl
turn_A true false c r = refl
turn_A false true c r = refl
turn_A false false c r = refl

turn_B : (s y : Bool) (c : Channel) (r : Bool) → ((y && (s && same_channel c channel.B)) || ((s && has_channel channels.B c) && r)) ≡ ((s && has_channel channels.B c) && (y || r))
turn_B true true channel.A r = refl
turn_B true true channel.B r = refl
turn_B true false c r = refl
turn_B false true c r = refl
turn_B false false c r = refl

turn_AB : (s y : Bool) (c : Channel) (r : Bool) → ((y && (s && same_channel c channel.A)) || ((y && (s && same_channel c channel.B)) || ((s && has_channel channels.AB c) && r))) ≡ ((s && has_channel channels.AB c) && (y || r))
turn_AB true true channel.A r = refl
turn_AB true true channel.B r = refl
turn_AB true false c r = refl
turn_AB false true c r = refl
turn_AB false false c r = refl

any_column : (c : Cell) (slot : ℕ) (chs : Channels) (ks : List ℕ) → list_any (same_cell c) (column slot chs ks) ≡ ((eqb c.slot slot && has_channel chs c.channel) && list_any (eqb c.cycle) ks)
any_column c slot chs [] = sym (and_right _ _ refl)
any_column c slot channels.A (k ∷ ks) =
    (λ i. same_cell-parts c k slot channel.A i || any_column c slot channels.A ks i)
    ∙ turn_A (eqb c.slot slot) (eqb c.cycle k) c.channel (list_any (eqb c.cycle) ks)
any_column c slot channels.AB (k ∷ ks) =
    (λ i. same_cell-parts c k slot channel.A i || (same_cell-parts c k slot channel.B i || any_column c slot channels.AB ks i))
    ∙ turn_AB (eqb c.slot slot) (eqb c.cycle k) c.channel (list_any (eqb c.cycle) ks)
any_column c slot channels.B (k ∷ ks) =
    (λ i. same_cell-parts c k slot channel.B i || any_column c slot channels.B ks i)
    ∙ turn_B (eqb c.slot slot) (eqb c.cycle k) c.channel (list_any (eqb c.cycle) ks)

-- a placement has a cell of its slot, on one of its channels, in one of its cycles
pub has_cell-parts : (q : Placement) (c : Cell) → has_cell q c ≡ ((eqb c.slot q.slot && has_channel q.channels c.channel) && has_cycle q.cycles c.cycle)
unfolding has_cell cells_of has_cycle
has_cell-parts q c = any_column c q.slot q.channels (cycles_of q.cycles)

-- ---- the first cell that another placement has

-- the cell of a channel and a cycle, where both are there
abbrev cell_at : ℕ → Option Channel → Option ℕ → Option Cell
cell_at slot None k = None
cell_at slot (Some x) None = None
cell_at slot (Some x) (Some k) = Some (cell k slot x)

-- the same, where the slots are the same
abbrev shared : Bool → ℕ → Option Channel → Option ℕ → Option Cell
shared s slot x k = cond s (cell_at slot x k) None

found_one : (s a y : Bool) (slot k : ℕ) (x : Channel) (r : Option ℕ) → cond ((s && a) && y) (Some (cell k slot x)) (shared s slot (cond a (Some x) None) r) ≡ shared s slot (cond a (Some x) None) (cond y (Some k) r)
found_one false a y slot k x r = refl
found_one true false y slot k x r = refl
found_one true true false slot k x r = refl
found_one true true true slot k x r = refl

found_two : (s a b y : Bool) (slot k : ℕ) (r : Option ℕ) → (let first : Option Channel = cond a (Some channel.A) (cond b (Some channel.B) None) in
    cond ((s && a) && y) (Some (cell k slot channel.A)) (cond ((s && b) && y) (Some (cell k slot channel.B)) (shared s slot first r)) ≡ shared s slot first (cond y (Some k) r))
found_two false a b y slot k r = refl
found_two true false false y slot k r = refl
found_two true false true false slot k r = refl
found_two true false true true slot k r = refl
found_two true true false false slot k r = refl
found_two true true true false slot k r = refl
found_two true true b true slot k r = refl

find_column : (t : ℕ) (h : Channel → Bool) (y : ℕ → Bool) (slot : ℕ) (chs : Channels) (ks : List ℕ) → find (λ c. (eqb c.slot t && h c.channel) && y c.cycle) (column slot chs ks) ≡ shared (eqb slot t) slot (find h (channels_in chs)) (find y ks)
find_column t h y slot chs [] = none (eqb slot t) (find h (channels_in chs))
  where
    none : (s : Bool) (x : Option Channel) → None ≡ shared s slot x None
    none false x = refl
    none true None = refl
    none true (Some x) = refl
find_column t h y slot channels.A (k ∷ ks) =
    ap (cond ((eqb slot t && h channel.A) && y k) (Some (cell k slot channel.A))) (find_column t h y slot channels.A ks)
    ∙ found_one (eqb slot t) (h channel.A) (y k) slot k channel.A (find y ks)
find_column t h y slot channels.AB (k ∷ ks) =
    ap (λ r. cond ((eqb slot t && h channel.A) && y k) (Some (cell k slot channel.A)) (cond ((eqb slot t && h channel.B) && y k) (Some (cell k slot channel.B)) r)) (find_column t h y slot channels.AB ks)
    ∙ found_two (eqb slot t) (h channel.A) (h channel.B) (y k) slot k (find y ks)
find_column t h y slot channels.B (k ∷ ks) =
    ap (cond ((eqb slot t && h channel.B) && y k) (Some (cell k slot channel.B))) (find_column t h y slot channels.B ks)
    ∙ found_one (eqb slot t) (h channel.B) (y k) slot k channel.B (find y ks)

find-has_cell : (q p : Placement) → find (has_cell p) (cells_of q) ≡ shared (eqb q.slot p.slot) q.slot (find (has_channel p.channels) (channels_in q.channels)) (first_common q.cycles p.cycles)
unfolding cells_of first_common
find-has_cell q p = (λ i. find (λ c. has_cell-parts p c i) (cells_of q)) ∙ find_column p.slot (has_channel p.channels) (has_cycle p.cycles) q.slot q.channels (cycles_of q.cycles)

-- ---- what the comparison of two placements answers

abbrev answer : Placement → Placement → Option CycleChannel
answer q p = option_map cycle_channel (find (has_cell p) (cells_of q))

parts : (q p : Placement) (s : Bool) (x : Option Channel) (k : Option ℕ) → eqb q.slot p.slot ≡ s → find (has_channel p.channels) (channels_in q.channels) ≡ x → first_common q.cycles p.cycles ≡ k → answer q p ≡ option_map cycle_channel (shared s q.slot x k)
parts q p s x k es ex ek = ap (option_map cycle_channel) (find-has_cell q p ∙ (λ i. shared (es i) q.slot (ex i) (ek i)))

-- of another slot: none
pub no_slot : (q p : Placement) → eqb q.slot p.slot ≡ false → None ≡ answer q p
no_slot q p e = sym (parts q p false _ _ e refl refl)

none_common : (s : Bool) (slot : ℕ) (k : Option ℕ) → None ≡ option_map cycle_channel (shared s slot None k)
none_common false slot k = refl
none_common true slot k = refl

no_cycle_common : (s : Bool) (slot : ℕ) (x : Option Channel) → None ≡ option_map cycle_channel (shared s slot x None)
no_cycle_common false slot x = refl
no_cycle_common true slot None = refl
no_cycle_common true slot (Some x) = refl

-- on no channel that both have: none
pub no_channel : (q p : Placement) → find (has_channel p.channels) (channels_in q.channels) ≡ None → None ≡ answer q p
no_channel q p e = none_common (eqb q.slot p.slot) q.slot (first_common q.cycles p.cycles) ∙ sym (parts q p _ None _ refl e refl)

-- in no cycle that both have: none
pub no_cycle : (q p : Placement) → first_common q.cycles p.cycles ≡ None → None ≡ answer q p
no_cycle q p e = no_cycle_common (eqb q.slot p.slot) q.slot (find (has_channel p.channels) (channels_in q.channels)) ∙ sym (parts q p _ _ None refl refl e)

-- else the first channel and the first cycle that both have
pub both_common : (q p : Placement) (x : Channel) (k : ℕ) → eqb q.slot p.slot ≡ true → find (has_channel p.channels) (channels_in q.channels) ≡ Some x → first_common q.cycles p.cycles ≡ Some k → Some (record { cycle = k; channel = x }) ≡ answer q p
both_common q p x k es ex ek = sym (parts q p true (Some x) (Some k) es ex ek)

pub differ : (b : Bool) → not b ≡ true → b ≡ false
differ true e = cc
differ false e = refl

pub same : (b : Bool) → not b ≡ false → b ≡ true
same true e = refl
same false e = cc
