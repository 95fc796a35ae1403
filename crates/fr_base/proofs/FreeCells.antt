-- Where a placement is free: none of the cells that it has is filled. Which cells a placement has, and what is free beside one more.
use Rattle.std.proofs.Common.{◌≡◌, ◌⊎◌, ◌<◌, ◌%◌, ℕ, Bool, true, false, ◌&&◌, ◌||◌, eqb, List, [], ◌∷◌, ◌++◌, Option, Some, None, refl, sym, ap, ◌∙◌, inl, inr, arith, true≢false, Ordering, Less, Equal, Greater}
use Rattle.std.specs.Prelude.{is_none}
use Rattle.std.specs.Ordering.{nat_cmp, is_eq, ordering_then}
use Rattle.std.specs.Cmp.{nat_cmp_is}
use Rattle.std.specs.List.{list_any}
use Rattle.std.proofs.lemmas.Bool.{and_right, and_parts, cases_Bool, cases_order, eq-eqb, ne_eqb, eqb-true}
use Rattle.fr_base.specs.Cells.{Cell, cells_in, cells_of, has_cell, same_cell}
use Rattle.fr_base.specs.Channels.{channel_number, channels_in, has_channel}
use Rattle.fr_base.specs.Cycles.{cycles_of, has_cycle}
use Rattle.fr_base.specs.Schedule.{fill, first_taken}
use Rattle.fr_base.specs.Fittest.{is_free}
use Rattle.fr_base.specs.declared.channel.Channel.{Channel}
use Rattle.fr_base.specs.declared.channel.Channel.TheVariants as channel
use Rattle.fr_base.specs.declared.channel.Channels.{Channels}
use Rattle.fr_base.specs.declared.channel.Channels.TheVariants as channels
use Rattle.fr_base.specs.declared.name.Name.{Name}
use Rattle.fr_base.specs.declared.placement.Placement.{Placement}
use Rattle.fr_base.proofs.AloneCells.{first_taken-alike}
use Rattle.fr_base.proofs.CycleLemmas.{has_cycle-in, below-has_cycle}
use Rattle.fr_base.proofs.SoundCells.{same_cell-is}

abbrev pub cell : ℕ → ℕ → Channel → Cell
cell k slot x = record { cycle = k; slot = slot; channel = x }

-- the cells of one slot
abbrev column : ℕ → Channels → List ℕ → List Cell
column slot chs ks = cells_in ks (slot ∷ []) (channels_in chs)

-- ---- which cells a placement has

is_eq-then : (r s : Ordering) → is_eq (ordering_then r s) ≡ (is_eq r && is_eq s)
is_eq-then Less s = refl
is_eq-then Equal s = refl
is_eq-then Greater s = refl

is_eq-nat : (a b : ℕ) → is_eq (nat_cmp a b) ≡ eqb a b
is_eq-nat a b = elim (cases_order a b) [
  | inl e ↦ ap is_eq (sym (nat_cmp_is a b Equal e)) ∙ sym (eq-eqb a b e)
  | inr o ↦ elim o [
    | inl l ↦ ap is_eq (sym (nat_cmp_is a b Less l)) ∙ sym (ne_eqb a b (λ e. omega (arith, l, e)))
    | inr g ↦ ap is_eq (sym (nat_cmp_is a b Greater g)) ∙ sym (ne_eqb a b (λ e. omega (arith, g, e)))
  ]
]

abbrev same_channel : Channel → Channel → Bool
same_channel c d = eqb (channel_number c) (channel_number d)

same_cell-parts : (c : Cell) (k slot : ℕ) (x : Channel) → same_cell c (cell k slot x) ≡ (eqb c.cycle k && (eqb c.slot slot && same_channel c.channel x))
same_cell-parts c k slot x =
    let s = nat_cmp c.slot slot in
    let n = nat_cmp (channel_number c.channel) (channel_number x) in
    is_eq-then (nat_cmp c.cycle k) (ordering_then s n)
    ∙ (λ i. is_eq-nat c.cycle k i && is_eq-then s n i)
    ∙ (λ i. eqb c.cycle k && (is_eq-nat c.slot slot i && is_eq-nat (channel_number c.channel) (channel_number x) i))

-- a cell is in a cycle, or in a later one
turn_A : (s y : Bool) (c : Channel) (r : Bool) → ((y && (s && same_channel c channel.A)) || ((s && has_channel channels.A c) && r)) ≡ ((s && has_channel channels.A c) && (y || r))
turn_A true true channel.A r = refl
turn_A true true channel.B r = refl
turn_A true false c r = refl
turn_A false true c r = refl
turn_A false false c r = refl

turn_B : (s y : Bool) (c : Channel) (r : Bool) → ((y && (s && same_channel c channel.B)) || ((s && has_channel channels.B c) && r)) ≡ ((s && has_channel channels.B c) && (y || r))
turn_B true true channel.A r = refl
turn_B true true channel.B r = refl
turn_B true false c r = refl
turn_B false true c r = refl
turn_B false false c r = refl

turn_AB : (s y : Bool) (c : Channel) (r : Bool) → ((y && (s && same_channel c channel.A)) || ((y && (s && same_channel c channel.B)) || ((s && has_channel channels.AB c) && r))) ≡ ((s && has_channel channels.AB c) && (y || r))
turn_AB true true channel.A r = refl
turn_AB true true channel.B r = refl
turn_AB true false c r = refl
turn_AB false true c r = refl
turn_AB false false c r = refl

any_column : (c : Cell) (slot : ℕ) (chs : Channels) (ks : List ℕ) → list_any (same_cell c) (column slot chs ks) ≡ ((eqb c.slot slot && has_channel chs c.channel) && list_any (eqb c.cycle) ks)
any_column c slot chs [] = sym (and_right _ _ refl)
any_column c slot channels.A (k ∷ ks) =
    (λ i. same_cell-parts c k slot channel.A i || any_column c slot channels.A ks i)
    ∙ turn_A (eqb c.slot slot) (eqb c.cycle k) c.channel (list_any (eqb c.cycle) ks)
any_column c slot channels.AB (k ∷ ks) =
    (λ i. same_cell-parts c k slot channel.A i || (same_cell-parts c k slot channel.B i || any_column c slot channels.AB ks i))
    ∙ turn_AB (eqb c.slot slot) (eqb c.cycle k) c.channel (list_any (eqb c.cycle) ks)
any_column c slot channels.B (k ∷ ks) =
    (λ i. same_cell-parts c k slot channel.B i || any_column c slot channels.B ks i)
    ∙ turn_B (eqb c.slot slot) (eqb c.cycle k) c.channel (list_any (eqb c.cycle) ks)

-- a placement has a cell of its slot, on one of its channels, in one of its cycles
pub has_cell-parts : (q : Placement) (c : Cell) → has_cell q c ≡ ((eqb c.slot q.slot && has_channel q.channels c.channel) && has_cycle q.cycles c.cycle)
unfolding has_cell cells_of has_cycle
has_cell-parts q c = any_column c q.slot q.channels (cycles_of q.cycles)

-- the parts of a cell that a placement has
pub record IsIn (q : Placement) (c : Cell) : Type 0 where
  pub slot : c.slot ≡ q.slot
  pub channel : has_channel q.channels c.channel ≡ true
  pub cycle : c.cycle < q.cycles.count
  pub selected : c.cycle % q.cycles.repetition ≡ q.cycles.base

pub cell-is_in : (q : Placement) (c : Cell) → has_cell q c ≡ true → IsIn q c
cell-is_in q c h =
    let all = and_parts _ _ (sym (has_cell-parts q c) ∙ h) in
    let at = and_parts _ _ all.0 in
    let below = below-has_cycle q.cycles c.cycle all.1 in
    record { slot = eqb-true _ _ at.0; channel = at.1; cycle = below; selected = eqb-true _ _ (sym (has_cycle-in q.cycles c.cycle below) ∙ all.1) }

pub is_in-cell : (q : Placement) (c : Cell) → IsIn q c → has_cell q c ≡ true
is_in-cell q c h =
    has_cell-parts q c
    ∙ (λ i. (eq-eqb c.slot q.slot h.slot i && h.channel i) && (has_cycle-in q.cycles c.cycle h.cycle ∙ eq-eqb _ _ h.selected) i)

-- ---- what fills a cell

option_is : {A : Type 0} (r : Option A) → ((x : A) × (r ≡ Some x)) ⊎ (r ≡ None)
option_is None = inr refl
option_is (Some x) = inl (x, refl)

none_first : {O : Type 0} (filled : Cell → Option O) (d : Cell) (ds : List Cell) → first_taken filled (d ∷ ds) ≡ None → (filled d ≡ None) × (first_taken filled ds ≡ None)
unfolding first_taken
none_first filled d ds e = elim (option_is (filled d)) [
  | inl x ↦ let h = rw x.1 at e in cc
  | inr none ↦ (none, rw none at e)
]

none_filled : {O : Type 0} (filled : Cell → Option O) (ds : List Cell) (c : Cell) → first_taken filled ds ≡ None → list_any (same_cell c) ds ≡ true → filled c ≡ None
none_filled filled [] c e h = absurd (true≢false (sym h))
none_filled filled (d ∷ ds) c e h =
    let free = none_first filled d ds e in
    elim (cases_Bool (same_cell c d)) [
      | inl here ↦ ap filled (same_cell-is c d here) ∙ free.0
      | inr other ↦ none_filled filled ds c free.1 (rw other at h)
    ]

none_taken : {O : Type 0} (ds : List Cell) → first_taken {O = O} (λ c. None) ds ≡ None
unfolding first_taken
none_taken [] = refl
none_taken (d ∷ ds) = none_taken ds

is_none-is : {A : Type 0} (r : Option A) → is_none r ≡ true → r ≡ None
is_none-is None h = refl
is_none-is (Some x) h = cc

-- a placement is free where nothing fills a cell that it has
pub free-empty : (filled : List (Name × Placement)) (q : Placement) → is_free filled q ≡ true → (c : Cell) → has_cell q c ≡ true → fill filled c ≡ None
unfolding is_free has_cell
free-empty filled q h c has = none_filled (fill filled) (cells_of q) c (is_none-is _ h) has

pub empty-free : (filled : List (Name × Placement)) (q : Placement) → ((c : Cell) → has_cell q c ≡ true → fill filled c ≡ None) → is_free filled q ≡ true
unfolding is_free has_cell
empty-free filled q none = ap is_none (first_taken-alike (fill filled) (λ c. None) (cells_of q) none ∙ none_taken (cells_of q))

-- a cell is empty beside more placements where it was, and they have it not
pub empty-both : (xs ys : List (Name × Placement)) (c : Cell) → fill (xs ++ ys) c ≡ None → (fill xs c ≡ None) × (fill ys c ≡ None)
unfolding fill
empty-both [] ys c e = (refl, e)
empty-both (x ∷ xs) ys c e = elim (cases_Bool (has_cell x.1 c)) [
  | inl h ↦ let taken = rw h at e in cc
  | inr h ↦ let rest = empty-both xs ys c (rw h at e) in (rw h (rest.0), rest.1)
]

pub both-empty : (xs ys : List (Name × Placement)) (c : Cell) → fill xs c ≡ None → fill ys c ≡ None → fill (xs ++ ys) c ≡ None
unfolding fill
both-empty [] ys c e k = k
both-empty (x ∷ xs) ys c e k = elim (cases_Bool (has_cell x.1 c)) [
  | inl h ↦ let taken = rw h at e in cc
  | inr h ↦ rw h (both-empty xs ys c (rw h at e) k)
]

pub one-empty : (f : Name) (q : Placement) (c : Cell) → has_cell q c ≡ false → fill ((f, q) ∷ []) c ≡ None
unfolding fill
one-empty f q c h = rw h refl

pub one-lacks : (f : Name) (q : Placement) (c : Cell) → fill ((f, q) ∷ []) c ≡ None → has_cell q c ≡ false
unfolding fill
one-lacks f q c e = elim (cases_Bool (has_cell q c)) [
  | inl h ↦ let taken = rw h at e in cc
  | inr h ↦ h
]
