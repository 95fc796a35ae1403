-- Which numbers are among the moments of placements.
use Rattle.std.proofs.Common.{◌≡◌, ℕ, ◌+◌, ◌-◌, ◌*◌, true, List, [], ◌∷◌, map, refl, sym, ap, subst, ◌∙◌, inl}
use Rattle.std.specs.List.{flat_map}
use Rattle.fr_base.specs.Cells.{Cell, cells_of}
use Rattle.fr_base.specs.Channels.{channels_in}
use Rattle.fr_base.specs.Cycles.{cycles_of, has_cycle}
use Rattle.fr_base.specs.Moments.{moment, moments}
use Rattle.fr_base.specs.declared.channel.Channel.{Channel}
use Rattle.fr_base.specs.declared.channel.Channel.TheVariants as channel
use Rattle.fr_base.specs.declared.channel.Channels.{Channels}
use Rattle.fr_base.specs.declared.channel.Channels.TheVariants as channels
use Rattle.fr_base.specs.declared.params.Params.{Params}
use Rattle.fr_base.specs.declared.placement.Placement.{Placement}
use Rattle.fr_world.proofs.AmongLaws.{In, In-map, map-In, In-flat_map, flat_map-In, In-lone, In-any, any-In}

-- the moment of a slot in a cycle
abbrev pub moment_at : Params → ℕ → ℕ → ℕ
moment_at p k slot = k * p.macroticks_per_cycle + (slot - 1) * p.slot_macroticks

pub moment_at-is : (p : Params) (k cycle_length slot_length slot n : ℕ) → cycle_length ≡ p.macroticks_per_cycle → slot_length ≡ p.slot_macroticks → n ≡ slot → k * cycle_length + (n - 1) * slot_length ≡ moment_at p k slot
moment_at-is p k cycle_length slot_length slot n is_length is_slot is i = k * is_length i + (is i - 1) * is_slot i

-- a placement is sent in the cycle, at this moment
pub record IsSent (p : Params) (q : Placement) (k x : ℕ) : Type 0 where
  pub cycle : has_cycle q.cycles k ≡ true
  pub at : x ≡ moment_at p k q.slot

some_channel : (cs : Channels) → (c : Channel) × In c (channels_in cs)
some_channel channels.A = (channel.A, inl refl)
some_channel channels.AB = (channel.A, inl refl)
some_channel channels.B = (channel.B, inl refl)

abbrev cell_at : ℕ → ℕ → Channel → Cell
cell_at k slot c = record { cycle = k; slot = slot; channel = c }

-- a placement's cells in a cycle and a slot, and in a cycle
abbrev cells_at : Placement → ℕ → ℕ → List Cell
cells_at q k slot = map (cell_at k slot) (channels_in q.channels)

abbrev cells_within : Placement → ℕ → List Cell
cells_within q k = flat_map (cells_at q k) (q.slot ∷ [])

pub In-moments : (p : Params) (qs : List Placement) (q : Placement) (k x : ℕ) → In q qs → IsSent p q k x → In x (moments p qs)
unfolding moments moment cells_of has_cycle
In-moments p qs q k x i sent =
    let c = some_channel q.channels in
    let cell : Cell = cell_at k q.slot c.0 in
    let on : In cell (cells_at q k q.slot) = In-map (cell_at k q.slot) c.0 (channels_in q.channels) c.1 in
    let here : In cell (cells_of q) =
    In-flat_map (cells_within q) k cell (cycles_of q.cycles) (In-any k (cycles_of q.cycles) sent.cycle) (In-flat_map (cells_at q k) q.slot cell (q.slot ∷ []) (inl refl) on) in
    subst (λ y. In y (moments p qs)) (sym sent.at) (In-map (moment p) cell (flat_map cells_of qs) (In-flat_map cells_of q cell qs i here))

-- a placement's cell lies in one of its cycles and in its slot
record IsCell (q : Placement) (c : Cell) : Type 0 where
  channel : Channel
  cycle : has_cycle q.cycles c.cycle ≡ true
  is : c ≡ cell_at c.cycle q.slot channel

cells_at-In : (q : Placement) (c : Cell) (k slot : ℕ) → slot ≡ q.slot → In c (cells_at q k slot) → has_cycle q.cycles k ≡ true → IsCell q c
cells_at-In q c k slot same i on =
    let found = map-In (cell_at k slot) c (channels_in q.channels) i in
    let cycle : c.cycle ≡ k = ap (λ (d : Cell). d.cycle) (sym found.2) in
    record {
      channel = found.0;
      cycle = ap (has_cycle q.cycles) cycle ∙ on;
      is = sym found.2 ∙ (λ j. cell_at (sym cycle j) (same j) found.0);
    }

cells_of-In : (q : Placement) (c : Cell) → In c (cells_of q) → IsCell q c
unfolding cells_of has_cycle
cells_of-In q c i =
    let cycle = flat_map-In (cells_within q) c (cycles_of q.cycles) i in
    let slot = flat_map-In (cells_at q cycle.0) c (q.slot ∷ []) cycle.2 in
    cells_at-In q c cycle.0 slot.0 (sym (In-lone slot.0 q.slot slot.1)) slot.2 (any-In cycle.0 (cycles_of q.cycles) cycle.1)

moment-sent : (p : Params) (q : Placement) (c : Cell) (x : ℕ) → moment p c ≡ x → IsCell q c → IsSent p q c.cycle x
unfolding moment
moment-sent p q c x at its = record { cycle = its.cycle; at = sym at ∙ ap (moment p) its.is }

pub moments-In : (p : Params) (qs : List Placement) (x : ℕ) → In x (moments p qs) → (q : Placement) × (k : ℕ) × In q qs × IsSent p q k x
unfolding moments
moments-In p qs x i =
    let cell = map-In (moment p) x (flat_map cells_of qs) i in
    let placed = flat_map-In cells_of cell.0 qs cell.1 in
    (placed.0, cell.0.cycle, placed.1, moment-sent p placed.0 cell.0 x cell.2 (cells_of-In placed.0 cell.0 placed.2))
