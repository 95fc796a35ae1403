-- A placement and a signal that a page admits are new.
use Rattle.std.proofs.Common.{◌≡◌, ℕ, ◌||◌, Bool, true, false, List, [], ◌∷◌, Option, Some, None, is_some, IfOk, IsTrue, refl, sym, ap, ◌∙◌, inl, inr, arith, true≢false}
use Rattle.std.specs.Prelude.{nat_eq}
use Rattle.std.specs.Ordering.{is_eq}
use Rattle.std.specs.Cmp.{tied_itself, on_total, then_total, nat_cmp_total}
use Rattle.std.specs.List.{list_any}
use Rattle.std.proofs.Math.Nat.{mod-eq_of_lt}
use Rattle.std.proofs.lemmas.Bool.{cases_Bool, eq-eqb}
use Rattle.fr_base.specs.Cells.{Cell, cells_in, cells_of, has_cell, same_cell}
use Rattle.fr_base.specs.Channels.{channel_number, channels_in}
use Rattle.fr_base.specs.Cycles.{Cycles, are_cycles, cycles_of, has_cycle}
use Rattle.fr_base.specs.Book.{Frame, schedule_of}
use Rattle.fr_base.specs.Keys.{owned}
use Rattle.fr_base.specs.Layouts.{LayoutData, has_signal, admits_signal}
use Rattle.fr_base.specs.Schedule.{first_taken}
use Rattle.fr_base.specs.Signals.{SignalData}
use Rattle.fr_base.specs.Sound.{FitsCluster}
use Rattle.fr_base.specs.Tables.{Table, contains, get}
use Rattle.fr_base.specs.declared.channel.Channel.{Channel}
use Rattle.fr_base.specs.declared.channel.Channel.TheVariants as channel
use Rattle.fr_base.specs.declared.channel.Channels.{Channels}
use Rattle.fr_base.specs.declared.channel.Channels.TheVariants as channels
use Rattle.fr_base.specs.declared.name.Name.{Name}
use Rattle.fr_base.specs.declared.params.Params.{Params}
use Rattle.fr_base.specs.declared.placement.Placement.{Placement}
use Rattle.fr_base.proofs.CycleLemmas.{has_cycle-in, within}
use Rattle.fr_base.proofs.SoundCells.{free_cells}
use Rattle.fr_base.proofs.SoundRefusing.{gives_last, gives_unless, gives_when}

-- ---- a placement that fits the cluster has a cell

-- a cycle set selects its base
selected : (s : Cycles) → IsTrue (are_cycles s) → IsTrue (has_cycle s s.base)
selected s h =
    let w = within s h in
    has_cycle-in s s.base (omega (arith, w.base, w.repetition)) ∙ eq-eqb _ _ (mod-eq_of_lt w.base)

same_cell-itself : (c : Cell) → same_cell c c ≡ true
same_cell-itself c = ap is_eq (tied_itself (then_total (on_total (λ (d : Cell). d.cycle) nat_cmp_total) (then_total (on_total (λ (d : Cell). d.slot) nat_cmp_total) (on_total (λ (d : Cell). channel_number d.channel) nat_cmp_total))) c)

or_now : (a b : Bool) → IsTrue a → IsTrue (a || b)
or_now a b h = ap (λ t. t || b) h

abbrev cell : ℕ → ℕ → Channel → Cell
cell k slot x = record { cycle = k; slot = slot; channel = x }

-- the first of a slot's cells in some cycles
some_cell : (k slot : ℕ) (chs : Channels) (ks : List ℕ) → IsTrue (list_any (nat_eq k) ks) → (c : Cell) × IsTrue (list_any (same_cell c) (cells_in ks (slot ∷ []) (channels_in chs)))
some_cell k slot chs [] h = absurd (true≢false (sym h))
some_cell k slot channels.A (y ∷ ys) h = (cell y slot channel.A, or_now _ _ (same_cell-itself (cell y slot channel.A)))
some_cell k slot channels.AB (y ∷ ys) h = (cell y slot channel.A, or_now _ _ (same_cell-itself (cell y slot channel.A)))
some_cell k slot channels.B (y ∷ ys) h = (cell y slot channel.B, or_now _ _ (same_cell-itself (cell y slot channel.B)))

placement-cell : (p : Params) (q : Placement) → FitsCluster p q → (c : Cell) × IsTrue (has_cell q c)
unfolding has_cell cells_of has_cycle
placement-cell p q fits = some_cell q.cycles.base q.slot q.channels (cycles_of q.cycles) (selected q.cycles fits.cycles)

-- what is not there
pub none_there : {A : Type 0} (o : Option A) → is_some o ≡ false → o ≡ None
none_there None h = refl
none_there (Some x) h = absurd (true≢false h)

-- so it is none of a frame's, where none of its cells is filled
pub new_placement : (p : Params) (frames : Table owned Frame) (k : Name × Name) (f : Frame) (q : Placement) → FitsCluster p q → get frames k ≡ Some f → first_taken (schedule_of frames) (cells_of q) ≡ None → get f.placements q ≡ None
new_placement p frames k f q fits found free = none_there (get f.placements q) (elim (cases_Bool (contains f.placements q)) [
  | inl there ↦ let c = placement-cell p q fits in absurd (free_cells frames q free k f q c.0 found there c.1 c.1)
  | inr new ↦ new
])

-- ---- signals

pub new_signal : (l : LayoutData) (s : SignalData) → IfOk (admits_signal l s) (λ _. has_signal l.signals s.name ≡ false)
unfolding admits_signal
new_signal l s =
    gives_when _ _ _ _ (λ new.
    gives_when _ _ _ _ (λ _.
    gives_unless _ _ _ _ (λ _.
    gives_last _ _ (λ _ _. new))))
