-- Keyed rows: the key of a row that a difference tells, and what stands at it.
use Rattle.std.specs.Prelude.{ℕ, Bool, Option, ⊤}
use Rattle.std.specs.declared.cmp.Ordering.{Ordering}
use Rattle.fr_base.specs.Tables.{Order}
use Rattle.fr_base.specs.Book.{Holder}
use Rattle.fr_base.specs.Signals.{SignalData}
use Rattle.fr_base.specs.declared.channel.Channel.{Channel}
use Rattle.fr_base.specs.declared.name.Name.{Name}
use Rattle.fr_base.specs.declared.placement.Placement.{Placement}
use Rattle.fr_base.specs.declared.answer.GrantRow.{GrantRow}
use Rattle.fr_base.specs.declared.answer.FrameRecord.{FrameRecord}
use Rattle.fr_base.specs.declared.answer.PlacementRecord.{PlacementRecord}
use Rattle.fr_base.specs.declared.answer.SignalRecord.{SignalRecord}
use Rattle.fr_base.specs.declared.answer.GapRow.{GapRow}

abbrev pub grant_entry : GrantRow → (ℕ × Channel) × Holder
grant_entry r = ((r.slot, r.channel), record { supplier = r.supplier; node = r.node })

abbrev pub frame_entry : FrameRecord → (Name × Name) × Name
frame_entry r = ((r.supplier, r.frame), r.node)

abbrev pub placement_entry : PlacementRecord → ((Name × Name) × Placement) × ⊤
placement_entry r = (((r.supplier, r.frame), r.placement), tt)

abbrev pub signal_entry : SignalRecord → ((Name × Name) × ℕ) × SignalData
signal_entry r = (((r.supplier, r.frame), r.signal.start), r.signal)

abbrev pub gap_entry : GapRow → (Name × Name) × Option ℕ
gap_entry r = ((r.supplier, r.frame), r.gap)

-- rows by their keys
abbrev pub by_key : {X K V : Type 0} → Order K → (X → K × V) → X → X → Ordering
by_key o entry x y = o.compare (entry x).0 (entry y).0

-- whether the same stands in two rows
abbrev pub same_at : {X K V : Type 0} → (V → V → Bool) → (X → K × V) → X → X → Bool
same_at same entry x y = same (entry x).1 (entry y).1
