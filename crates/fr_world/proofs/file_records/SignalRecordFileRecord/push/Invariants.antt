use Rattle.std.proofs.Common.{◌≡◌, ◌++◌, map, take}
use Rattle.fr_base.specs.declared.answer.SignalRecord.{SignalRecord}
use Rattle.fr_world.proofs.file_records.SignalRecordFileRecord.push.Given as goal

-- what was there, and the records of the signals before
abbrev pub invariant-loop-signal : goal.invariant-loop-signal
invariant-loop-signal l =
    l.rows ≡ l.fn.rows ++ map {B = SignalRecord} (λ s. record { frame = l.name; signal = s; supplier = l.supplier }) (take l.signal-index l.frame.layout.signals)
