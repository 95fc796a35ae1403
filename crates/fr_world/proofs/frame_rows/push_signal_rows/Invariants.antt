use Rattle.std.proofs.Common.{◌≡◌, ◌++◌, map, take}
use Rattle.fr_base.specs.declared.answer.SignalRow.{SignalRow}
use Rattle.fr_world.proofs.frame_rows.push_signal_rows.Given as goal

-- what was there, and the signals before
abbrev pub invariant-loop-signal : goal.invariant-loop-signal
invariant-loop-signal l = l.rows ≡ l.fn.rows ++ map {B = SignalRow} (λ s. record { supplier = l.supplier; signal = s }) (take l.signal-index l.frame.layout.signals)
