use Rattle.std.proofs.Common.{◌≡◌, take, map}
use Rattle.fr_base.specs.Bits.{value_in}
use Rattle.fr_layout.proofs.signals.values_in.Given as goal

abbrev pub invariant-loop-signal : goal.invariant-loop-signal
invariant-loop-signal l = l.values.items ≡ map (value_in l.bytes) (take l.signal-index l.signals)
