use Rattle.std.proofs.Common.{◌≡◌, ◌++◌, take}
use Rattle.std.specs.List.{flat_map}
use Rattle.std.specs.String.{string_bytes}
use Rattle.fr_picture.specs.Strips.{signal_text}
use Rattle.fr_picture.proofs.signals.push_signals.Given as goal

-- the text of those up to here
abbrev pub invariant-loop-signal : goal.invariant-loop-signal
invariant-loop-signal l = string_bytes l.out ≡ string_bytes l.initial.out ++ flat_map (λ s. signal_text s.signal.name s.signal.start s.signal.length s.signal.order) (take l.signal-index l.signals)
