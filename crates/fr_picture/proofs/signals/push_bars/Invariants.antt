use Rattle.std.proofs.Common.{◌≡◌, ◌++◌, true, take}
use Rattle.std.specs.String.{string_bytes}
use Rattle.fr_picture.specs.Strips.{bars_text}
use Rattle.fr_picture.proofs.StripLemmas.{row_after}
use Rattle.fr_picture.proofs.signals.push_bars.Given as goal

-- the bits of those up to here
abbrev pub invariant-loop-signal : goal.invariant-loop-signal
invariant-loop-signal l = record {
  row : l.upper ≡ row_after true (take l.signal-index l.signals);
  text : string_bytes l.out ≡ string_bytes l.initial.out ++ bars_text true (take l.signal-index l.signals);
}
