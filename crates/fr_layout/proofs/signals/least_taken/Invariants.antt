use Rattle.std.proofs.Common.{take}
use Rattle.fr_layout.specs.Least.{IsLeast}
use Rattle.fr_layout.specs.Used.{IsTaken}
use Rattle.fr_layout.proofs.signals.least_taken.Given as goal

abbrev pub invariant-loop-other : goal.invariant-loop-other
invariant-loop-other l = IsLeast (IsTaken l.signal (take l.other-index l.signals)) l.least
