use Rattle.std.proofs.Common.{◌+◌, ◌*◌, ◌≤◌, ◌++◌}
use Rattle.std.specs.List.Sorted.{IsPermutation}
use Rattle.fr_base.specs.Bits.{run_big}
use Rattle.fr_picture.specs.Strips.{bits_in}
use Rattle.fr_picture.proofs.signals.big_runs.Given as goal

-- the runs so far and the bits that are left are the signal's; `high` stays small
abbrev pub invariant-loop-high : goal.invariant-loop-high
invariant-loop-high l = record {
  kept : IsPermutation (bits_in l.runs.items ++ run_big l.high l.left) (run_big l.start l.length);
  small : l.high + 15 * l.left ≤ l.start + 15 * l.length;
}

abbrev pub decreases-loop-high : goal.decreases-loop-high
decreases-loop-high l = l.left
