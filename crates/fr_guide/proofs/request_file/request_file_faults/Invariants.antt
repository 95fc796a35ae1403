-- What is told of the lines so far, and what is asked of those that are left, is what is asked of all.
use Rattle.std.proofs.Common.{◌≡◌, ◌+◌, ◌++◌, length}
use Rattle.std.specs.List.{AllByRecursion}
use Rattle.std.specs.Str.Lines.{lines}
use Rattle.fr_guide.specs.Rows.{numbers_of}
use Rattle.fr_guide.specs.RequestFile.{HasFault, bad_lines}
use Rattle.fr_guide.proofs.request_file.request_file_faults.Given as goal

abbrev pub invariant-loop-text : goal.invariant-loop-text
invariant-loop-text l = record {
  told : numbers_of l.told.items ++ bad_lines (l.line + 1) (lines l.rest) ≡ bad_lines 1 (lines l.bytes);
  some : AllByRecursion HasFault l.told.items;
  count : l.line + length (lines l.rest) ≡ length (lines l.bytes);
}

abbrev pub decreases-loop-text : goal.decreases-loop-text
decreases-loop-text l = length (lines l.rest)
