-- What is told so far and what is asked of the records that are left is what is asked of all. The lines are in order up to the place.
use Rattle.std.proofs.Common.{◌≡◌, ◌+◌, ◌++◌, length, map}
use Rattle.fr_base.specs.declared.limits.TheConstants.{MAX_ROWS}
use Rattle.fr_guide.specs.Faults.{is_fine}
use Rattle.fr_guide.specs.Rows.{AreInOrder, fine_rows, line_ends, numbers_of}
use Rattle.fr_guide.proofs.rows.tell_rows.Given as goal

abbrev pub invariant-loop-place : goal.invariant-loop-place
invariant-loop-place l = record {
  rows : map is_fine l.told.items ++ fine_rows l.kind l.room l.records ≡ map is_fine l.fn.told.items ++ fine_rows l.kind MAX_ROWS l.fn.records;
  lines : AreInOrder 1 l.fn.place.line (numbers_of l.fn.told.items) → AreInOrder 1 l.place.line (numbers_of l.told.items);
  all : l.place.line + line_ends l.place.rest.now ≡ l.fn.place.line + line_ends l.fn.place.rest.now;
}

abbrev pub decreases-loop-place : goal.decreases-loop-place
decreases-loop-place l = length l.records
