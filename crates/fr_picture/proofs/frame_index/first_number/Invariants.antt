use Rattle.std.proofs.Common.{◌≡◌, drop}
use Rattle.std.specs.List.{find}
use Rattle.fr_picture.specs.FrameIndexes.{is_entry_of}
use Rattle.fr_picture.proofs.frame_index.first_number.Given as goal

-- none of those up to here is the cell's
abbrev pub invariant-loop-entry : goal.invariant-loop-entry
invariant-loop-entry l = find (is_entry_of l.cell) l.index ≡ find (is_entry_of l.cell) (drop l.entry-index l.index)
