-- None of the rows so far has the cell.
use Rattle.fr_world.proofs.MaskLaws.{NoneYet, cell_in}
use Rattle.fr_world.proofs.row_occupancy.RowOccupancy.frame_in.Given as goal

abbrev pub invariant-loop-row : goal.invariant-loop-row
invariant-loop-row l = NoneYet (cell_in l.slot l.channel l.cycle) l.self.rows.items l.row-index
