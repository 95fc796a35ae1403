use Rattle.std.proofs.Math.Dec.{eqb}
use Rattle.fr_picture.proofs.MarkLemmas.{marked_more, marked_none}
use Rattle.fr_picture.proofs.drawing.marks.mark_cells.Goals as goal

pub loop-cell-init : goal.loop-cell-init
loop-cell-init c = λ n. marked_none _

pub loop-cell-preserved : goal.loop-cell-preserved
loop-cell-preserved c = λ n.
    marked_more (λ s. eqb s.slot n) c.args.cells.now c.loop-cell.cell-index c.cell-item.result _ _ _ c.loop-cell-test.true c.cell-item.is (c.loop-cell.invariant n) (c.mark.ensures n)
