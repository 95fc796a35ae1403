use Rattle.fr_picture.specs.Changes.{is_of_slot}
use Rattle.fr_picture.proofs.MarkLemmas.{marked_more, marked_none}
use Rattle.fr_picture.proofs.drawing.marks.mark_changes.Goals as goal

pub loop-change-init : goal.loop-change-init
loop-change-init c = λ n. marked_none _

pub loop-change-preserved : goal.loop-change-preserved
loop-change-preserved c = λ n.
    marked_more (is_of_slot n) c.args.changes.now c.loop-change.change-index c.change-item.result _ _ _ c.loop-change-test.true c.change-item.is (c.loop-change.invariant n) (c.mark_change.ensures n)
