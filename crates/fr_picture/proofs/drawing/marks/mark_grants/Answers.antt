use Rattle.std.proofs.Math.Dec.{eqb}
use Rattle.fr_picture.proofs.MarkLemmas.{marked_more, marked_none}
use Rattle.fr_picture.proofs.drawing.marks.mark_grants.Goals as goal

pub loop-grant-init : goal.loop-grant-init
loop-grant-init c = λ n. marked_none _

pub loop-grant-preserved : goal.loop-grant-preserved
loop-grant-preserved c = λ n.
    marked_more (λ g. eqb g.slot n) c.args.grants.now c.loop-grant.grant-index c.grant-item.result _ _ _ c.loop-grant-test.true c.grant-item.is (c.loop-grant.invariant n) (c.mark.ensures n)
