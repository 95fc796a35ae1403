use Rattle.std.proofs.Common.{refl}
use Rattle.fr_picture.proofs.RectangleLemmas.{adds_first, adds_longer, apart_longer, filled_longer, adds_another, apart_another}
use Rattle.fr_picture.proofs.drawing.lane.add_cell.Goals as goal

pub returns-in_default-clause-cells : goal.returns-in_default-clause-cells
returns-in_default-clause-cells c = adds_first _ _ _ _ _ c.in_default.ensures.items c.in_ok-push.ensures.items c.of.ensures.cells

pub returns-then-meets-clause-cells : goal.returns-then-meets-clause-cells
returns-then-meets-clause-cells c =
    adds_longer _ _ _ _ _ _ c.in-Some.ensures.items c.in_ok-push-2.ensures.items c.longer.ensures.value (c.if-meets.ensures.value.0 refl)

pub returns-then-meets-clause-apart : goal.returns-then-meets-clause-apart
returns-then-meets-clause-apart c =
    apart_longer _ _ _ _ _ c.in-Some.ensures.items c.in_ok-push-2.ensures.items c.longer.ensures.value

pub returns-then-meets-clause-filled : goal.returns-then-meets-clause-filled
returns-then-meets-clause-filled c =
    filled_longer _ _ _ _ _ c.in-Some.ensures.items c.in_ok-push-2.ensures.items c.longer.ensures.value

pub returns-clause-cells : goal.returns-clause-cells
returns-clause-cells c =
    adds_another _ _ _ _ _ _ _ c.in-Some.ensures.items c.in_ok-push-3.ensures.items c.in_ok-push-4.ensures.items c.of-2.ensures.cells

pub returns-clause-apart : goal.returns-clause-apart
returns-clause-apart c =
    apart_another _ _ _ _ _ _ _ c.in-Some.ensures.items c.in_ok-push-3.ensures.items c.in_ok-push-4.ensures.items c.of-2.ensures.value c.if-meets.ensures.value.1
