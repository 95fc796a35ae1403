use Rattle.std.proofs.Common.{◌∙◌, arith}
use Rattle.fr_picture.proofs.LaneLemmas.{at_step}
use Rattle.fr_picture.proofs.drawing.lane.empty_lanes.Goals as goal

pub loop-column-preserved : goal.loop-column-preserved
loop-column-preserved c = record {
  len = omega (arith, c.in_ok-push_column.ensures.len, c.loop-column.invariant.len);
  grants = c.in_ok-push_column.ensures.grants ∙ c.loop-column.invariant.grants;
  cells = c.in_ok-push_column.ensures.cells ∙ c.loop-column.invariant.cells;
  apart = c.in_ok-push_column.ensures.apart c.loop-column.invariant.apart;
  filled = c.in_ok-push_column.ensures.filled c.loop-column.invariant.filled;
  at =
      at_step _ _ c.args.columns.now c.loop-column.column-index _ _ c.loop-column-test.true
      (c.in_ok-push_column.ensures.at _ c.loop-column.invariant.at);
  home = c.in_ok-push_column.ensures.home c.loop-column.invariant.home;
}
