use Rattle.std.proofs.Common.{sym}
use Rattle.fr_picture.proofs.StripLemmas.{bars_first, bars_step, row_none, row_step}
use Rattle.fr_picture.proofs.signals.push_bars.Goals as goal

pub loop-signal-init : goal.loop-signal-init
loop-signal-init c = record { row = sym (row_none c.args.signals.now); text = bars_first c.args.signals.now _ }

pub loop-signal-preserved : goal.loop-signal-preserved
loop-signal-preserved c = record {
  row = row_step c.args.signals.now c.loop-signal.signal-index c.signal-item.result _ c.loop-signal-test.true c.signal-item.is c.loop-signal.invariant.row;
  text =
      bars_step c.args.signals.now c.loop-signal.signal-index c.signal-item.result _ _ _ _ _ _ c.loop-signal-test.true c.signal-item.is c.loop-signal.invariant.row
      c.row_of.ensures c.as_slice.ensures.value c.loop-signal.invariant.text c.in_ok-push_runs.ensures;
}
