use Rattle.std.proofs.Common.{refl, arith}
use Rattle.fr_picture.proofs.RunLemmas.{bits_in_none, byte_more}
use Rattle.fr_picture.proofs.signals.big_runs.Goals as goal

pub loop-high-init : goal.loop-high-init
loop-high-init c = record { kept = bits_in_none _ _ c.new-runs.ensures.items; small = omega arith }

pub loop-high-preserved : goal.loop-high-preserved
loop-high-preserved c = record {
  kept = byte_more _ _ _ c.loop-high.high c.loop-high.left _ c.in_ok-push.ensures.items refl refl c.loop-high-test.true c.loop-high.invariant.kept;
  small = omega (arith, c.loop-high.invariant.small, c.loop-high-test.true);
}

pub returns : goal.returns
returns c = c.in_ok-push_last.ensures _ c.loop-high.invariant.kept
