use Rattle.std.proofs.Common.{arith}
use Rattle.fr_picture.proofs.ChangeLemmas.{none_stand, all_stand, standing_more}
use Rattle.fr_picture.proofs.changes.by_slot.Goals as goal

pub loop-row-init : goal.loop-row-init
loop-row-init c = record {
  len = c.in_ok-slots.ensures.len;
  stand = none_stand c.args.rows.now _ (omega (arith, c.in_ok-slots.slots.ok, c.in_ok-slots.ensures.len)) c.in_ok-slots.ensures.none;
}

pub loop-row-preserved : goal.loop-row-preserved
loop-row-preserved c = record {
  len = c.in_ok-add.ensures.len;
  stand = standing_more c.args.rows.now c.loop-row.row-index c.row-item.result _ _ c.loop-row-test.true c.row-item.is c.loop-row.invariant.stand c.in_ok-add.ensures.more;
}

pub returns : goal.returns
returns c = all_stand c.args.rows.now c.loop-row.row-index _ c.loop-row-test.false (omega (arith, c.loop-row.slots.ok, c.loop-row.invariant.len)) c.loop-row.invariant.stand
