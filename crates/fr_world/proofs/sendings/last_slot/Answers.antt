use Rattle.std.proofs.Common.{refl, arith}
use Rattle.fr_world.proofs.UsedLaws.{unused-next}
use Rattle.fr_world.proofs.sendings.last_slot.Goals as goal

pub loop-one-init : goal.loop-one-init
loop-one-init c = (omega arith, λ slot past. refl)

pub loop-one-preserved : goal.loop-one-preserved
loop-one-preserved c = (
  omega (arith, c.loop-one.invariant.0, c.max-last.ensures),
  λ slot past.
      unused-next c.args.triggerings.now c.loop-one.one-index slot c.one-item.result c.loop-one-test.true c.one-item.is
      (c.loop-one.invariant.1 slot (omega (arith, past, c.max-last.ensures)))
      (λ at. omega (arith, at, past, c.max-last.ensures, c.get.ensures.value)),
)
