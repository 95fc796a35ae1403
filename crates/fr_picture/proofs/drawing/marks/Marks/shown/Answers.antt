use Rattle.std.proofs.Common.{◌-◌, ◌∙◌, arith, inl, inr, sym}
use Rattle.fr_picture.proofs.MarkLemmas.{all_shown, first_is_free, free_more, shown_more}
use Rattle.fr_picture.proofs.drawing.marks.Marks.shown.Goals as goal
use Rattle.fr_picture.proofs.drawing.marks.Marks.shown.Goals.{then-is_slot, else-is_slot}

pub loop-slot-init : goal.loop-slot-init
loop-slot-init c = record {
  len = omega (arith, c.new-shown.ensures.len);
  value = λ used marked. (c.new-shown.ensures.items, first_is_free used);
}

pub loop-slot-preserved : goal.loop-slot-preserved
loop-slot-preserved c = record {
  len = omega (arith, c.in_ok-push.ensures.len, c.loop-slot.invariant.len);
  value = λ used marked.
      let was = c.loop-slot.invariant.value used marked in
      let slot = c.loop-slot.slot in
      let next = c.shows-next.ensures used marked (slot - 1) (omega (arith, c.loop-slot.auto.slot)) was.1 in (
        shown_more used c.args.last slot _ _ _ c.loop-slot.auto.slot next was.0 c.in_ok-push.ensures.items,
        free_more used c.args.last slot _ _ _ c.loop-slot.auto.slot next
            (elim c.if-is_slot.branch [
              | then-is_slot w ↦ inl (sym c.is_slot.ensures ∙ w.if-is_slot.true, w.free-is)
              | else-is_slot w ↦ inr (sym c.is_slot.ensures ∙ w.if-is_slot.false, w.free-is)
            ]) was.1,
      );
}

pub returns-clause-value : goal.returns-clause-value
returns-clause-value c = λ used marked. all_shown used c.args.last c.loop-slot.slot _ c.loop-slot-test.false (c.loop-slot.auto.slot-end (omega arith)) (c.loop-slot.invariant.value used marked).0
