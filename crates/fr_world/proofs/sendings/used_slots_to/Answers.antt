use Rattle.std.proofs.Common.{◌∙◌, ◌+◌, ◌-◌, sym, ap, arith}
use Rattle.fr_world.proofs.ScheduleLaws.{used-more, used-none, used-one, slot-within, some_slot}
use Rattle.fr_world.proofs.sendings.used_slots_to.Goals as goal
use Rattle.fr_world.proofs.sendings.used_slots_to.Goals.{else-loop-number-test, then-loop-number-test+else-number-last, in-Some+then-is_marked+in_ok-push, in-Some+else-is_marked, in_default}

pub loop-number-preserved : goal.loop-number-preserved
loop-number-preserved c =
    let number = c.loop-number.number in
    let found = slot-within number c.new.result (omega arith) (omega arith) c.new.ensures in
    used-more c.args.triggerings.now c.loop-number.slots.items _ number (number - 1) (number + 1 - 1) (omega arith) (omega arith) c.loop-number.invariant
    (elim c.match-new.branch [
      | in-Some+then-is_marked+in_ok-push w ↦ used-one c.args.triggerings.now c.loop-number.slots.items _ w.in-Some.slot number (sym w.in-Some.is ∙ found) (sym (c.slot_marks-marks.ensures _ w.is_marked.ensures.within) ∙ sym w.is_marked.ensures.value ∙ w.if-is_marked.true) (ap (λ v. v.items) w.slots-is ∙ w.in_ok-push.ensures.items)
      | in-Some+else-is_marked w ↦ used-none c.args.triggerings.now c.loop-number.slots.items _ w.in-Some.slot number (sym w.in-Some.is ∙ found) (sym (c.slot_marks-marks.ensures _ w.is_marked.ensures.within) ∙ sym w.is_marked.ensures.value ∙ w.if-is_marked.false) (ap (λ v. v.items) w.slots-is)
      | in_default w ↦ absurd (some_slot c.new.result number found w.in_default.is)
    ])

pub returns : goal.returns
returns c =
    let number = c.loop-number.number in
    elim c.loop-number-test.branch [
      | else-loop-number-test w ↦ absurd (omega arith)
      | then-loop-number-test+else-number-last w ↦
          let found = slot-within number w.new.result (omega arith) (omega arith) w.new.ensures in
          used-more c.args.triggerings.now c.loop-number.slots.items _ number (number - 1) c.args.last (omega arith) (omega arith) c.loop-number.invariant
          (ap (λ v. v.items) w.slots-is ∙ (elim w.match-new.branch [
            | in-Some+then-is_marked+in_ok-push w' ↦ used-one c.args.triggerings.now c.loop-number.slots.items _ w'.in-Some.slot number (sym w'.in-Some.is ∙ found) (sym (c.slot_marks-marks.ensures _ w'.is_marked.ensures.within) ∙ sym w'.is_marked.ensures.value ∙ w'.if-is_marked.true) (ap (λ v. v.items) w'.slots-is ∙ w'.in_ok-push.ensures.items)
            | in-Some+else-is_marked w' ↦ used-none c.args.triggerings.now c.loop-number.slots.items _ w'.in-Some.slot number (sym w'.in-Some.is ∙ found) (sym (c.slot_marks-marks.ensures _ w'.is_marked.ensures.within) ∙ sym w'.is_marked.ensures.value ∙ w'.if-is_marked.false) (ap (λ v. v.items) w'.slots-is)
            | in_default w' ↦ absurd (some_slot w.new.result number found w'.in_default.is)
          ]))
    ]
