use Rattle.std.proofs.Common.{◌≡◌, ◌∙◌, ◌-◌, ◌+◌, filter, ap, arith}
use Rattle.std.specs.List.{range_with_len}
use Rattle.fr_base.specs.Proposals.{held_slots}
use Rattle.fr_base.specs.RefusedWishes.{holds}
use Rattle.fr_world.specs.Pages.{own_rows_of}
use Rattle.fr_world.proofs.RoomLaws.{one-slot}
use Rattle.fr_world.proofs.ScheduleLaws.{slot-within, some_slot}
use Rattle.fr_world.proofs.TurnLaws.{held-more}
use Rattle.fr_world.proofs.proposal.slots.held_slots.Goals as goal
use Rattle.fr_world.proofs.proposal.slots.held_slots.Goals.{in-Some+in_ok-push_held, in_default}

pub loop-number-preserved : goal.loop-number-preserved
loop-number-preserved c =
    let number = c.loop-number.number in
    let found = slot-within number c.new.result c.loop-number.auto.number (omega (arith, c.loop-number-test.true, c.static_slots-number-end.ensures.range.1)) c.new.ensures in
    elim c.match-new.branch [
      | in-Some+in_ok-push_held w ↦
          held-more (holds (own_rows_of c.args.page.now) c.args.node c.args.channels) c.loop-number.slots.items c.match-new.slots.items number (number - 1) (number + 1 - 1) w.in-Some.slot (omega (arith, c.loop-number.auto.number)) (omega (arith, c.loop-number.auto.number))
          (one-slot c.new.result _ _ w.in-Some.is found) c.loop-number.invariant (ap (λ v. v.items) w.slots-is ∙ w.in_ok-push_held.ensures)
      | in_default w ↦ absurd (some_slot c.new.result number found w.in_default.is)
    ]

pub returns : goal.returns
unfolding held_slots
returns c =
    let last : c.loop-number.number - 1 ≡ c.static_slots-number-end.result = omega (arith, c.loop-number-test.false, c.loop-number.auto.number, c.loop-number.auto.number-end (omega arith)) in
    c.loop-number.invariant
    ∙ ap (λ n. filter (holds (own_rows_of c.args.page.now) c.args.node c.args.channels) (range_with_len 1 n)) (last ∙ c.static_slots-number-end.ensures.value ∙ ap (λ p. p.static_slots) c.params.ensures)
