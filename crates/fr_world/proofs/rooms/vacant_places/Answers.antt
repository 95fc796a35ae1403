use Rattle.std.proofs.Common.{◌≡◌, ◌∙◌, ◌-◌, ◌+◌, ◌++◌, [], filter, ap, arith}
use Rattle.std.specs.List.{flat_map, range_with_len}
use Rattle.fr_base.specs.Room.{places_in, places_with}
use Rattle.fr_world.specs.Pages.{own_rows_of}
use Rattle.fr_world.specs.Rooms.{is_vacant_alone}
use Rattle.fr_world.proofs.RoomLaws.{kept-number, one-slot}
use Rattle.fr_world.proofs.ScheduleLaws.{slot-within, some_slot}
use Rattle.fr_world.proofs.rooms.vacant_places.Goals as goal
use Rattle.fr_world.proofs.rooms.vacant_places.Goals.{in-Some+in_ok-push_slot, in_default}

pub loop-number-preserved : goal.loop-number-preserved
loop-number-preserved c =
    let number = c.loop-number.number in
    let found = slot-within number c.new.result c.loop-number.auto.number (omega (arith, c.loop-number-test.true, c.static_slots-number-end.ensures.range.1)) c.new.ensures in
    elim c.match-new.branch [
      | in-Some+in_ok-push_slot w ↦
          kept-number (is_vacant_alone (own_rows_of c.args.page.now) c.args.node) (places_in c.args.page.now.params c.args.repetition) [] c.loop-number.places _ number (number - 1) (number + 1 - 1) (omega (arith, c.loop-number.auto.number)) (omega (arith, c.loop-number.auto.number))
          c.loop-number.invariant
          (w.places-is ∙ w.in_ok-push_slot.ensures ∙ ap (λ s. c.loop-number.places ++ filter (is_vacant_alone (own_rows_of c.args.page.now) c.args.node) (places_in c.args.page.now.params c.args.repetition s)) (one-slot c.new.result _ _ w.in-Some.is found))
      | in_default w ↦ absurd (some_slot c.new.result number found w.in_default.is)
    ]

pub returns : goal.returns
unfolding places_with
returns c =
    let last : c.loop-number.number - 1 ≡ c.static_slots-number-end.result = omega (arith, c.loop-number-test.false, c.loop-number.auto.number, c.loop-number.auto.number-end (omega arith)) in
    c.loop-number.invariant
    ∙ ap (λ n. filter (is_vacant_alone (own_rows_of c.args.page.now) c.args.node) (flat_map (places_in c.args.page.now.params c.args.repetition) (range_with_len 1 n)))
    (last ∙ c.static_slots-number-end.ensures.value ∙ ap (λ p. p.static_slots) c.params.ensures)
