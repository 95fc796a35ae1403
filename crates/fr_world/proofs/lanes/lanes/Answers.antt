use Rattle.std.proofs.Common.{◌≡◌, ◌∙◌, ◌-◌, ◌+◌, ◌++◌, ap, map, arith}
use Rattle.std.specs.List.{flat_map, range_with_len}
use Rattle.fr_base.specs.Channels.{channels_in}
use Rattle.fr_base.specs.Load.{lanes_in, lanes_of}
use Rattle.fr_world.specs.Loads.{lane_of}
use Rattle.fr_world.proofs.LoadLaws.{flat-number}
use Rattle.fr_world.proofs.RoomLaws.{one-slot}
use Rattle.fr_world.proofs.ScheduleLaws.{slot-within, some_slot}
use Rattle.fr_world.proofs.lanes.lanes.Goals as goal
use Rattle.fr_world.proofs.lanes.lanes.Goals.{in-Some+in_ok-push_lanes, in_default}

pub loop-number-preserved : goal.loop-number-preserved
loop-number-preserved c =
    let number = c.loop-number.number in
    let found = slot-within number c.new.result c.loop-number.auto.number (omega (arith, c.loop-number-test.true, c.static_slots-number-end.ensures.range.1)) c.new.ensures in
    elim c.match-new.branch [
      | in-Some+in_ok-push_lanes w ↦
          flat-number (lanes_in (channels_in c.args.params.now.channels)) (map lane_of c.loop-number.lanes.items) _ number (number - 1) (number + 1 - 1) (omega (arith, c.loop-number.auto.number)) (omega (arith, c.loop-number.auto.number))
          c.loop-number.invariant
          (ap (λ v. map lane_of v.items) w.lanes-is ∙ w.in_ok-push_lanes.ensures
          ∙ (λ i. map lane_of c.loop-number.lanes.items ++ lanes_in (channels_in (w.channels.ensures i)) (one-slot c.new.result _ _ w.in-Some.is found i)))
      | in_default w ↦ absurd (some_slot c.new.result number found w.in_default.is)
    ]

pub returns : goal.returns
unfolding lanes_of
returns c =
    let last : c.loop-number.number - 1 ≡ c.static_slots-number-end.result = omega (arith, c.loop-number-test.false, c.loop-number.auto.number, c.loop-number.auto.number-end (omega arith)) in
    c.loop-number.invariant
    ∙ ap (λ n. flat_map (lanes_in (channels_in c.args.params.now.channels)) (range_with_len 1 n)) (last ∙ c.static_slots-number-end.ensures.value)
