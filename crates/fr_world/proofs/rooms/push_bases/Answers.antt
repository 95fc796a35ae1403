use Rattle.std.proofs.Common.{◌∙◌, ◌++◌, map, filter, ap, arith}
use Rattle.std.specs.List.{range_with_len}
use Rattle.fr_base.specs.Room.{placed, places_on}
use Rattle.fr_world.specs.Pages.{own_rows_of}
use Rattle.fr_world.specs.Rooms.{is_free_alone}
use Rattle.fr_world.proofs.RoomLaws.{kept-made, set-made}
use Rattle.fr_world.proofs.rooms.push_bases.Goals as goal
use Rattle.fr_world.proofs.rooms.push_bases.Goals.{in-Ok+in_ok-push_free, in_default}

pub loop-base-preserved : goal.loop-base-preserved
loop-base-preserved c =
    let p = c.args.page.now.params in
    let base = c.loop-base.base in
    let found = set-made p.cycles c.cycles.result base c.args.repetition c.new.result (c.cycles.ensures.value ∙ ap (λ p. p.cycles) c.params.ensures) c.requires (omega (arith, c.loop-base-test.true)) c.new.ensures in
    elim c.match-new.branch [
      | in-Ok+in_ok-push_free w ↦ kept-made (is_free_alone (own_rows_of c.args.page.now)) p c.args.repetition c.args.slot c.args.channels c.args.places.now c.loop-base.places _ base w.in-Ok.cycles c.new.result found w.in-Ok.is c.loop-base.invariant (w.places-is ∙ w.in_ok-push_free.ensures)
      | in_default w ↦ absurd (w.in_default.not-Ok _ found)
    ]

pub returns : goal.returns
unfolding places_on
returns c = c.loop-base.invariant ∙ ap (λ n. c.args.places.now ++ filter (is_free_alone (own_rows_of c.args.page.now)) (map (placed c.args.page.now.params c.args.repetition c.args.slot c.args.channels) (range_with_len 0 n))) (omega (arith, c.loop-base-test.false))
