use Rattle.std.proofs.Common.{◌∙◌, ◌++◌, filter, take_all, ap, refl, arith}
use Rattle.std.specs.List.{flat_map}
use Rattle.fr_base.specs.Room.{channels_within, places_in, places_on}
use Rattle.fr_world.specs.Pages.{own_rows_of}
use Rattle.fr_world.specs.Rooms.{is_vacant_alone}
use Rattle.fr_world.proofs.RoomLaws.{kept-next}
use Rattle.fr_world.proofs.rooms.push_slot.Goals as goal

pub loop-channels-preserved : goal.loop-channels-preserved
loop-channels-preserved c =
    kept-next (is_vacant_alone (own_rows_of c.args.page.now) c.args.search.now.node) (places_on c.args.page.now.params c.args.search.now.repetition c.args.slot) c.channels_within-channels-items.result.now c.loop-channels.channels-index _ _ c.args.places.now c.loop-channels.places _
    c.loop-channels-test.true refl c.loop-channels.invariant c.in_ok-push_channels.ensures

pub returns : goal.returns
unfolding places_in
returns c =
    c.loop-channels.invariant
    ∙ ap (λ cs. c.args.places.now ++ filter (is_vacant_alone (own_rows_of c.args.page.now) c.args.search.now.node) (flat_map (places_on c.args.page.now.params c.args.search.now.repetition c.args.slot) cs))
    (take_all c.loop-channels.channels-index c.channels_within-channels-items.result.now (omega (arith, c.loop-channels-test.false))
    ∙ c.channels_within-channels-items.ensures
    ∙ ap channels_within (c.channels.ensures ∙ ap (λ p. p.channels) c.params.ensures))
