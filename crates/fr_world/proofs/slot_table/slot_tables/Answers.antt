use Rattle.std.proofs.Common.{subst, sym, []}
use Rattle.fr_world.specs.FirstPlaces.{AreFirst}
use Rattle.fr_world.proofs.PlaceLaws.{first-next, first-nothing}
use Rattle.fr_world.proofs.slot_table.slot_tables.Goals as goal

pub loop-place-init : goal.loop-place-init
loop-place-init c = subst (AreFirst []) (sym c.new-tables.ensures.items) first-nothing

pub loop-place-preserved : goal.loop-place-preserved
loop-place-preserved c =
    first-next c.args.triggerings.now c.loop-place.place c.get-number.result c.index-triggerings-place.result c.loop-place.tables.items c.make_room.new.tables.items c.index_mut.result.now c.claim.new.self
    c.loop-place-test.true c.index-triggerings-place.is c.loop-place.invariant c.in_ok-make_room.ensures.same c.get-number.ensures.value c.in_ok-make_room.ensures.room c.index_mut.ensures.value c.in_ok-claim.ensures
