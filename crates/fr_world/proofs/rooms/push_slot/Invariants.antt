use Rattle.std.proofs.Common.{◌≡◌, ◌++◌, filter, take}
use Rattle.std.specs.List.{flat_map}
use Rattle.fr_base.specs.Room.{places_on}
use Rattle.fr_world.specs.Pages.{own_rows_of}
use Rattle.fr_world.specs.Rooms.{is_vacant_alone}
use Rattle.fr_world.proofs.rooms.push_slot.Given as goal

-- what was there, and those on the channels before
abbrev pub invariant-loop-channels : goal.invariant-loop-channels
invariant-loop-channels l = l.places ≡ l.fn.places ++ filter (is_vacant_alone (own_rows_of l.page) l.search.node) (flat_map (places_on l.page.params l.search.repetition l.slot) (take l.channels-index l.channels-items))
