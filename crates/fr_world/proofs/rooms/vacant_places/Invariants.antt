use Rattle.std.proofs.Common.{◌≡◌, ◌-◌, filter}
use Rattle.std.specs.List.{flat_map, range_with_len}
use Rattle.fr_base.specs.Room.{places_in}
use Rattle.fr_world.specs.Pages.{own_rows_of}
use Rattle.fr_world.specs.Rooms.{is_vacant_alone}
use Rattle.fr_world.proofs.rooms.vacant_places.Given as goal

-- those of the slots before
abbrev pub invariant-loop-number : goal.invariant-loop-number
invariant-loop-number l = l.places ≡ filter (is_vacant_alone (own_rows_of l.page) l.fn.node) (flat_map (places_in l.page.params l.fn.repetition) (range_with_len 1 (l.number - 1)))
