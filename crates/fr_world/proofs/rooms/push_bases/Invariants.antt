use Rattle.std.proofs.Common.{◌≡◌, ◌++◌, filter, map}
use Rattle.std.specs.List.{range_with_len}
use Rattle.fr_base.specs.Room.{placed}
use Rattle.fr_world.specs.Pages.{own_rows_of}
use Rattle.fr_world.specs.Rooms.{is_free_alone}
use Rattle.fr_world.proofs.rooms.push_bases.Given as goal

-- what was there, and those of the bases before
abbrev pub invariant-loop-base : goal.invariant-loop-base
invariant-loop-base l = l.places ≡ l.fn.places ++ filter (is_free_alone (own_rows_of l.page)) (map (placed l.page.params l.repetition l.slot l.channels) (range_with_len 0 l.base))
