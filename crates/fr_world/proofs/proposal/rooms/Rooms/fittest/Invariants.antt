use Rattle.std.proofs.Common.{◌≡◌, map, option_map, take}
use Rattle.fr_world.specs.Proposals.{rated_of}
use Rattle.fr_world.proofs.SlotFits.{best_among, found_in}
use Rattle.fr_world.proofs.proposal.rooms.Rooms.fittest.Given as goal

-- the fittest of the rooms before
abbrev pub invariant-loop-room : goal.invariant-loop-room
invariant-loop-room l = option_map rated_of l.found ≡ best_among (map found_in (take l.room-index l.room-items))
