use Rattle.std.proofs.Common.{◌≡◌, ◌++◌, drop, map, take}
use Rattle.fr_world.specs.Proposals.{renewed_room}
use Rattle.fr_world.proofs.proposal.rooms.Rooms.renew.Given as goal

-- the rooms before were looked at
abbrev pub invariant-loop-room : goal.invariant-loop-room
invariant-loop-room l = l.room-items ≡ map (renewed_room l.fresh) (take l.room-index l.initial.room-items) ++ drop l.room-index l.initial.room-items
