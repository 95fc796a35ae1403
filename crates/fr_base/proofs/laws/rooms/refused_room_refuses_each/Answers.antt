use Rattle.fr_base.proofs.RefusedRooms.{refused_room-refuses}
use Rattle.fr_base.proofs.laws.rooms.refused_room_refuses_each.Goals as goal

pub returns : goal.returns
returns c = refused_room-refuses
