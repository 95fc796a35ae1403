use Rattle.fr_base.proofs.RefusedRooms.{no_room-released}
use Rattle.fr_base.proofs.laws.rooms.no_room_where_released.Goals as goal

pub returns : goal.returns
returns c = no_room-released
