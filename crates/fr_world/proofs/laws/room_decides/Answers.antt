use Rattle.fr_world.proofs.RoomLaws.{room-decides}
use Rattle.fr_world.proofs.laws.room_decides.Goals as goal

pub returns : goal.returns
returns c = room-decides
