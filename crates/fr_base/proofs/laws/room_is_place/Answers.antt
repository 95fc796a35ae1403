use Rattle.fr_base.proofs.RoomLaws.{room-place}
use Rattle.fr_base.proofs.laws.room_is_place.Goals as goal

pub returns : goal.returns
returns c = room-place
