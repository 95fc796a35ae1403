use Rattle.fr_base.proofs.RoomLaws.{room-refused}
use Rattle.fr_base.proofs.laws.room_is_refused.Goals as goal

pub returns : goal.returns
returns c = room-refused
