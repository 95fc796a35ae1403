use Rattle.fr_base.proofs.RoomLaws.{room-alone}
use Rattle.fr_base.proofs.laws.room_is_alone.Goals as goal

pub returns : goal.returns
returns c = room-alone
