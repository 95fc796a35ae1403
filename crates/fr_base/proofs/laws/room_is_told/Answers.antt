use Rattle.fr_base.proofs.RoomSteps.{room_is_told}
use Rattle.fr_base.proofs.laws.room_is_told.Goals as goal

pub returns : goal.returns
returns c = room_is_told
