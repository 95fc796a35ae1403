use Rattle.fr_base.proofs.RoomSteps.{told_room_is_place}
use Rattle.fr_base.proofs.laws.told_room_is_place.Goals as goal

pub returns : goal.returns
returns c = told_room_is_place
