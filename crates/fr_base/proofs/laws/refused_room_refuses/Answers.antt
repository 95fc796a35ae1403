use Rattle.fr_base.proofs.RoomSteps.{refused_room_refuses}
use Rattle.fr_base.proofs.laws.refused_room_refuses.Goals as goal

pub returns : goal.returns
returns c = refused_room_refuses
