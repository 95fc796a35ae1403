use Rattle.fr_base.proofs.RoomOrder.{told_room_is_in_order}
use Rattle.fr_base.proofs.laws.told_room_is_in_order.Goals as goal

pub returns : goal.returns
returns c = told_room_is_in_order
