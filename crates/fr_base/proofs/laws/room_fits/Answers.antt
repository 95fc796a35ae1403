use Rattle.fr_base.proofs.RoomLaws.{room-fits}
use Rattle.fr_base.proofs.laws.room_fits.Goals as goal

pub returns : goal.returns
returns c = room-fits
