use Rattle.fr_base.proofs.CertainLaws.{certain}
use Rattle.fr_base.proofs.laws.proposals.no_room_is_certain.Goals as goal

pub returns : goal.returns
returns c = certain
