use Rattle.fr_base.proofs.LaneLaws.{own_lanes-shown}
use Rattle.fr_base.proofs.laws.loads.load_shows_own_lanes.Goals as goal

pub returns : goal.returns
returns c = own_lanes-shown
