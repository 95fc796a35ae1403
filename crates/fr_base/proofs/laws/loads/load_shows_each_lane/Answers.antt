use Rattle.fr_base.proofs.LaneLaws.{each-shown}
use Rattle.fr_base.proofs.laws.loads.load_shows_each_lane.Goals as goal

pub returns : goal.returns
returns c = each-shown
