use Rattle.fr_world.proofs.AgreeLaws.{others-stay}
use Rattle.fr_world.proofs.laws.others_stay.Goals as goal

pub returns : goal.returns
returns c = others-stay
