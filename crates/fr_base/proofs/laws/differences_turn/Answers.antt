use Rattle.fr_base.proofs.DifferenceLaws.{differences-turned}
use Rattle.fr_base.proofs.laws.differences_turn.Goals as goal

pub returns : goal.returns
returns c = differences-turned
