use Rattle.fr_world.proofs.ReplacementsDecide.{replacement-decides}
use Rattle.fr_world.proofs.laws.replacement_decides.Goals as goal

pub returns : goal.returns
returns c = replacement-decides
