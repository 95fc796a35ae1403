use Rattle.fr_base.proofs.KeptLaws.{nothing_moves}
use Rattle.fr_base.proofs.laws.proposals.nothing_moves_that_need_not.Goals as goal

pub returns : goal.returns
returns c = nothing_moves
