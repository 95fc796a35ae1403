use Rattle.fr_base.proofs.FateLaws.{lines-in_turn}
use Rattle.fr_base.proofs.laws.fates.lines_are_in_turn.Goals as goal

pub returns : goal.returns
returns c = lines-in_turn
