use Rattle.fr_base.proofs.DifferenceRows.{not_gone_and_new}
use Rattle.fr_base.proofs.laws.nothing_is_gone_and_new.Goals as goal

pub returns : goal.returns
returns c = not_gone_and_new
