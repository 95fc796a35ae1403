use Rattle.fr_base.proofs.WholeFiled.{whole_is_filed}
use Rattle.fr_base.proofs.laws.whole_is_filed.Goals as goal

pub returns : goal.returns
returns c = whole_is_filed
