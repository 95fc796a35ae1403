use Rattle.fr_base.proofs.ReplacedLaws.{is_filed}
use Rattle.fr_base.proofs.laws.replaced_is_filed.Goals as goal

pub returns : goal.returns
returns c = is_filed
