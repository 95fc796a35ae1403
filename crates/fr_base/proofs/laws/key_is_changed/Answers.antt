use Rattle.fr_base.proofs.OwnerLaws.{key-changed}
use Rattle.fr_base.proofs.laws.key_is_changed.Goals as goal

pub returns : goal.returns
returns c = λ cluster b actor s old new sound had. key-changed cluster b sound s old new had actor
