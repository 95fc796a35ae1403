use Rattle.fr_base.proofs.TakenLaws.{taken_is_sent}
use Rattle.fr_base.proofs.laws.taken_is_sent.Goals as goal

pub returns : goal.returns
returns c = taken_is_sent
