use Rattle.fr_base.proofs.SoundLaws.{holder}
use Rattle.fr_base.proofs.laws.holder_sends.Goals as goal

pub returns : goal.returns
returns c = λ cluster b name v k f q cell sound there x. holder cluster b sound name v there k f q cell x
