use Rattle.fr_base.proofs.SoundLaws.{one_frame}
use Rattle.fr_base.proofs.laws.one_frame_in_a_cell.Goals as goal

pub returns : goal.returns
returns c = λ cluster b name v k l f g q r cell sound there x y. one_frame cluster b sound name v there k l f g q r cell x y
