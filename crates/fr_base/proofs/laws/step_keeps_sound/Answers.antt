use Rattle.fr_base.proofs.SoundSteps.{step-sound}
use Rattle.fr_base.proofs.laws.step_keeps_sound.Goals as goal

pub returns : goal.returns
returns c = λ cluster b actor request sound. step-sound cluster b sound actor request
