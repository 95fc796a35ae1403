use Rattle.fr_base.proofs.SoundLaws.{run-sound}
use Rattle.fr_base.proofs.laws.run_keeps_sound.Goals as goal

pub returns : goal.returns
returns c = run-sound
