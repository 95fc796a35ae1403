use Rattle.fr_base.proofs.SoundLaws.{opening-sound}
use Rattle.fr_base.proofs.laws.opening_is_sound.Goals as goal

pub returns : goal.returns
returns c = opening-sound
