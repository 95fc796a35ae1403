use Rattle.fr_base.proofs.SoundLaws.{fronts}
use Rattle.fr_base.proofs.laws.run_is_sound_throughout.Goals as goal

pub returns : goal.returns
returns c = fronts
