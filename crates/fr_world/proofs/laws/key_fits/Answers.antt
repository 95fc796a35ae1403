use Rattle.fr_world.proofs.JoiningLaws.{key-fits}
use Rattle.fr_world.proofs.laws.key_fits.Goals as goal

pub returns : goal.returns
returns c = key-fits
