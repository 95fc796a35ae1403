use Rattle.fr_world.proofs.JoiningLaws.{joining-fits}
use Rattle.fr_world.proofs.laws.joining_fits.Goals as goal

pub returns : goal.returns
returns c = joining-fits
