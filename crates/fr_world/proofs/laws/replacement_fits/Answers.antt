use Rattle.fr_world.proofs.BookFits.{replacement-fits}
use Rattle.fr_world.proofs.laws.replacement_fits.Goals as goal

pub returns : goal.returns
returns c = replacement-fits
