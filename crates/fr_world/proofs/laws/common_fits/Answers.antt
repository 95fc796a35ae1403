use Rattle.fr_world.proofs.BookFits.{common-fits}
use Rattle.fr_world.proofs.laws.common_fits.Goals as goal

pub returns : goal.returns
returns c = common-fits
