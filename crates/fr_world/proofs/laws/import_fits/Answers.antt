use Rattle.fr_world.proofs.BookFits.{import-fits}
use Rattle.fr_world.proofs.laws.import_fits.Goals as goal

pub returns : goal.returns
returns c = import-fits
