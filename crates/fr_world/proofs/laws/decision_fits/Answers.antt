use Rattle.fr_world.proofs.BookFits.{decision-fits}
use Rattle.fr_world.proofs.laws.decision_fits.Goals as goal

pub returns : goal.returns
returns c = decision-fits
