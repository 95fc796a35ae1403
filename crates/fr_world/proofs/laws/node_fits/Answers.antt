use Rattle.fr_world.proofs.BookFits.{node-fits}
use Rattle.fr_world.proofs.laws.node_fits.Goals as goal

pub returns : goal.returns
returns c = node-fits
