use Rattle.std.proofs.Common.{length}
use Rattle.fr_guide.proofs.place.supplier.+first_pair.Given as goal

abbrev pub decreases-first_pair : goal.decreases-first_pair
decreases-first_pair l = length l.owners.now
