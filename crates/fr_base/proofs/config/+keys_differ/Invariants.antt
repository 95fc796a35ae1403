use Rattle.std.proofs.Common.{length}
use Rattle.fr_base.proofs.config.+keys_differ.Given as goal

abbrev pub decreases-keys_differ : goal.decreases-keys_differ
decreases-keys_differ l = length l.suppliers.now
