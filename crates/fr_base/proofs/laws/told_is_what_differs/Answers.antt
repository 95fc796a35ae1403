use Rattle.fr_base.proofs.DifferenceRows.{what_differs}
use Rattle.fr_base.proofs.laws.told_is_what_differs.Goals as goal

pub returns : goal.returns
returns c = what_differs
