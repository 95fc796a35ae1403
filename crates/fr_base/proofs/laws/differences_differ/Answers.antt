use Rattle.fr_base.proofs.DifferenceLaws.{differences-differ}
use Rattle.fr_base.proofs.laws.differences_differ.Goals as goal

pub returns : goal.returns
returns c = differences-differ
