use Rattle.fr_links.proofs.Connecting.{same}
use Rattle.fr_links.proofs.held.Held.move_on.Goals as goal

pub returns-in-Asking-clause-moved : goal.returns-in-Asking-clause-moved
returns-in-Asking-clause-moved g c = same _ _ _ _

pub returns-in-Ready-clause-moved : goal.returns-in-Ready-clause-moved
returns-in-Ready-clause-moved g c = same _ _ _ _
