use Rattle.fr_desks.proofs.SessionLaws.{sessions_are_kept}
use Rattle.fr_desks.proofs.laws.sessions_are_kept.Goals as goal

pub returns : goal.returns
returns c = sessions_are_kept
