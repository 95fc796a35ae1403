use Rattle.fr_base.proofs.AcceptedLaws.{accepted}
use Rattle.fr_base.proofs.laws.proposals.proposal_is_imported.Goals as goal

pub returns : goal.returns
returns c = accepted
