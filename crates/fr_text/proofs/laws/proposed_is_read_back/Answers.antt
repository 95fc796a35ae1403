use Rattle.fr_text.proofs.ProposalFileLaws.{proposed_is_read_back}
use Rattle.fr_text.proofs.laws.proposed_is_read_back.Goals as goal

pub returns : goal.returns
returns c = proposed_is_read_back
