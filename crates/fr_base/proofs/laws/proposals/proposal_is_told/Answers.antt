use Rattle.fr_base.proofs.ProposalAnswers.{is-told}
use Rattle.fr_base.proofs.laws.proposals.proposal_is_told.Goals as goal

pub returns : goal.returns
returns c = is-told
