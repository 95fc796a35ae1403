use Rattle.fr_guide.proofs.RequestLaws.{misformed_requests}
use Rattle.fr_guide.proofs.laws.misformed_requests_are_refused.Goals as goal

pub returns : goal.returns
returns c = misformed_requests
