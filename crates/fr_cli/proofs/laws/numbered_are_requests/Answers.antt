use Rattle.fr_cli.proofs.NumberedLaws.{numbered-requests}
use Rattle.fr_cli.proofs.laws.numbered_are_requests.Goals as goal

pub returns : goal.returns
returns c = numbered-requests
