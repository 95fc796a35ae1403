use Rattle.std.proofs.Common.{arith}
use Rattle.fr_office.proofs.ShownReplies.{shows_grants}
use Rattle.fr_office.proofs.queries.grants.show_grants.Goals as goal

pub returns : goal.returns
returns g c = grind (arith, shows_grants)
