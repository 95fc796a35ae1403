use Rattle.std.proofs.Common.{arith}
use Rattle.fr_office.proofs.ShownReplies.{shows_schedule}
use Rattle.fr_office.proofs.queries.schedule.show_schedule.Goals as goal

pub returns : goal.returns
returns g c = grind (arith, shows_schedule)
