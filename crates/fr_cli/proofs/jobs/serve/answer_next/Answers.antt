use Rattle.fr_cli.proofs.ServingLaws.{serves_stay, tells_one}
use Rattle.fr_cli.proofs.VisitLaws.{sink}
use Rattle.fr_cli.proofs.jobs.serve.answer_next.Goals as goal

pub returns-in-Ok-clause-served : goal.returns-in-Ok-clause-served
returns-in-Ok-clause-served g c =
    let (visit, is, came, serves) = c.in-Ok.ensures.served in (
      visit,
      came,
      serves_stay _ _ _ _ _ visit c.lasts.ensures.falls c.lasts.ensures.stays serves,
      tells_one (sink g.E.Write g.E.Sink) _ _ visit c.in-Ok.done is c.tell_end.ensures.told,
    )
