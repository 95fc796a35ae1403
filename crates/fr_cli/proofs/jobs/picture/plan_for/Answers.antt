use Rattle.fr_cli.proofs.PicturingLaws.{plan_nobody, plan_somebody}
use Rattle.fr_cli.proofs.jobs.picture.plan_for.Goals as goal

pub returns-in-Some : goal.returns-in-Some
returns-in-Some g c = record {
  does = plan_somebody _ _ _ _ _ _ _ _ c.in-Some.is c.read_plan.ensures.reads;
  falls = c.read_plan.ensures.falls;
}

pub returns-in-None : goal.returns-in-None
returns-in-None g c = record {
  does = plan_nobody _ _ _ _ _ c.in-None.is;
  falls = λ clean. clean;
}
