use Rattle.std.proofs.Common.{refl}
use Rattle.fr_office.specs.Crashed.{StandsKept}
use Rattle.fr_cli.proofs.SingleRequestLaws.{leads_nowhere}
use Rattle.fr_cli.specs.Deliveries.{request_with}
use Rattle.fr_cli.specs.SingleRequest.{asked_with}
use Rattle.fr_cli.proofs.jobs.print_task.PrintTaskRegisterTask.carry_out.Goals as goal

pub returns-in-Report-clause-does : goal.returns-in-Report-clause-does
returns-in-Report-clause-does g c = rw c.in-Report.is (c.report_on-done.ensures.prints, c.report_on-done.ensures.stays)

pub returns-in-Picture-clause-does : goal.returns-in-Picture-clause-does
returns-in-Picture-clause-does g c = rw c.in-Picture.is (c.picture-done.ensures.prints, c.picture-done.ensures.stays)

pub returns-in-Ok-clause-does : goal.returns-in-Ok-clause-does
returns-in-Ok-clause-does g c = rw (c.in-Answer.is, ← c.in-Ok.ensures) (c.change-done.ensures.prints, c.change-done.ensures.leads)

pub returns-in-Err-clause-does : goal.returns-in-Err-clause-does
returns-in-Err-clause-does g c = rw c.in-Answer.is (
  refl,
  leads_nowhere (g.G.Records.Records.clean c.args.office.records) (StandsKept g.G.Records.Records.stands g.G.Records.Records.leaves c.args.office)
      (asked_with c.in-Answer.key.now (request_with c.in-Answer.delivery c.in-Answer.body.now)),
)
