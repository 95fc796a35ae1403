use Rattle.fr_cli.proofs.SingleRequestLaws.{leads_on, told_prints}
use Rattle.fr_cli.proofs.jobs.single_request.change.Goals as goal
use Rattle.fr_cli.specs.SingleRequest.{IsAnswer, asked_with}

pub returns-clause-prints : goal.returns-clause-prints
returns-clause-prints g c =
    told_prints
    (IsAnswer (asked_with c.args.key.now c.args.request) (g.D.Desk.clean c.ask_by-answer.new.desk) (g.D.Desk.stands c.args.desk.now) (g.D.Desk.stands c.ask_by-answer.new.desk))
    c.ask_by-answer.result c.tell_answer.result c.ask_by-answer.ensures.does c.tell_answer.ensures

pub returns-clause-leads : goal.returns-clause-leads
returns-clause-leads g c = leads_on _ _ _ (asked_with c.args.key.now c.args.request) c.ask_by-answer.result c.ask_by-answer.ensures.does
