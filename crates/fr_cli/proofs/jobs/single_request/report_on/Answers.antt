use Rattle.fr_cli.proofs.SingleRequestLaws.{asks_same, query_stays, told_prints}
use Rattle.fr_cli.proofs.jobs.single_request.report_on.Goals as goal
use Rattle.fr_cli.specs.SingleRequest.{IsAnswer, IsForReader, query_of}

pub returns-clause-prints : goal.returns-clause-prints
returns-clause-prints g c =
    let is : IsAnswer (query_of c.args.query) (g.D.Desk.clean c.ask_as-given.new.desk) (g.D.Desk.stands c.args.desk.now)
    (g.D.Desk.stands c.ask_as-given.new.desk) c.ask_as-given.result =
    asks_same _ _ _ _ _ _ _ _ c.reader.ensures c.in_ok-request.ensures c.ask_as-given.ensures.does in
    told_prints
    (IsForReader (IsAnswer (query_of c.args.query) (g.D.Desk.clean c.ask_as-given.new.desk) (g.D.Desk.stands c.args.desk.now) (g.D.Desk.stands c.ask_as-given.new.desk)))
    c.for_reader.result c.tell_answer.result (c.ask_as-given.result, is, c.for_reader.ensures) c.tell_answer.ensures

pub returns-clause-stays : goal.returns-clause-stays
returns-clause-stays g c =
    let is : IsAnswer (query_of c.args.query) (g.D.Desk.clean c.ask_as-given.new.desk) (g.D.Desk.stands c.args.desk.now)
    (g.D.Desk.stands c.ask_as-given.new.desk) c.ask_as-given.result =
    asks_same _ _ _ _ _ _ _ _ c.reader.ensures c.in_ok-request.ensures c.ask_as-given.ensures.does in
    query_stays _ _ _ c.args.query c.ask_as-given.result is
