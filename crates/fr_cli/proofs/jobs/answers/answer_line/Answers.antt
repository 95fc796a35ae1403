use Rattle.std.proofs.Common.{rules}
use Rattle.fr_cli.proofs.AnsweredLineLaws.{line_asks, line_refused}
use Rattle.fr_cli.proofs.jobs.answers.answer_line.Goals as goal

pub returns-in-Ok-clause-answers : goal.returns-in-Ok-clause-answers
returns-in-Ok-clause-answers g c = record {
  does = λ clean.
      let stands = g.D.Desk.stands in
      line_asks (stands c.args.desk.now) (stands c.ask.new.self) c.args.line.now c.in-Ok.ask c.ask.result c.in-Ok.ensures
      (c.ask.ensures.answered clean);
  falls = c.ask.ensures.falls;
}

pub returns-in-Err : goal.returns-in-Err
returns-in-Err g c = record {
  answers = record {
    does = λ _. line_refused (g.D.Desk.stands c.args.desk.now) c.args.line.now c.in-Err.refusal (search rules) c.in-Err.ensures;
    falls = λ clean. clean;
  };
  fault = tt;
}
