use Rattle.std.proofs.Common.{Err, refl}
use Rattle.fr_cli.proofs.AnsweredLineLaws.{told_guarded}
use Rattle.fr_cli.proofs.RequestStreamLaws.{answered_told, asked_none, unwatched_stops}
use Rattle.fr_cli.proofs.VisitLaws.{sink}
use Rattle.fr_cli.specs.Guarding.{office_of}
use Rattle.fr_cli.proofs.jobs.ask.AskTaskRegisterTask.carry_out.Goals as goal

pub returns-in-Ok-clause-does : goal.returns-in-Ok-clause-does
returns-in-Ok-clause-does g c =
    let answered = answered_told _ _ _ _ _ _ _ _ (told_guarded _ office_of _ _) c.answer_input-asked.ensures.answered in
    rw (c.into_office.ensures, ← c.new-guarded.ensures) (
      (c.answer_input-asked.result, c.of_script.ensures, c.answer_input-asked.ensures.end, c.answer_input-asked.ensures.stops, answered),
      (refl, refl),
    )

pub returns-in-Err-clause-does : goal.returns-in-Err-clause-does
returns-in-Err-clause-does g c =
    let input = g.I.Read.remaining c.args.self.now.input.now in
    let none = asked_none _ c.args.self.now.numbered c.args.office input (g.O.Write.contents c.args.self.now.out.now) c.in-Err.fault c.from.result c.from.ensures in
    let stopped = unwatched_stops (sink g.O.Write g.O.Sink) c.in-Err.fault c.from.result c.args.self.now.out.now c.from.ensures in
    ((Err c.from.result, c.of_script-in-Err.ensures, tt, stopped, none), (refl, refl))
