-- So many connections came in and were served, one after another, and the ends of those that failed were told.
use Rattle.std.proofs.Common.{◌≡◌, List, length}
use Rattle.fr_cli.specs.Serving.{ServesEach, TellsEach}
use Rattle.fr_cli.specs.Visits.{AreVisited, Visit}
use Rattle.fr_cli.proofs.VisitLaws.{sink, source}
use Rattle.fr_cli.proofs.jobs.serve.answer_all.Given as goal

abbrev pub invariant-loop : goal.invariant-loop
invariant-loop g l = record {
  falls : g.D.Desk.clean l.desk → g.D.Desk.clean l.fn.desk;
  visits : List Visit;
  each : length visits ≡ l.counter;
  came_in : AreVisited g.L.Listener (source g.L.Reader.Read g.L.Reader.Source) (sink g.L.Writer.Write g.L.Writer.Sink) l.service.seconds l.fn.listener visits l.listener;
  served : ServesEach g.D.Desk.clean g.D.Desk.stands l.fn.desk l.desk visits;
  told : TellsEach (sink g.E.Write g.E.Sink) l.fn.err l.err visits;
}
