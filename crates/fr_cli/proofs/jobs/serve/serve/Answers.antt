use Rattle.std.proofs.Common.{ap, rules}
use Rattle.fr_cli.specs.Visits.{comings}
use Rattle.fr_cli.proofs.ServingLaws.{served_over}
use Rattle.fr_cli.proofs.VisitLaws.{sink, source}
use Rattle.fr_cli.proofs.jobs.serve.serve.Goals as goal

pub returns-clause-served : goal.returns-clause-served
returns-clause-served g c =
    let came = λ (now : _). comings g.L.Listener (source g.L.Reader.Read g.L.Reader.Source) (sink g.L.Writer.Write g.L.Writer.Sink) c.args.listener.now now in
    let it = c.run_task.new.task in
    served_over c.args.service came (sink g.O.Write g.O.Sink) (sink g.E.Write g.E.Sink) {l = it.listener.now} {out = c.args.out.now} {out' = it.out.now} {a = c.args.err.now} {b = it.err.now}
    (search rules) (search rules) (search rules)
    (λ same. (ap (λ e. e.listener.now) same, ap (λ e. e.out.now) same, ap (λ e. e.err.now) same)) c.run_task.ensures.done
