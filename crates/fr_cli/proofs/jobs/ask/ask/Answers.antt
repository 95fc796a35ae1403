use Rattle.std.proofs.Common.{ap, rules}
use Rattle.fr_cli.proofs.RequestStreamLaws.{asked_over}
use Rattle.fr_cli.proofs.VisitLaws.{sink}
use Rattle.fr_cli.proofs.jobs.ask.ask.Goals as goal

pub returns-clause-asked : goal.returns-clause-asked
returns-clause-asked g c =
    let it = c.run_task.new.task in
    let input = g.I.Read.remaining in
    asked_over c.args.numbered (sink g.O.Write g.O.Sink) {input = input c.args.input.now} {left = input it.input.now} {a = c.args.out.now} {b = it.out.now} (search rules) (search rules)
    (λ same. (ap (λ e. input e.input.now) same, ap (λ e. e.out.now) same)) c.run_task.ensures.done
