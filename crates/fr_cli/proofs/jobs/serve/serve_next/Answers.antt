use Rattle.std.proofs.Common.{refl}
use Rattle.fr_cli.specs.Visits.{IsVisited}
use Rattle.fr_cli.proofs.ServingLaws.{serves_connection, visit_on}
use Rattle.fr_cli.proofs.VisitLaws.{sink, source}
use Rattle.fr_cli.proofs.jobs.serve.serve_next.Goals as goal

pub returns-clause-served : goal.returns-clause-served
returns-clause-served g c =
    let one = c.serve_one-done.ensures.served in
    let visit = visit_on _ _ _ _ _ _ _ c.serve_one-done.result one in
    let visited : IsVisited g.L.Listener (source g.L.Reader.Read g.L.Reader.Source) (sink g.L.Writer.Write g.L.Writer.Sink) c.args.seconds c.args.listener.now visit c.close.new.self = record {
      input = c.in_ok-reader.reader;
      output = c.in_ok-reader.writer;
      between = c.accept.new.self;
      input_left = c.serve_one-done.new.reader;
      output_made = c.serve_one-done.new.writer;
      accepted = c.in_ok-reader.ensures.ok;
      consumed = one.consumed;
      appended = one.appended;
      bound = one.bound;
      within = c.serve_one-done.ensures.reads;
      truncated = one.truncated;
      silent = one.silent;
      flushed = c.serve_one-done.ensures.flushed;
      failed = c.serve_one-done.ensures.failed;
      closed = c.close.ensures;
    } in
    (visit, refl, visited, serves_connection _ _ _ _ _ _ _ c.serve_one-done.result one)
