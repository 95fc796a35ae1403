use Rattle.std.proofs.Common.{subst, sym}
use Rattle.fr_cli.specs.Endings.{word_line, word_pieces}
use Rattle.fr_cli.specs.Outlets.{IsWritten}
use Rattle.fr_cli.specs.Serving.{TellsEnd}
use Rattle.fr_cli.proofs.VisitLaws.{sink}
use Rattle.fr_cli.proofs.jobs.serve.tell_end.Goals as goal

pub returns-in-Err : goal.returns-in-Err
returns-in-Err g c =
    let to = sink g.E.Write g.E.Sink in
    let old = c.args.err.now in
    let new = c.print_word.new.writer in
    let done = c.print_word.result in
    record {
      told = subst (TellsEnd to old new) (sym c.in-Err.is)
          (done, subst (λ word. IsWritten to (word_line word) (word_pieces word) old new done) c.link_word.ensures c.print_word.ensures);
    }
