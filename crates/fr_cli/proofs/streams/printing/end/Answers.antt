use Rattle.std.proofs.Common.{subst, sym}
use Rattle.fr_cli.specs.Endings.{Tells, word_line, word_pieces}
use Rattle.fr_cli.specs.Outlets.{IsWritten}
use Rattle.fr_cli.proofs.VisitLaws.{sink}
use Rattle.fr_cli.proofs.streams.printing.end.Goals as goal

pub returns-in-Err-clause-tells : goal.returns-in-Err-clause-tells
returns-in-Err-clause-tells g c =
    let to = sink g.E.Write g.E.Sink in
    let old = c.args.err.now in
    let new = c.print_word.new.writer in
    let done = c.print_word.result in
    subst (Tells to old new) (sym c.in-Err.is) (done, subst (λ word. IsWritten to (word_line word) (word_pieces word) old new done) c.word.ensures c.print_word.ensures)
