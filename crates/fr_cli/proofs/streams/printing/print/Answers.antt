use Rattle.std.proofs.Common.{[], ◌∷◌, rules, subst}
use Rattle.std.specs.Prelude.{OnErr, OnOk}
use Rattle.std.specs.Io.KnownBytes.{Appends}
use Rattle.fr_text.specs.declared.output.TheConstants.{WRITE_RETRIES}
use Rattle.fr_cli.specs.Outlets.{AppendsLess, IsPut, outlet}
use Rattle.fr_cli.proofs.EndingLaws.{less-of, piece-last, written-from}
use Rattle.fr_cli.proofs.VisitLaws.{sink}
use Rattle.fr_cli.proofs.streams.printing.print.Goals as goal

pub returns : goal.returns
returns g c =
    let contents = g.W.Write.contents in
    let text = c.args.text.now in
    let done = c.write_all.result in
    let old = c.new.result.writer.now in
    let new = c.write_all.new.self.writer.now in
    let put : IsPut (outlet (sink g.W.Write g.W.Sink) c.args.writer.now new) text done = record {
      whole = subst (λ w. OnOk done (Appends (contents w) (contents new) text)) c.new.ensures.holds c.write_all.ensures.ok;
      less = subst (λ w. OnErr done (AppendsLess (contents w) (contents new) text)) c.new.ensures.holds (less-of done (contents old) (contents new) text c.write_all.ensures.err);
      made = written-from g.W.Sink.writes c.args.writer.now old new WRITE_RETRIES c.new.result.retries (text ∷ []) done c.new.ensures.holds c.new.ensures.retries
          (piece-last g.W.Sink.writes old new c.new.result.retries c.write_all.new.self.retries text done c.write_all.ensures.writing);
    } in
    subst (λ last. IsPut (outlet (sink g.W.Write g.W.Sink) c.args.writer.now last) text done) (search rules) put
