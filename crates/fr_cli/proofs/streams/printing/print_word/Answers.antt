use Rattle.std.proofs.Common.{◌≡◌, ◌∙◌, [], ◌∷◌, ◌++◌, Err, Ok, rules, subst, sym}
use Rattle.std.specs.Prelude.{OnErr, OnOk, codes}
use Rattle.std.specs.Io.KnownBytes.{Appends}
use Rattle.std.proofs.KnownBytes.{Appends-trans}
use Rattle.std.proofs.lemmas.Result.{on_err_weaker, on_ok_weaker}
use Rattle.fr_text.specs.Writing.{IsWriting}
use Rattle.fr_text.specs.declared.output.TheConstants.{WRITE_RETRIES}
use Rattle.fr_cli.specs.Endings.{word_line, word_pieces}
use Rattle.fr_cli.specs.Outlets.{AppendsLess, IsWritten}
use Rattle.fr_cli.proofs.EndingLaws.{less-after, less-before, less-of, less-taken, piece-cut, piece-last, piece-then, written-cut, written-from}
use Rattle.fr_cli.proofs.VisitLaws.{sink}
use Rattle.fr_cli.proofs.streams.printing.print_word.Goals as goal

pub returns-in_err-write_all : goal.returns-in_err-write_all
returns-in_err-write_all g c =
    let word = c.args.word.now in
    let contents = g.W.Write.contents in
    let old = c.new-output.result.writer.now in
    let new = c.write_all.new.self.writer.now in
    let why = c.in_err-write_all.field-0.0 in
    let is : c.from_residual.result ≡ Err why = search rules in
    let failed : c.write_all.result ≡ Err why = search rules in
    subst (λ last. IsWritten (sink g.W.Write g.W.Sink) (word_line word) (word_pieces word) c.args.writer.now last c.from_residual.result) (search rules)
    (written-cut (sink g.W.Write g.W.Sink) (word_line word) (word_pieces word) c.args.writer.now new c.from_residual.result why is
    (subst (λ o. AppendsLess (contents o) (contents new) (word_line word)) c.new-output.ensures.holds
    (less-before (contents old) (contents new) (codes "slotplan: ") (word ++ codes "\n") (less-taken (contents old) (contents new) (codes "slotplan: ") c.in_err-write_all.ensures.err)))
    (written-from g.W.Sink.writes c.args.writer.now old new WRITE_RETRIES c.new-output.result.retries (word_pieces word) c.from_residual.result c.new-output.ensures.holds c.new-output.ensures.retries
    (piece-cut g.W.Sink.writes old new c.new-output.result.retries c.write_all.new.self.retries (codes "slotplan: ") (word ∷ codes "\n" ∷ []) c.write_all.result c.from_residual.result why failed (is ∙ sym failed) c.write_all.ensures.writing)))

pub returns-in_err-write_all-2 : goal.returns-in_err-write_all-2
returns-in_err-write_all-2 g c =
    let word = c.args.word.now in
    let contents = g.W.Write.contents in
    let old = c.new-output.result.writer.now in
    let mid = c.write_all.new.self.writer.now in
    let new = c.write_all-2.new.self.writer.now in
    let why = c.in_err-write_all-2.field-0.0 in
    let put : c.write_all.result ≡ Ok tt = search rules in
    let is : c.from_residual-in_err-write_all-2.result ≡ Err why = search rules in
    let failed : c.write_all-2.result ≡ Err why = search rules in
    let bytes = c.as_bytes.ensures.value in
    subst (λ last. IsWritten (sink g.W.Write g.W.Sink) (word_line word) (word_pieces word) c.args.writer.now last c.from_residual-in_err-write_all-2.result) (search rules)
    (written-cut (sink g.W.Write g.W.Sink) (word_line word) (word_pieces word) c.args.writer.now new c.from_residual-in_err-write_all-2.result why is
    (subst (λ o. AppendsLess (contents o) (contents new) (word_line word)) c.new-output.ensures.holds
    (less-after (contents old) (contents mid) (contents new) (codes "slotplan: ") (word ++ codes "\n") c.in_ok-write_all.ensures.ok
    (less-before (contents mid) (contents new) word (codes "\n")
    (subst (λ text. AppendsLess (contents mid) (contents new) text) bytes (less-taken (contents mid) (contents new) c.as_bytes.result.now c.in_err-write_all-2.ensures.err)))))
    (written-from g.W.Sink.writes c.args.writer.now old new WRITE_RETRIES c.new-output.result.retries (word_pieces word) _ c.new-output.ensures.holds c.new-output.ensures.retries
    (piece-then g.W.Sink.writes old mid new c.new-output.result.retries c.write_all.new.self.retries (codes "slotplan: ") (word ∷ codes "\n" ∷ []) c.write_all.result _ tt put c.write_all.ensures.writing
    (piece-cut g.W.Sink.writes mid new c.write_all.new.self.retries c.write_all-2.new.self.retries word (codes "\n" ∷ []) c.write_all-2.result c.from_residual-in_err-write_all-2.result why failed (is ∙ sym failed)
    (subst (λ text. IsWriting g.W.Sink.writes (record { writer = mid; retries = c.write_all.new.self.retries; rest = text }) c.write_all-2.result new c.write_all-2.new.self.retries) bytes
    c.write_all-2.ensures.writing)))))

pub returns : goal.returns
returns g c =
    let word = c.args.word.now in
    let contents = g.W.Write.contents in
    let old = c.new-output.result.writer.now in
    let mid = c.write_all.new.self.writer.now in
    let last = c.write_all-2.new.self.writer.now in
    let new = c.write_all-3.new.self.writer.now in
    let put : c.write_all.result ≡ Ok tt = search rules in
    let then : c.write_all-2.result ≡ Ok tt = search rules in
    let bytes = c.as_bytes.ensures.value in
    let middle = subst (λ text. Appends (contents mid) (contents last) text) bytes c.in_ok-write_all-2.ensures.ok in
    let said : IsWritten (sink g.W.Write g.W.Sink) (word_line word) (word_pieces word) c.args.writer.now new c.write_all-3.result = record {
      whole = subst (λ o. OnOk c.write_all-3.result (Appends (contents o) (contents new) (word_line word))) c.new-output.ensures.holds
          (on_ok_weaker c.write_all-3.result (λ end. Appends-trans (contents old) (contents mid) (contents new) (codes "slotplan: ") (word ++ codes "\n") c.in_ok-write_all.ensures.ok
          (Appends-trans (contents mid) (contents last) (contents new) word (codes "\n") middle end))
          c.write_all-3.ensures.ok);
      less = subst (λ o. OnErr c.write_all-3.result (AppendsLess (contents o) (contents new) (word_line word))) c.new-output.ensures.holds
          (on_err_weaker c.write_all-3.result (λ less. less-after (contents old) (contents mid) (contents new) (codes "slotplan: ") (word ++ codes "\n") c.in_ok-write_all.ensures.ok
          (less-after (contents mid) (contents last) (contents new) word (codes "\n") middle less))
          (less-of c.write_all-3.result (contents last) (contents new) (codes "\n") c.write_all-3.ensures.err));
      made = written-from g.W.Sink.writes c.args.writer.now old new WRITE_RETRIES c.new-output.result.retries (word_pieces word) c.write_all-3.result
          c.new-output.ensures.holds c.new-output.ensures.retries
          (piece-then g.W.Sink.writes old mid new c.new-output.result.retries c.write_all.new.self.retries (codes "slotplan: ") (word ∷ codes "\n" ∷ []) c.write_all.result _ tt put c.write_all.ensures.writing
          (piece-then g.W.Sink.writes mid last new c.write_all.new.self.retries c.write_all-2.new.self.retries word (codes "\n" ∷ []) c.write_all-2.result _ tt then
          (subst (λ text. IsWriting g.W.Sink.writes (record { writer = mid; retries = c.write_all.new.self.retries; rest = text }) c.write_all-2.result last c.write_all-2.new.self.retries) bytes
          c.write_all-2.ensures.writing)
          (piece-last g.W.Sink.writes last new c.write_all-2.new.self.retries c.write_all-3.new.self.retries (codes "\n") c.write_all-3.result c.write_all-3.ensures.writing)));
    } in
    subst (λ last. IsWritten (sink g.W.Write g.W.Sink) (word_line word) (word_pieces word) c.args.writer.now last c.write_all-3.result) (search rules) said
