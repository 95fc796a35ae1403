use Rattle.std.proofs.Common.{◌≡◌, ◌∙◌, ap, sym}
use Rattle.fr_guide.specs.RefusalNumbers.{named_in, numbered, pairs_of}
use Rattle.fr_guide.proofs.RefusalNumberLaws.{named_found, named_missing}
use Rattle.fr_guide.proofs.refusal_numbers.meant_word.Goals as goal

pub returns-in-Some : goal.returns-in-Some
returns-in-Some c =
    let rows : pairs_of c.rows.result ≡ numbered = c.rows.ensures in
    sym (named_found c.args.word.now c.rows.result c.in-Some.row.now (sym c.in-Some.ensures)) ∙ ap (λ l. named_in l c.args.word.now) rows

pub returns-in-None : goal.returns-in-None
returns-in-None c =
    let rows : pairs_of c.rows.result ≡ numbered = c.rows.ensures in
    sym (named_missing c.args.word.now c.rows.result (sym c.in-None.ensures)) ∙ ap (λ l. named_in l c.args.word.now) rows
