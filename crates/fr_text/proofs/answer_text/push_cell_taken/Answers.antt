use Rattle.std.proofs.lemmas.Result.{on_ok_weaker}
use Rattle.fr_text.specs.AnswerText.{text_of_refusal}
use Rattle.fr_text.proofs.WordsLemmas.{adds}
use Rattle.fr_text.proofs.answer_text.push_cell_taken.Goals as goal

pub returns-clause-ok : goal.returns-clause-ok
unfolding text_of_refusal
returns-clause-ok c =
    let two = adds c.args.out.now.items _ _ _ _ c.in_ok-push.ensures.ok (rw c.as_str.ensures at c.in_ok-push_quoted.ensures.ok) in
    let three = adds c.args.out.now.items _ _ _ _ two c.in_ok-push-2.ensures.ok in
    let four = adds c.args.out.now.items _ _ _ _ three (rw c.from.ensures at c.in_ok-push_decimal.ensures.ok) in
    let five = adds c.args.out.now.items _ _ _ _ four c.in_ok-push-3.ensures.ok in
    let six = adds c.args.out.now.items _ _ _ _ five (rw c.as_str-2.ensures.value at c.in_ok-push_quoted-2.ensures.ok) in
    on_ok_weaker c.push-4.result (λ last. adds c.args.out.now.items _ _ _ _ six last) c.push-4.ensures.ok
