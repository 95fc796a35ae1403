use Rattle.std.proofs.lemmas.Result.{on_ok_weaker}
use Rattle.fr_text.proofs.WordsLemmas.{adds}
use Rattle.fr_text.proofs.answer_text.push_replaced.Goals as goal

pub returns-clause-ok : goal.returns-clause-ok
returns-clause-ok c =
    let two = adds c.args.out.now.items _ _ _ _ c.in_ok-push.ensures.ok c.in_ok-push_decimal.ensures.ok in
    on_ok_weaker c.push-2.result (λ last. adds c.args.out.now.items _ _ _ _ two last) c.push-2.ensures.ok
