use Rattle.std.proofs.Common.{sym}
use Rattle.std.proofs.lemmas.Result.{on_ok_weaker}
use Rattle.fr_text.specs.Styles.{set_in}
use Rattle.fr_text.proofs.WordsLemmas.{adds}
use Rattle.fr_text.proofs.answer_text.push_report.Goals as goal

pub returns-clause-ok : goal.returns-clause-ok
unfolding set_in
returns-clause-ok c =
    let two = adds c.args.out.now.items _ _ _ _ c.in_ok-push.ensures.ok c.in_ok-push_lines.ensures.ok in
    let three = adds c.args.out.now.items _ _ _ _ two c.in_ok-push-2.ensures.ok in
    let four = adds c.args.out.now.items _ _ _ _ three c.in_ok-push_quoted.ensures.ok in
    let last = on_ok_weaker c.push-3.result (λ last. adds c.args.out.now.items _ _ _ _ four last) c.push-3.ensures.ok in
    rw (sym c.name.ensures) last
