use Rattle.std.proofs.Common.{◌++◌, ap, ◌∙◌}
use Rattle.std.specs.Prelude.{decimal}
use Rattle.fr_text.proofs.WordsLemmas.{adds}
use Rattle.fr_http.proofs.ReplyLaws.{last_adds}
use Rattle.fr_http.proofs.reply.push_status.Goals as goal

pub returns : goal.returns
returns c =
    let old = c.args.out.now.items in
    let code = adds old _ _ _ _ c.in_ok-push.ensures (c.in_ok-push-2.ensures ∙ ap (λ t. c.push.new.out.items ++ t) (c.format.ensures.text ∙ ap decimal c.as_u16.ensures.value)) in
    last_adds _ old _ _ _ _ (adds old _ _ _ _ (adds old _ _ _ _ code c.in_ok-push-3.ensures)
    (c.in_ok-push-4.ensures ∙ ap (λ t. c.push-3.new.out.items ++ t) c.phrase.ensures)) c.push-5.ensures
