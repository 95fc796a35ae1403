use Rattle.std.proofs.Common.{◌++◌, ap, ◌∙◌, codes}
use Rattle.fr_text.proofs.WordsLemmas.{adds}
use Rattle.fr_http.specs.Reply.{field_line}
use Rattle.fr_http.proofs.ReplyLaws.{last_adds}
use Rattle.fr_http.proofs.reply.push_head.Goals as goal

pub returns : goal.returns
returns c =
    let old = c.args.out.now.items in
    let line = c.push_status.new.out.items in
    let fields = adds line _ _ _ _ (adds line _ _ _ _ c.in_ok-push_field.ensures
    (c.in_ok-push_field-2.ensures ∙ ap (λ t. c.push_field.new.out.items ++ field_line (codes "content-length") t) c.format.ensures.text)) c.in_ok-push_authenticate.ensures in
    last_adds _ old _ _ _ _ (adds old _ _ _ _ c.in_ok-push_status.ensures fields) c.push_close.ensures
