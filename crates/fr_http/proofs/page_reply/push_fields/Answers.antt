use Rattle.std.proofs.Common.{◌++◌, ap, ◌∙◌, codes}
use Rattle.fr_text.proofs.WordsLemmas.{adds}
use Rattle.fr_http.specs.Reply.{field_line}
use Rattle.fr_http.proofs.ReplyLaws.{last_adds}
use Rattle.fr_http.proofs.page_reply.push_fields.Goals as goal

pub returns : goal.returns
returns c =
    let old = c.args.out.now.items in
    let kind = c.in_ok-push_field.ensures ∙ ap (λ t. old ++ field_line (codes "content-type") t) c.type_of_part.ensures in
    let size = c.in_ok-push_field-2.ensures ∙ ap (λ t. c.push_field.new.out.items ++ field_line (codes "content-length") t) c.format.ensures.text in
    last_adds _ old _ _ _ _ (adds old _ _ _ _ (adds old _ _ _ _ kind size) c.in_ok-push_field-3.ensures) c.push_guards.ensures
