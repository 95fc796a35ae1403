use Rattle.std.proofs.Common.{◌++◌, sym, ap, ◌∙◌, append-nil, codes}
use Rattle.fr_text.proofs.WordsLemmas.{adds}
use Rattle.fr_http.specs.PageReply.{held_reply}
use Rattle.fr_http.specs.Reply.{closing, field_line, print, status_line}
use Rattle.fr_http.proofs.page_reply.held_reply.Goals as goal

pub returns : goal.returns
unfolding held_reply print
returns c =
    let empty = c.new-bytes.result.items in
    let text = status_line 304 ++ field_line (codes "etag") c.args.tag.now ++ closing in
    let all = adds empty _ _ _ _ (adds empty _ _ _ _ c.in_ok-push_status.ensures c.in_ok-push_field.ensures) c.in_ok-push_close.ensures in
    record {
      status = c.as_u16.ensures.value;
      bytes = all ∙ ap (λ e. e ++ text) c.new-bytes.ensures.items ∙ sym (append-nil text);
    }
