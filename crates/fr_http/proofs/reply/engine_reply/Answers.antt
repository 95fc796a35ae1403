use Rattle.std.proofs.Common.{◌∙◌}
use Rattle.fr_text.proofs.WordsLemmas.{adds}
use Rattle.fr_http.specs.Reply.{engine_reply}
use Rattle.fr_http.proofs.ReplyLaws.{engine_written}
use Rattle.fr_http.proofs.reply.engine_reply.Goals as goal

pub returns : goal.returns
unfolding engine_reply
returns c =
    let line = c.push_status.new.out.items in
    let empty = c.new-bytes.result.items in
    let fields = adds line _ _ _ _ c.in_ok-push_field.ensures c.in_ok-push_allow.ensures in
    let all = adds empty _ _ _ _ (adds empty _ _ _ _ c.in_ok-push_status.ensures fields) c.in_ok-push_close.ensures in
    record {
      status = c.as_u16.ensures.value ∙ c.status_of_rejection-status.ensures;
      bytes = engine_written c.args.rejection c.status_of_rejection-status.result empty c.push_close.new.out.items c.new-bytes.ensures.items c.status_of_rejection-status.ensures all;
    }
