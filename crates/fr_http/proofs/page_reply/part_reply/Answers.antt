use Rattle.std.proofs.Common.{rules, ◌≡◌, length, ◌∙◌}
use Rattle.fr_text.proofs.WordsLemmas.{adds}
use Rattle.fr_http.specs.PageReply.{part_reply}
use Rattle.fr_http.proofs.ReplyLaws.{part_written, turned}
use Rattle.fr_http.proofs.page_reply.part_reply.Goals as goal

pub returns : goal.returns
unfolding part_reply
returns c =
    let body = c.in_ok-bytes.bytes.items in
    let n = c.len-length.result in
    let size : n ≡ length body = search (rules, c.len-length.ensures) in
    let head = adds body _ _ _ _ (adds body _ _ _ _ c.in_ok-push_status.ensures c.in_ok-push_fields.ensures) c.in_ok-push_close.ensures in
    record {
      status = c.as_u16.ensures.value;
      bytes = turned body _ c.push_close.new.out.items c.rotate_left.new.self.items n size head c.rotate_left.ensures.items
          ∙ part_written c.args.part n c.args.tag.now body size c.in_ok-bytes.ensures c.requires;
    }
