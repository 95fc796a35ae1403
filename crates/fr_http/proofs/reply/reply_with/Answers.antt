use Rattle.std.proofs.Common.{rules, ◌≡◌, length}
use Rattle.fr_http.proofs.ReplyLaws.{body_written, turned}
use Rattle.fr_http.proofs.reply.reply_with.Goals as goal

pub returns : goal.returns
returns c =
    let body = c.args.body.items in
    let size : c.len-length.result ≡ length body = search (rules, c.len-length.ensures) in
    record {
      status = c.as_u16.ensures.value;
      bytes = body_written c.args.status c.len-length.result c.args.body_type.now body c.rotate_left.new.self.items size
          (turned body _ c.push_head.new.out.items c.rotate_left.new.self.items c.len-length.result size c.in_ok-push_head.ensures c.rotate_left.ensures.items);
    }
