use Rattle.std.proofs.Common.{rules, subst}
use Rattle.fr_http.specs.Connection.{HasReplied}
use Rattle.fr_http.proofs.ServeLaws.{replied}
use Rattle.fr_http.proofs.serve.answer.Goals as goal

pub returns-clause-answered : goal.returns-clause-answered
returns-clause-answered g c =
    let (reply, dealt, text) = c.reply_to.ensures.given.does in
    record {
      does = record {
        reply = reply;
        dealt = dealt;
        replied = subst (λ asked. HasReplied reply asked (g.W.Write.contents c.args.output.now.writer.now) (g.W.Write.contents c.send.new.output.writer.now) c.send.result) c.is_ask.ensures
            (replied c.reply_to.result reply c.is_ask.result (g.W.Write.contents c.args.output.now.writer.now) (g.W.Write.contents c.send.new.output.writer.now) c.send.result
            text c.send.ensures.sent.does);
      };
      same_writer = search rules;
    }
