use Rattle.std.proofs.Common.{rules, refl, ◌≡◌, Ok, Err, sym, subst}
use Rattle.fr_picture.specs.Plans.{since_of}
use Rattle.fr_http.specs.Connection.{HasDealt, HasDrawn}
use Rattle.fr_http.specs.Reply.{answer_reply, page_reply}
use Rattle.fr_base.specs.declared.answer.Answer.TheVariants as answer
use Rattle.fr_http.specs.declared.exchange.Exchange.TheVariants as exchange
use Rattle.fr_http.specs.declared.method.Method.TheVariants.{Get}
use Rattle.fr_guide.proofs.AdviceLaws.{some_advice}
use Rattle.fr_http.specs.Reply.{advice_reply}
use Rattle.fr_http.proofs.DealingLaws.{advice_dealt, page_dealt, refusal_dealt, request_dealt}
use Rattle.fr_http.proofs.exchange_reply.reply_to.Goals as goal

pub returns-in-Request-clause-given : goal.returns-in-Request-clause-given
returns-in-Request-clause-given g c =
    let ask = c.in-Request.ask in
    let method = c.in-Request.method in
    let reply = answer_reply method c.ask-answer.result in
    let is : c.args.exchange.now ≡ exchange.Request ask method = search rules in
    record {
      does = (
        reply,
        subst (λ o. HasDealt (g.D.Desk.clean c.ask-answer.new.self) (g.D.Desk.stands c.args.desk.now) (g.D.Desk.stands c.ask-answer.new.self) o reply) (sym is)
            (request_dealt _ _ _ ask method c.ask-answer.result c.ask-answer.ensures.answered),
        c.answer_reply.ensures,
      );
      falls = search rules;
    }

pub returns-in-Ok-clause-given : goal.returns-in-Ok-clause-given
returns-in-Ok-clause-given g c =
    let reader = c.in-Picture.reader in
    let variant = c.in-Picture.variant in
    let since = c.in-Picture.since in
    let reply = page_reply c.in-Ok.page.items in
    let is : c.args.exchange.now ≡ exchange.Picture reader variant since = search rules in
    record {
      does = (
        reply,
        subst (λ o. HasDealt (g.D.Desk.clean c.picture.new.desk) (g.D.Desk.stands c.args.desk.now) (g.D.Desk.stands c.picture.new.desk) o reply) (sym is)
            (page_dealt _ _ _ reader variant since c.in-Ok.page
            (subst (λ o. HasDrawn reader variant o (g.D.Desk.clean c.picture.new.desk) (g.D.Desk.stands c.args.desk.now) (g.D.Desk.stands c.picture.new.desk) (Ok c.in-Ok.page)) c.text_of.ensures
            (subst (λ v. HasDrawn reader v (since_of c.text_of.result) (g.D.Desk.clean c.picture.new.desk) (g.D.Desk.stands c.args.desk.now) (g.D.Desk.stands c.picture.new.desk) (Ok c.in-Ok.page)) c.as_str.ensures c.in-Ok.ensures.does))),
        c.page_reply.ensures,
      );
      falls = search rules;
    }

pub returns-in-Err-clause-given : goal.returns-in-Err-clause-given
returns-in-Err-clause-given g c =
    let reader = c.in-Picture.reader in
    let variant = c.in-Picture.variant in
    let since = c.in-Picture.since in
    let reply = answer_reply Get (answer.Refused c.in-Err.refusal) in
    let is : c.args.exchange.now ≡ exchange.Picture reader variant since = search rules in
    record {
      does = (
        reply,
        subst (λ o. HasDealt (g.D.Desk.clean c.picture.new.desk) (g.D.Desk.stands c.args.desk.now) (g.D.Desk.stands c.picture.new.desk) o reply) (sym is)
            (refusal_dealt _ _ _ reader variant since c.in-Err.refusal
            (subst (λ o. HasDrawn reader variant o (g.D.Desk.clean c.picture.new.desk) (g.D.Desk.stands c.args.desk.now) (g.D.Desk.stands c.picture.new.desk) (Err c.in-Err.refusal)) c.text_of.ensures
            (subst (λ v. HasDrawn reader v (since_of c.text_of.result) (g.D.Desk.clean c.picture.new.desk) (g.D.Desk.stands c.args.desk.now) (g.D.Desk.stands c.picture.new.desk) (Err c.in-Err.refusal)) c.as_str.ensures c.in-Err.ensures.does))),
        c.answer_reply-in-Err.ensures,
      );
      falls = search rules;
    }

pub returns-in_err-lines-in-Advice-clause-given : goal.returns-in_err-lines-in-Advice-clause-given
returns-in_err-lines-in-Advice-clause-given g c =
    let reader = c.in-Advice.reader in
    let subject = c.in-Advice.subject in
    let text = c.in-Advice.text in
    let (lines, advice) = some_advice subject text in
    let reply = advice_reply lines in
    let is : c.args.exchange.now ≡ exchange.Advice reader subject text = search rules in
    record {
      does = (
        reply,
        subst (λ o. HasDealt (g.D.Desk.clean c.args.desk.now) (g.D.Desk.stands c.args.desk.now) (g.D.Desk.stands c.args.desk.now) o reply) (sym is)
            (advice_dealt _ _ _ reader subject text reply (lines, advice, refl) (λ cl b stood. stood)),
        search rules,
      );
      falls = search rules;
    }

pub returns-in_ok-lines-in-Advice-clause-given : goal.returns-in_ok-lines-in-Advice-clause-given
returns-in_ok-lines-in-Advice-clause-given g c =
    let reader = c.in-Advice.reader in
    let subject = c.in-Advice.subject in
    let text = c.in-Advice.text in
    let reply = advice_reply c.in_ok-lines-in-Advice.lines.items in
    let is : c.args.exchange.now ≡ exchange.Advice reader subject text = search rules in
    record {
      does = (
        reply,
        subst (λ o. HasDealt (g.D.Desk.clean c.args.desk.now) (g.D.Desk.stands c.args.desk.now) (g.D.Desk.stands c.args.desk.now) o reply) (sym is)
            (advice_dealt _ _ _ reader subject text reply (c.in_ok-lines-in-Advice.lines.items, search rules, refl) (λ cl b stood. stood)),
        c.advice_reply.ensures,
      );
      falls = search rules;
    }
