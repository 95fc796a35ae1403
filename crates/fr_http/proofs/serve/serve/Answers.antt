use Rattle.std.proofs.Common.{◌≡◌, Err, refl, ap, ◌∙◌, rules, subst, false, List, ℕ}
use Rattle.std.specs.Prelude.{IfOk}
use Rattle.std.specs.Borrow.{Bor}
use Rattle.std.specs.Option.{option_map}
use Rattle.fr_base.specs.declared.answer.Answer.TheVariants as answer
use Rattle.fr_http.specs.Connection.{HasTaken}
use Rattle.fr_http.specs.Exchanges.{IsExplanation}
use Rattle.fr_http.specs.Reply.{Reply, answer_reply, engine_reply}
use Rattle.fr_http.specs.PageReply.{planner_reply}
use Rattle.fr_http.specs.Replying.{IsReply}
use Rattle.fr_http.specs.declared.reply.ReplyText.{ReplyText}
use Rattle.fr_http.specs.declared.fault.Unasked.TheVariants.{Engine, Explained, Fault, Page, Refused}
use Rattle.fr_http.specs.declared.method.Method.TheVariants.{Post}
use Rattle.fr_http.proofs.ServeLaws.{replied, served_asked, served_explained, served_fault, served_unasked}
use Rattle.fr_http.proofs.serve.serve.Goals as goal

pub returns-in-Ok-clause-served : goal.returns-in-Ok-clause-served
returns-in-Ok-clause-served g c =
    record {
      does = served_asked _ _ _ _ _ _ _ _ c.in-Ok.exchange c.answer.result c.in-Ok.ensures.taken.does c.answer.ensures.answered.does;
      same_reader = search rules;
      same_writer = search rules;
    }

pub returns-in-Err-Engine-clause-served : goal.returns-in-Err-Engine-clause-served
returns-in-Err-Engine-clause-served g c =
    let rejection = c.in-Err-Engine.rejection in
    let is : c.take.result ≡ Err (Engine rejection) = c.in-Err-Engine.is ∙ ap (λ u. Err u) c.in-Err-Engine.field-0-is in
    let t : HasTaken (g.D.Desk.stands c.args.desk.now) (g.R.Read.remaining c.args.input.now.reader.now) (g.R.Read.remaining c.take.new.input.reader.now)
    (g.W.Write.contents c.args.output.now.writer.now) (g.W.Write.contents c.take.new.output.writer.now) (Err (Engine rejection)) = subst (HasTaken _ _ _ _ _) is c.take.ensures.taken.does in
    record {
      does = served_unasked _ _ _ _ _ _ _ (Engine rejection) (engine_reply rejection) c.send.result t t.takes.0 t.takes.1 refl
          (replied c.engine_reply.result (engine_reply rejection) false _ _ c.send.result c.engine_reply.ensures c.send.ensures.sent.does);
      same_reader = search rules;
      same_writer = search rules;
    }

pub returns-in-Err-Page-clause-served : goal.returns-in-Err-Page-clause-served
returns-in-Err-Page-clause-served g c =
    let part = c.in-Err-Page.part in
    let has = c.in-Err-Page.held in
    let is : c.take.result ≡ Err (Page part has) = c.in-Err-Page.is ∙ ap (λ u. Err u) c.in-Err-Page.field-0-is in
    let t : HasTaken (g.D.Desk.stands c.args.desk.now) (g.R.Read.remaining c.args.input.now.reader.now) (g.R.Read.remaining c.take.new.input.reader.now)
    (g.W.Write.contents c.args.output.now.writer.now) (g.W.Write.contents c.take.new.output.writer.now) (Err (Page part has)) = subst (HasTaken _ _ _ _ _) is c.take.ensures.taken.does in
    record {
      does = served_unasked _ _ _ _ _ _ _ (Page part has) (planner_reply part has) c.send-in-Err-Page.result t t.takes.0 t.takes.1 refl
          (replied c.planner_reply.result (planner_reply part has) false _ _ c.send-in-Err-Page.result c.planner_reply.ensures c.send-in-Err-Page.ensures.sent.does);
      same_reader = search rules;
      same_writer = search rules;
    }

pub returns-in-Err-Explained-clause-served : goal.returns-in-Err-Explained-clause-served
returns-in-Err-Explained-clause-served g c =
    let word = c.in-Err-Explained.word in
    let named : option_map (λ (w : Bor (List ℕ)). w.now) c.as_ref.result ≡ word = search rules in
    let is : c.take.result ≡ Err (Explained word) = c.in-Err-Explained.is ∙ ap (λ u. Err u) c.in-Err-Explained.field-0-is in
    let t : HasTaken (g.D.Desk.stands c.args.desk.now) (g.R.Read.remaining c.args.input.now.reader.now) (g.R.Read.remaining c.take.new.input.reader.now)
    (g.W.Write.contents c.args.output.now.writer.now) (g.W.Write.contents c.take.new.output.writer.now) (Err (Explained word)) = subst (HasTaken _ _ _ _ _) is c.take.ensures.taken.does in
    record {
      does = served_explained _ _ _ _ _ _ _ word c.explained_reply.result c.send-in-Err-Explained.result t
          (subst (λ w. IfOk c.explained_reply.result (λ (r : ReplyText). (reply : Reply) × IsExplanation w reply × IsReply reply r)) named c.explained_reply.ensures) c.send-in-Err-Explained.ensures.sent.does;
      same_reader = search rules;
      same_writer = search rules;
    }

pub returns-in-Err-Refused-clause-served : goal.returns-in-Err-Refused-clause-served
returns-in-Err-Refused-clause-served g c =
    let refusal = c.in-Err-Refused.refusal in
    let is : c.take.result ≡ Err (Refused refusal) = c.in-Err-Refused.is ∙ ap (λ u. Err u) c.in-Err-Refused.field-0-is in
    let t : HasTaken (g.D.Desk.stands c.args.desk.now) (g.R.Read.remaining c.args.input.now.reader.now) (g.R.Read.remaining c.take.new.input.reader.now)
    (g.W.Write.contents c.args.output.now.writer.now) (g.W.Write.contents c.take.new.output.writer.now) (Err (Refused refusal)) = subst (HasTaken _ _ _ _ _) is c.take.ensures.taken.does in
    record {
      does = served_unasked _ _ _ _ _ _ _ (Refused refusal) (answer_reply Post (answer.Refused refusal)) c.send-in-Err-Refused.result t t.takes.0 t.takes.1 refl
          (replied c.answer_reply.result (answer_reply Post (answer.Refused refusal)) false _ _ c.send-in-Err-Refused.result c.answer_reply.ensures c.send-in-Err-Refused.ensures.sent.does);
      same_reader = search rules;
      same_writer = search rules;
    }

pub returns-in-Err-Fault-clause-served : goal.returns-in-Err-Fault-clause-served
returns-in-Err-Fault-clause-served g c =
    let fault = c.in-Err-Fault.fault in
    let is : c.take.result ≡ Err (Fault fault) = c.in-Err-Fault.is ∙ ap (λ u. Err u) c.in-Err-Fault.field-0-is in
    record {
      does = served_fault _ _ _ _ _ _ (g.W.Write.contents c.take.new.output.writer.now) fault (subst (HasTaken _ _ _ _ _) is c.take.ensures.taken.does);
      same_reader = search rules;
      same_writer = search rules;
    }
