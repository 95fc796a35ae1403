use Rattle.std.proofs.Common.{rules, ◌≡◌, ◌++◌, Err, Ok, None, Some, IfErr, sym, length, ◌≤◌, ◌-◌, subst, ap, ◌∙◌}
use Rattle.fr_base.specs.declared.refusal.Refusal.TheVariants.{UnknownKey}
use Rattle.fr_http.specs.Connection.{HasTaken}
use Rattle.fr_http.specs.Operations.{FindsActor, MakesOperation}
use Rattle.fr_http.specs.Outcome.{Wanted, asked_by, front}
use Rattle.fr_http.specs.Reading.{LacksBody}
use Rattle.fr_http.specs.Routes.{method_of, operation_by, path_of}
use Rattle.fr_http.specs.declared.fault.Unasked.TheVariants.{Engine, Fault, Refused}
use Rattle.fr_http.proofs.ServeLaws.{no_actor, no_body, no_operation, not_invited, planned_nothing, received_nothing, seen, to_ask}
use Rattle.fr_http.specs.Reads.{MayEndAsking}
use Rattle.fr_http.specs.Writes.{MayFailAsking}
use Rattle.fr_http.proofs.ReadsLaws.{spends_more}
use Rattle.fr_http.proofs.WritesLaws.{may_fail, unbodied, unmade, unread, unreceived}
use Rattle.fr_http.proofs.serve.take.Goals as goal

pub returns-in_err-received-clause-taken : goal.returns-in_err-received-clause-taken
returns-in_err-received-clause-taken g c =
    let unasked = c.in_err-received.field-0.0 in
    let is : c.from_residual.result ≡ Err unasked = search rules in
    record {
      does = subst (HasTaken _ _ _ _ _) (sym is) (received_nothing _ _ _ _ unasked c.in_err-received.ensures.received.does);
      same_reader = search rules;
      same_writer = search rules;
    }

pub returns-in_err-plan-clause-taken : goal.returns-in_err-plan-clause-taken
returns-in_err-plan-clause-taken g c =
    let received = c.head-head.result in
    let has = seen (g.R.Read.remaining c.args.input.now.reader.now) (g.R.Read.remaining c.receive.new.input.reader.now) received c.in_ok-received.received c.head-head.ensures c.in_ok-received.ensures.received.does in
    let rejection = c.in_err-plan.field-0.0 in
    let is : c.from_residual-in_err-plan.result ≡ Err (Engine rejection) = search rules in
    record {
      does = subst (HasTaken _ _ _ _ _) (sym is) (planned_nothing _ _ _ _ received rejection has c.in_err-plan.ensures);
      same_reader = search rules;
      same_writer = search rules;
    }

pub returns-in_err-invite-clause-taken : goal.returns-in_err-invite-clause-taken
returns-in_err-invite-clause-taken g c =
    let received = c.head-head.result in
    let has = seen (g.R.Read.remaining c.args.input.now.reader.now) (g.R.Read.remaining c.receive.new.input.reader.now) received c.in_ok-received.received c.head-head.ensures c.in_ok-received.ensures.received.does in
    let plan = c.in_ok-plan.plan in
    let w : Wanted = record { route = plan.route; length = plan.length } in
    let fault = c.in_err-invite.field-0.0 in
    let is : c.from_residual-in_err-invite.result ≡ Err (Fault fault) = search rules in
    let (failed, is_due, front) = c.in_err-invite.ensures.sent.does in
    record {
      does = subst (HasTaken _ _ _ _ _) (sym is) (not_invited _ _ _ _ _ received w fault has c.in_ok-plan.ensures.0 failed is_due front);
      same_reader = search rules;
      same_writer = search rules;
    }

pub returns-in_err-body-clause-taken : goal.returns-in_err-body-clause-taken
returns-in_err-body-clause-taken g c =
    let received = c.head-head.result in
    let has = seen (g.R.Read.remaining c.args.input.now.reader.now) (g.R.Read.remaining c.receive.new.input.reader.now) received c.in_ok-received.received c.head-head.ensures c.in_ok-received.ensures.received.does in
    let plan = c.in_ok-plan.plan in
    let w : Wanted = record { route = plan.route; length = plan.length } in
    let fault = c.in_err-body.field-0.0 in
    let is : c.from_residual-in_err-body.result ≡ Err (Fault fault) = search rules in
    let (more, consumed, lacks, few) = c.in_err-body.ensures.body.does in
    let left = g.R.Read.remaining c.read_body.new.input.reader.now in
    record {
      does = subst (HasTaken _ _ _ _ _) (sym is) (
          no_body _ _ _ left _ _ received w more (record { has = has; plan = c.in_ok-plan.ensures.0; written = c.in_ok-invite.ensures.sent.does }) (record { consumed = consumed; bound = subst (λ r. length more ≤ plan.length - length r) c.rest.ensures few }) fault
          (subst (λ r. LacksBody plan.length (r ++ more) left fault) c.rest.ensures lacks)
          );
      same_reader = search rules;
      same_writer = search rules;
    }

pub returns-in_err-operation-clause-taken : goal.returns-in_err-operation-clause-taken
returns-in_err-operation-clause-taken g c =
    let received = c.head-head.result in
    let has = seen (g.R.Read.remaining c.args.input.now.reader.now) (g.R.Read.remaining c.receive.new.input.reader.now) received c.in_ok-received.received c.head-head.ensures c.in_ok-received.ensures.received.does in
    let plan = c.in_ok-plan.plan in
    let w : Wanted = record { route = plan.route; length = plan.length } in
    let unasked = c.in_err-operation.field-0.0 in
    let is : c.from_residual-in_err-operation.result ≡ Err unasked = search rules in
    let (more, consumed, there, few) = c.in_ok-body.ensures.body.does in
    let body = c.in_ok-body.body.items in
    let makes : MakesOperation plan.route (path_of received.0.target) received.0.fields body (Err unasked) =
    subst (λ b. MakesOperation plan.route (path_of received.0.target) received.0.fields b (Err unasked)) c.deref.ensures.value
    (subst (λ p. MakesOperation plan.route p received.0.fields c.deref.result.now (Err unasked)) c.in_ok-plan.ensures.1 c.in_err-operation.ensures) in
    record {
      does = subst (HasTaken _ _ _ _ _) (sym is) (
          no_operation _ _ _ _ _ _ received w more (record { has = has; plan = c.in_ok-plan.ensures.0; written = c.in_ok-invite.ensures.sent.does }) (record { consumed = consumed; bound = subst (λ r. length more ≤ plan.length - length r) c.rest.ensures few }) body
          (subst (λ r. front plan.length (r ++ more) ≡ Some body) c.rest.ensures there) unasked makes
          );
      same_reader = search rules;
      same_writer = search rules;
    }

pub returns-in_err-operation-clause-reads : goal.returns-in_err-operation-clause-reads
returns-in_err-operation-clause-reads g c =
    let unasked = c.in_err-operation.field-0.0 in
    let is : c.from_residual-in_err-operation.result ≡ Err unasked = search rules in
    let left = c.read_body.new.input in
    let first = c.in_ok-received.ensures.reads.spends in
    record {
      spends = spends_more g.R.Source.reads _ _ _ _ _ _ first c.in_ok-body.ensures.reads.spends;
      ended = subst (λ r. IfErr r (λ u. MayEndAsking g.R.Source.reads u left.reader.now left.reads)) (sym is) (unread g.R.Source.reads _ _ _ _ unasked left.reader.now left.reads c.in_err-operation.ensures);
    }

pub returns-in_err-actor-clause-taken : goal.returns-in_err-actor-clause-taken
returns-in_err-actor-clause-taken g c =
    let received = c.head-head.result in
    let has = seen (g.R.Read.remaining c.args.input.now.reader.now) (g.R.Read.remaining c.receive.new.input.reader.now) received c.in_ok-received.received c.head-head.ensures c.in_ok-received.ensures.received.does in
    let plan = c.in_ok-plan.plan in
    let w : Wanted = record { route = plan.route; length = plan.length } in
    let is : c.from_residual-in_err-actor.result ≡ Err (Refused UnknownKey) = search rules in
    let (more, consumed, there, few) = c.in_ok-body.ensures.body.does in
    let body = c.in_ok-body.body.items in
    let what = c.in_ok-operation.operation in
    let makes : operation_by plan.route (path_of received.0.target) received.0.fields body ≡ Ok what =
    ap (λ p. operation_by plan.route p received.0.fields body) (sym c.in_ok-plan.ensures.1)
    ∙ ap (operation_by plan.route plan.path.now received.0.fields) (sym c.deref.ensures.value) ∙ c.in_ok-operation.ensures in
    let nobody : c.actor.result ≡ None = search rules in
    record {
      does = subst (HasTaken _ _ _ _ _) (sym is) (
          no_actor _ _ _ _ _ _ received w more (record { has = has; plan = c.in_ok-plan.ensures.0; written = c.in_ok-invite.ensures.sent.does }) (record { consumed = consumed; bound = subst (λ r. length more ≤ plan.length - length r) c.rest.ensures few }) body
          (subst (λ r. front plan.length (r ++ more) ≡ Some body) c.rest.ensures there) what makes (subst (FindsActor _ received.0) nobody c.actor.ensures)
          );
      same_reader = search rules;
      same_writer = search rules;
    }

pub returns-clause-taken : goal.returns-clause-taken
returns-clause-taken g c =
    let received = c.head-head.result in
    let has = seen (g.R.Read.remaining c.args.input.now.reader.now) (g.R.Read.remaining c.receive.new.input.reader.now) received c.in_ok-received.received c.head-head.ensures c.in_ok-received.ensures.received.does in
    let plan = c.in_ok-plan.plan in
    let w : Wanted = record { route = plan.route; length = plan.length } in
    let (more, consumed, there, few) = c.in_ok-body.ensures.body.does in
    let body = c.in_ok-body.body.items in
    let what = c.in_ok-operation.operation in
    let actor = c.in_ok-actor.actor in
    let makes : operation_by plan.route (path_of received.0.target) received.0.fields body ≡ Ok what =
    ap (λ p. operation_by plan.route p received.0.fields body) (sym c.in_ok-plan.ensures.1)
    ∙ ap (operation_by plan.route plan.path.now received.0.fields) (sym c.deref.ensures.value) ∙ c.in_ok-operation.ensures in
    let found : c.actor.result ≡ Some actor = search rules in
    let is : c.asked_by.result ≡ asked_by actor (method_of plan.route) what = c.asked_by.ensures ∙ ap (λ m. asked_by actor m what) c.method.ensures in
    record {
      does = subst (λ o. HasTaken (g.D.Desk.stands c.args.desk.now) (g.R.Read.remaining c.args.input.now.reader.now) (g.R.Read.remaining c.read_body.new.input.reader.now)
          (g.W.Write.contents c.args.output.now.writer.now) (g.W.Write.contents c.invite.new.output.writer.now) (Ok o)) (sym is) (
          to_ask _ _ _ _ _ _ received w more (record { has = has; plan = c.in_ok-plan.ensures.0; written = c.in_ok-invite.ensures.sent.does }) (record { consumed = consumed; bound = subst (λ r. length more ≤ plan.length - length r) c.rest.ensures few }) body
          (subst (λ r. front plan.length (r ++ more) ≡ Some body) c.rest.ensures there) what makes actor (subst (FindsActor _ received.0) found c.actor.ensures)
          );
      same_reader = search rules;
      same_writer = search rules;
    }

pub returns-in_err-received-clause-failed : goal.returns-in_err-received-clause-failed
returns-in_err-received-clause-failed g c =
    let unasked = c.in_err-received.field-0.0 in
    let is : c.from_residual.result ≡ Err unasked = search rules in
    let last = c.args.output.now.writer.now in
    subst (λ r. IfErr r (λ u. MayFailAsking g.W.Sink.writes g.W.Sink.flushes u last)) (sym is) (unreceived g.W.Sink.writes g.W.Sink.flushes _ _ unasked last c.in_err-received.ensures.received.does)

pub returns-in_err-plan-clause-failed : goal.returns-in_err-plan-clause-failed
returns-in_err-plan-clause-failed g c =
    let rejection = c.in_err-plan.field-0.0 in
    let is : c.from_residual-in_err-plan.result ≡ Err (Engine rejection) = search rules in
    subst (λ r. IfErr r (λ u. MayFailAsking g.W.Sink.writes g.W.Sink.flushes u c.args.output.now.writer.now)) (sym is) tt

pub returns-in_err-invite-clause-failed : goal.returns-in_err-invite-clause-failed
returns-in_err-invite-clause-failed g c =
    let fault = c.in_err-invite.field-0.0 in
    let is : c.from_residual-in_err-invite.result ≡ Err (Fault fault) = search rules in
    let last = c.invite.new.output.writer.now in
    subst (λ r. IfErr r (λ u. MayFailAsking g.W.Sink.writes g.W.Sink.flushes u last)) (sym is) (may_fail g.W.Sink.writes g.W.Sink.flushes fault last c.in_err-invite.ensures.failed)

pub returns-in_err-body-clause-failed : goal.returns-in_err-body-clause-failed
returns-in_err-body-clause-failed g c =
    let fault = c.in_err-body.field-0.0 in
    let is : c.from_residual-in_err-body.result ≡ Err (Fault fault) = search rules in
    let last = c.invite.new.output.writer.now in
    let (more, consumed, lacks, few) = c.in_err-body.ensures.body.does in
    subst (λ r. IfErr r (λ u. MayFailAsking g.W.Sink.writes g.W.Sink.flushes u last)) (sym is) (unbodied g.W.Sink.writes g.W.Sink.flushes c.in_ok-plan.plan.length _ _ fault last lacks)

pub returns-in_err-operation-clause-failed : goal.returns-in_err-operation-clause-failed
returns-in_err-operation-clause-failed g c =
    let unasked = c.in_err-operation.field-0.0 in
    let is : c.from_residual-in_err-operation.result ≡ Err unasked = search rules in
    let last = c.invite.new.output.writer.now in
    subst (λ r. IfErr r (λ u. MayFailAsking g.W.Sink.writes g.W.Sink.flushes u last)) (sym is) (unmade g.W.Sink.writes g.W.Sink.flushes _ _ _ _ unasked last c.in_err-operation.ensures)

pub returns-in_err-actor-clause-failed : goal.returns-in_err-actor-clause-failed
returns-in_err-actor-clause-failed g c =
    let is : c.from_residual-in_err-actor.result ≡ Err (Refused UnknownKey) = search rules in
    subst (λ r. IfErr r (λ u. MayFailAsking g.W.Sink.writes g.W.Sink.flushes u c.invite.new.output.writer.now)) (sym is) tt
