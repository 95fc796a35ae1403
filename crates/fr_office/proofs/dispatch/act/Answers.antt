use Rattle.std.proofs.Common.{◌≡◌, ◌∙◌, IsTrue, ap, refl, subst, sym}
use Rattle.fr_base.specs.declared.actor.Actor.TheVariants.{Supplier}
use Rattle.fr_base.specs.declared.request.Checked.{Checked}
use Rattle.fr_base.specs.declared.request.Checked.TheVariants as checked
use Rattle.fr_base.specs.declared.request.Command.TheVariants as command
use Rattle.fr_base.specs.Step.{knows, perform}
use Rattle.fr_office.specs.Answers.{CarriesAct, HasPassed}
use Rattle.fr_office.specs.Decided.{IsOwnChange}
use Rattle.fr_office.proofs.CallLaws.{command_carried, only_read}
use Rattle.fr_office.proofs.StepLaws.{delivery_acts, query_acts}
use Rattle.fr_office.proofs.CrashLaws.{act_deliver}
use Rattle.fr_office.proofs.dispatch.act.Goals as goal

pub grant-requires : goal.grant-requires
grant-requires g c = record { grants = (c.in-Grant.node, c.in-Grant.is) }

pub revoke-requires : goal.revoke-requires
revoke-requires g c = record { revokes = (c.in-Revoke.slot, c.in-Revoke.channel, c.in-Revoke.is) }

pub change_frame-requires : goal.change_frame-requires
change_frame-requires g c =
    let fits = subst (λ (valid : Checked). HasPassed (g.R.Records.params c.args.records.now) c.args.actor.now valid) (c.in-Command.is ∙ ap checked.Command c.in-Rows.is) c.requires.passed in
    let own = subst (IsOwnChange c.args.actor.now c.in-Rows.rows.supplier) c.in-Frame.is fits.1 in
    record {
      frame = (c.in-Frame.frame, c.in-Frame.change, c.in-Frame.is);
      checked = fits.0;
      known = λ cl b stood. subst (λ actor. IsTrue (knows b actor)) own (c.requires.known cl b stood);
    }

pub returns-in-Common : goal.returns-in-Common
unfolding perform
returns-in-Common g c =
    let old = c.args.records.now in
    let new = c.change_common.new.records in
    subst (λ (valid : Checked). CarriesAct g.R.Records c.args.actor.now valid old new c.done.result) (sym (c.in-Command.is ∙ ap checked.Command c.in-Common.is))
    (command_carried g.R.Records c.args.actor.now (command.Common c.in-Common.command) _ old new c.change_common.result c.done.result c.done.ensures c.change_common.ensures (λ cl b. refl))

pub returns-in-AddSupplier : goal.returns-in-AddSupplier
unfolding perform
returns-in-AddSupplier g c =
    let old = c.args.records.now in
    let new = c.add_supplier.new.records in
    subst (λ (valid : Checked). CarriesAct g.R.Records c.args.actor.now valid old new c.done-in-AddSupplier.result) (sym (c.in-Command.is ∙ ap checked.Command c.in-AddSupplier.is))
    (command_carried g.R.Records c.args.actor.now (command.AddSupplier c.in-AddSupplier.supplier c.in-AddSupplier.key) _ old new c.add_supplier.result c.done-in-AddSupplier.result c.done-in-AddSupplier.ensures c.add_supplier.ensures (λ cl b. refl))

pub returns-in-SetKey : goal.returns-in-SetKey
unfolding perform
returns-in-SetKey g c =
    let old = c.args.records.now in
    let new = c.set_key.new.records in
    subst (λ (valid : Checked). CarriesAct g.R.Records c.args.actor.now valid old new c.done-in-SetKey.result) (sym (c.in-Command.is ∙ ap checked.Command c.in-SetKey.is))
    (command_carried g.R.Records c.args.actor.now (command.SetKey c.in-SetKey.supplier c.in-SetKey.key) _ old new c.set_key.result c.done-in-SetKey.result c.done-in-SetKey.ensures c.set_key.ensures (λ cl b. refl))

pub returns-in-AddNode : goal.returns-in-AddNode
unfolding perform
returns-in-AddNode g c =
    let old = c.args.records.now in
    let new = c.add_node.new.records in
    subst (λ (valid : Checked). CarriesAct g.R.Records c.args.actor.now valid old new c.done-in-AddNode.result) (sym (c.in-Command.is ∙ ap checked.Command c.in-AddNode.is))
    (command_carried g.R.Records c.args.actor.now (command.AddNode c.in-AddNode.supplier c.in-AddNode.node) _ old new c.add_node.result c.done-in-AddNode.result c.done-in-AddNode.ensures c.add_node.ensures (λ cl b. refl))

pub returns-in-Grant : goal.returns-in-Grant
unfolding perform
returns-in-Grant g c =
    let old = c.args.records.now in
    let new = c.grant.new.records in
    subst (λ (valid : Checked). CarriesAct g.R.Records c.args.actor.now valid old new c.done-in-Grant.result) (sym (c.in-Command.is ∙ ap checked.Command c.in-Rows.is))
    (command_carried g.R.Records c.args.actor.now (command.Rows c.in-Rows.rows) _ old new c.grant.result c.done-in-Grant.result c.done-in-Grant.ensures c.grant.ensures (λ cl b. refl))

pub returns-in-Revoke : goal.returns-in-Revoke
unfolding perform
returns-in-Revoke g c =
    let old = c.args.records.now in
    let new = c.revoke.new.records in
    subst (λ (valid : Checked). CarriesAct g.R.Records c.args.actor.now valid old new c.done-in-Revoke.result) (sym (c.in-Command.is ∙ ap checked.Command c.in-Rows.is))
    (command_carried g.R.Records c.args.actor.now (command.Rows c.in-Rows.rows) _ old new c.revoke.result c.done-in-Revoke.result c.done-in-Revoke.ensures c.revoke.ensures (λ cl b. refl))

pub returns-in-Frame : goal.returns-in-Frame
unfolding perform
returns-in-Frame g c =
    let old = c.args.records.now in
    let new = c.change_frame.new.records in
    subst (λ (valid : Checked). CarriesAct g.R.Records c.args.actor.now valid old new c.done-in-Frame.result) (sym (c.in-Command.is ∙ ap checked.Command c.in-Rows.is))
    (command_carried g.R.Records c.args.actor.now (command.Rows c.in-Rows.rows) _ old new c.change_frame.result c.done-in-Frame.result c.done-in-Frame.ensures c.change_frame.ensures (λ cl b. refl))

pub reply-requires : goal.reply-requires
reply-requires g c = subst (λ (valid : Checked). HasPassed (g.R.Records.params c.args.records.now) c.args.actor.now valid) c.in-Query.is c.requires.passed

pub returns-in-Deliver : goal.returns-in-Deliver
returns-in-Deliver g c =
    let records = g.R.Records in
    let old = c.args.records.now in
    let new = c.deliver.new.records in
    let actor = c.args.actor.now in
    let d = c.in-Deliver.delivery in
    let asks : actor ≡ Supplier d.supplier = subst (λ (valid : Checked). HasPassed (records.params old) actor valid) c.in-Deliver.is c.requires.passed in
    subst (λ (valid : Checked). CarriesAct records actor valid old new c.deliver.result) (sym c.in-Deliver.is) (record {
      falls = c.deliver.ensures.falls;
      serves = c.deliver.ensures.serves;
      leaves = λ clean. act_deliver (records.stands old) (records.leaves old) (records.leaves new) actor d asks (c.deliver.ensures.leaves clean);
      acts = λ clean. delivery_acts (records.stands old) (records.stands new) actor d c.deliver.result asks (c.deliver.ensures.gives clean);
    })

pub returns-in-Query : goal.returns-in-Query
returns-in-Query g c =
    let records = g.R.Records in
    let old = c.args.records.now in
    let new = c.reply.new.records in
    let actor = c.args.actor.now in
    subst (λ (valid : Checked). CarriesAct records actor valid old new c.reply.result) (sym c.in-Query.is)
    (only_read records actor (checked.Query c.in-Query.query) old new c.reply.result c.reply.ensures.reads (λ clean. tt) (λ clean.
    query_acts (records.stands old) (records.stands new) actor c.in-Query.query c.reply.result (c.reply.ensures.told clean)))
