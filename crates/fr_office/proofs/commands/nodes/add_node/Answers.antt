use Rattle.std.proofs.Common.{rules, [], ◌∷◌, Err, refl}
use Rattle.fr_base.specs.declared.refusal.Refusal.TheVariants.{NoSupplier}
use Rattle.fr_world.proofs.ReadLaws.{reads_none}
use Rattle.fr_office.proofs.CallLaws.{carries, refuses}
use Rattle.fr_office.proofs.CommandLaws.{named-there, node_carried, node_refused, node_unnamed, unread}
use Rattle.fr_office.proofs.commands.nodes.add_node.Goals as goal

pub returns-then-not-has_supplier : goal.returns-then-not-has_supplier
returns-then-not-has_supplier g c =
    let records = g.R.Records in
    let old = c.args.records.now in
    let now = records.stands old in
    refuses records _ old old (reads_none records.clean records.params records.leaves old) (Err NoSupplier) NoSupplier refl (λ clean.
    node_unnamed now now now c.args.supplier c.args.node
    (named-there now c.config.result.now c.args.supplier c.has_supplier.result _ c.config.ensures.config c.has_supplier.ensures c.if-not-has_supplier.true))

pub returns-in_err-nodes : goal.returns-in_err-nodes
returns-in_err-nodes g c =
    let records = g.R.Records in
    let old = c.args.records.now in
    let mid = c.nodes.new.self in
    refuses records _ old mid c.nodes.ensures.reads c.from_residual.result c.in_err-nodes.field-0.0 (search rules) (λ clean.
    unread (records.stands old) (records.stands mid) _ c.nodes.result _ c.from_residual.result c.in_err-nodes.field-0.0 (search rules) (search rules) (c.nodes.ensures.nodes clean))

pub returns-in_err-edit : goal.returns-in_err-edit
returns-in_err-edit g c =
    let records = g.R.Records in
    let old = c.args.records.now in
    let mid = c.nodes.new.self in
    refuses records _ old mid c.nodes.ensures.reads c.from_residual-in_err-edit.result c.in_err-edit.field-0.0 (search rules) (λ clean.
    node_refused (records.stands old) (records.stands mid) (records.stands mid) c.args.supplier c.args.node c.in_ok-nodes.nodes.items
    (named-there (records.stands old) c.config.result.now c.args.supplier c.has_supplier.result _ c.config.ensures.config c.has_supplier.ensures c.if-not-has_supplier.false)
    (c.in_ok-nodes.ensures.nodes clean) c.from_residual-in_err-edit.result c.in_err-edit.field-0.0 (search rules) (search rules))

pub returns : goal.returns
returns g c =
    let records = g.R.Records in
    let old = c.args.records.now in
    let mid = c.nodes.new.self in
    let edit = c.in_ok-edit.edit in
    carries records _ old mid c.nodes.ensures.reads c.apply.new.self (edit ∷ []) c.apply.result (λ clean last r.
    node_carried (records.stands old) (records.stands mid) last c.args.supplier c.args.node c.in_ok-nodes.nodes.items
    (named-there (records.stands old) c.config.result.now c.args.supplier c.has_supplier.result _ c.config.ensures.config c.has_supplier.ensures c.if-not-has_supplier.false)
    (c.in_ok-nodes.ensures.nodes clean) edit r (search rules))
    (search rules)
