use Rattle.std.proofs.Common.{rules, [], ◌∷◌}
use Rattle.fr_office.proofs.CallLaws.{carries, refuses}
use Rattle.fr_office.proofs.CommandLaws.{common_carried, common_refused, unread}
use Rattle.fr_office.proofs.commands.common.change_common.Goals as goal

pub returns-in_err-variants : goal.returns-in_err-variants
returns-in_err-variants g c =
    let records = g.R.Records in
    let old = c.args.records.now in
    let mid = c.variants.new.self in
    refuses records _ old mid c.variants.ensures.reads c.from_residual.result c.in_err-variants.field-0.0 (search rules) (λ clean.
    unread (records.stands old) (records.stands mid) _ c.variants.result _ c.from_residual.result c.in_err-variants.field-0.0 (search rules) (search rules) (c.variants.ensures.variants clean))

pub returns-in_err-edit : goal.returns-in_err-edit
returns-in_err-edit g c =
    let records = g.R.Records in
    let old = c.args.records.now in
    let mid = c.variants.new.self in
    refuses records _ old mid c.variants.ensures.reads c.from_residual-in_err-edit.result c.in_err-edit.field-0.0 (search rules) (λ clean.
    common_refused (records.stands old) (records.stands mid) (records.stands mid) c.args.command.now c.in_ok-variants.variants.items
    (c.in_ok-variants.ensures.variants clean) c.from_residual-in_err-edit.result c.in_err-edit.field-0.0 (search rules) (search rules))

pub returns : goal.returns
returns g c =
    let records = g.R.Records in
    let old = c.args.records.now in
    let mid = c.variants.new.self in
    let edit = c.in_ok-edit.edit in
    carries records _ old mid c.variants.ensures.reads c.apply.new.self (edit ∷ []) c.apply.result (λ clean last r.
    common_carried (records.stands old) (records.stands mid) last c.args.command.now c.in_ok-variants.variants.items (c.in_ok-variants.ensures.variants clean) edit r (search rules))
    (search rules)
