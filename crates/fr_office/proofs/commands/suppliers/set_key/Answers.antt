use Rattle.std.proofs.Common.{rules, [], ◌∷◌}
use Rattle.fr_world.proofs.ReadLaws.{reads_none}
use Rattle.fr_office.proofs.CallLaws.{carries, refuses}
use Rattle.fr_office.proofs.CommandLaws.{key_carried, key_refused}
use Rattle.fr_office.proofs.commands.suppliers.set_key.Goals as goal

pub returns-in_err-edit : goal.returns-in_err-edit
returns-in_err-edit g c =
    let records = g.R.Records in
    let old = c.args.records.now in
    let now = records.stands old in
    refuses records _ old old (reads_none records.clean records.params records.leaves old) c.from_residual.result c.in_err-edit.field-0.0 (search rules) (λ clean.
    key_refused now now c.config.result.now c.config.ensures.config c.args.supplier c.args.key c.from_residual.result c.in_err-edit.field-0.0 (search rules) (search rules))

pub returns : goal.returns
returns g c =
    let records = g.R.Records in
    let old = c.args.records.now in
    let edit = c.in_ok-edit.edit in
    carries records _ old old (reads_none records.clean records.params records.leaves old) c.apply.new.self (edit ∷ []) c.apply.result (λ clean last r.
    key_carried (records.stands old) last c.config.result.now c.config.ensures.config c.args.supplier c.args.key edit r (search rules))
    (search rules)
