use Rattle.std.proofs.Common.{rules, refl, subst, Err, List}
use Rattle.fr_base.specs.declared.refusal.Refusal.TheVariants.{NoSupplier}
use Rattle.fr_office.specs.Carried.{CarriesEdits}
use Rattle.fr_world.specs.declared.edit.Edit.{Edit}
use Rattle.fr_office.proofs.CallLaws.{carries, refuses}
use Rattle.fr_office.proofs.CommandLaws.{named-there}
use Rattle.fr_office.proofs.FreshLaws.{lent-takes}
use Rattle.fr_office.proofs.RowsLaws.{revoke-asked, revoke-checked, rows_made, rows_refused, rows_stopped, rows_unnamed, some_of}
use Rattle.fr_office.proofs.commands.rows.revoke.Goals as goal

pub change-requires : goal.change-requires
change-requires g c = record {
  takes = lent-takes (g.R.Lender.lent c.open_page.new.records) c.lent.result.now _ c.in_ok-edits.edits.items c.deref.result.now c.lent.ensures c.deref.ensures.value c.in_ok-edits.ensures.leads;
}

pub returns-in_err-open_page : goal.returns-in_err-open_page
returns-in_err-open_page g c =
    let opens = c.in_err-open_page.ensures.opens in
    refuses g.R.Records _ _ _ opens.reads _ c.in_err-open_page.field-0.0 (search rules) (λ clean.
    rows_stopped _ _ _ _ _ _ (revoke-asked _ _ _ c.requires.revokes) _ (g.R.Lender.lent c.open_page.new.records) _ _ (search rules) (opens.told clean))

pub returns-then-not-has_supplier : goal.returns-then-not-has_supplier
returns-then-not-has_supplier g c =
    let opens = c.in_ok-open_page.ensures.opens in
    let lent = some_of (g.R.Lender.lent c.open_page.new.records) c.in_ok-open_page.ensures.lent in
    refuses g.R.Records _ _ _ opens.reads (Err NoSupplier) NoSupplier refl (λ clean.
    rows_unnamed _ _ _ _ _ _ (revoke-asked _ _ _ c.requires.revokes) _ _ _ lent.1 (opens.told clean)
    (named-there _ c.config.result.now _ _ _ c.config.ensures.config c.has_supplier.ensures c.if-not-has_supplier.true))

pub returns-in_err-edits : goal.returns-in_err-edits
returns-in_err-edits g c =
    let opens = c.in_ok-open_page.ensures.opens in
    refuses g.R.Records _ _ _ opens.reads _ c.in_err-edits.field-0.0 (search rules) (λ clean.
    rows_refused _ _ _ _ _ _ (revoke-asked _ _ _ c.requires.revokes) _ _ _ c.lent.ensures (opens.told clean)
    (λ cl b stood. named-there _ c.config.result.now _ _ _ c.config.ensures.config c.has_supplier.ensures c.if-not-has_supplier.false cl b)
    _ _ (search rules) c.in_err-edits.ensures.refusal)

pub returns : goal.returns
returns g c =
    let opens = c.in_ok-open_page.ensures.opens in
    carries g.R.Records _ _ _ opens.reads c.change.new.self _ c.change.result (λ clean.
    rows_made _ _ _ _ _ _ (revoke-asked _ _ _ c.requires.revokes) _ _ _ c.lent.ensures (opens.told clean)
    (λ cl b stood. named-there _ c.config.result.now _ _ _ c.config.ensures.config c.has_supplier.ensures c.if-not-has_supplier.false cl b)
    _ c.in_ok-edits.ensures.edits refl (revoke-checked _ _ c.requires.revokes))
    (subst (λ (es : List Edit). CarriesEdits g.R.Records es c.open_page.new.records c.change.new.self c.change.result) c.deref.ensures.value c.change.ensures.carries)
