use Rattle.std.proofs.Common.{rules, refl, subst, List}
use Rattle.fr_office.specs.Carried.{CarriesEdits}
use Rattle.fr_world.specs.declared.edit.Edit.{Edit}
use Rattle.fr_office.proofs.CallLaws.{carries, refuses}
use Rattle.fr_office.proofs.FreshLaws.{lent-takes}
use Rattle.fr_office.proofs.RowsLaws.{frame-asked, rows_made, rows_refused, rows_stopped}
use Rattle.fr_office.proofs.commands.rows.change_frame.Goals as goal

pub change-requires : goal.change-requires
change-requires g c = record {
  takes = lent-takes (g.R.Lender.lent c.open_page.new.records) c.lent.result.now _ c.in_ok-edits.edits.items c.deref.result.now c.lent.ensures c.deref.ensures.value c.in_ok-edits.ensures.leads;
}

pub returns-in_err-open_page : goal.returns-in_err-open_page
returns-in_err-open_page g c =
    let opens = c.in_err-open_page.ensures.opens in
    refuses g.R.Records _ _ _ opens.reads _ c.in_err-open_page.field-0.0 (search rules) (λ clean.
    rows_stopped _ _ _ _ _ _ (frame-asked _ _ _ c.requires.frame) _ (g.R.Lender.lent c.open_page.new.records) _ _ (search rules) (opens.told clean))

pub returns-in_err-edits : goal.returns-in_err-edits
returns-in_err-edits g c =
    let opens = c.in_ok-open_page.ensures.opens in
    refuses g.R.Records _ _ _ opens.reads _ c.in_err-edits.field-0.0 (search rules) (λ clean.
    rows_refused _ _ _ _ _ _ (frame-asked _ _ _ c.requires.frame) _ _ _ c.lent.ensures (opens.told clean)
    (λ cl b stood stands. c.requires.known cl b stood)
    _ _ (search rules) c.in_err-edits.ensures.refusal)

pub returns : goal.returns
returns g c =
    let opens = c.in_ok-open_page.ensures.opens in
    carries g.R.Records _ _ _ opens.reads c.change.new.self _ c.change.result (λ clean.
    rows_made _ _ _ _ _ _ (frame-asked _ _ _ c.requires.frame) _ _ _ c.lent.ensures (opens.told clean)
    (λ cl b stood stands. c.requires.known cl b stood)
    _ c.in_ok-edits.ensures.edits refl (search rules))
    (subst (λ (es : List Edit). CarriesEdits g.R.Records es c.open_page.new.records c.change.new.self c.change.result) c.deref.ensures.value c.change.ensures.carries)
