use Rattle.std.proofs.Common.{rules}
use Rattle.fr_picture.proofs.PlanLaws.{row_lacked, row_read, row_refused}
use Rattle.fr_picture.proofs.plan_reader.variant_row.Goals as goal

pub returns-in_err-rows : goal.returns-in_err-rows
returns-in_err-rows g c = record {
  does = λ clean.
      row_refused (g.D.Desk.stands c.args.desk.now) (g.D.Desk.stands c.variants.new.desk) c.args.view.now.reader c.args.view.now.variant.now
      c.from_residual.result c.in_err-rows.field-0.0 (search rules) (c.in_err-rows.ensures.does clean);
  falls = search rules;
}

pub returns-in-Some : goal.returns-in-Some
returns-in-Some g c = record {
  does = λ clean.
      row_read (g.D.Desk.stands c.args.desk.now) (g.D.Desk.stands c.variants.new.desk) c.args.view.now.reader c.args.view.now.variant.now
      c.in_ok-rows.rows c.in-Some.row.now (c.in_ok-rows.ensures.does clean) (search rules) (search rules);
  falls = search rules;
}

pub returns : goal.returns
returns g c = record {
  does = λ clean.
      row_lacked (g.D.Desk.stands c.args.desk.now) (g.D.Desk.stands c.variants.new.desk) c.args.view.now.reader c.args.view.now.variant.now
      c.in_ok-rows.rows (c.in_ok-rows.ensures.does clean);
  falls = search rules;
}
