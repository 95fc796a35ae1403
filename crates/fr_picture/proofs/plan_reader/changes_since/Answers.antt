use Rattle.std.proofs.Common.{rules}
use Rattle.fr_picture.proofs.PlanLaws.{changes_lacked, changes_read, changes_refused, name_read}
use Rattle.fr_picture.proofs.plan_reader.changes_since.Goals as goal

pub returns-in_err-rows : goal.returns-in_err-rows
returns-in_err-rows g c = record {
  does = λ clean.
      changes_refused (g.D.Desk.stands c.args.desk.now) (g.D.Desk.stands c.differences.new.desk) c.args.view.now.reader c.args.view.now.variant.now c.args.from.now
      c.from_residual.result c.in_err-rows.field-0.0 (search rules) (c.in_err-rows.ensures.does clean);
  falls = search rules;
}

pub returns-in-Some : goal.returns-in-Some
returns-in-Some g c = record {
  does = λ clean.
      changes_read (g.D.Desk.stands c.args.desk.now) (g.D.Desk.stands c.differences.new.desk) c.args.view.now.reader c.args.view.now.variant.now c.args.from.now
      c.in-Some.name c.in_ok-rows.rows (name_read _ _ _ _ c.read.ensures c.in-Some.is) (c.in_ok-rows.ensures.does clean);
  falls = search rules;
}

pub returns-in-None : goal.returns-in-None
returns-in-None g c = record {
  does = λ clean.
      changes_lacked (g.D.Desk.stands c.args.desk.now) (g.D.Desk.stands c.differences.new.desk) c.args.view.now.reader c.args.view.now.variant.now c.args.from.now
      c.in_ok-rows.rows (c.in_ok-rows.ensures.does clean);
  falls = search rules;
}
