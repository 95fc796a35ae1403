use Rattle.std.proofs.Common.{refl}
use Rattle.fr_picture.proofs.PlanLaws.{since_none, since_some}
use Rattle.fr_picture.proofs.plan_reader.changes.Goals as goal

pub returns-in-Some : goal.returns-in-Some
returns-in-Some g c = record {
  does = λ clean.
      since_some (g.D.Desk.stands c.args.desk.now) (g.D.Desk.stands c.changes_since.new.desk) c.args.view.now.reader c.args.view.now.variant.now c.args.view.now.since
      c.changes_since.result c.in-Some.from c.in-Some.is (c.changes_since.ensures.does clean);
  falls = c.changes_since.ensures.falls;
}

pub returns-in-None : goal.returns-in-None
returns-in-None g c = record {
  does = λ clean.
      since_none (g.D.Desk.stands c.args.desk.now) (g.D.Desk.stands c.args.desk.now) c.args.view.now.reader c.args.view.now.variant.now c.args.view.now.since _ c.in-None.is refl refl;
  falls = λ clean. clean;
}
