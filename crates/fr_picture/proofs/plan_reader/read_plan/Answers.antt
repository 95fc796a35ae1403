use Rattle.std.proofs.Common.{rules}
use Rattle.fr_picture.specs.Plans.{since_of}
use Rattle.fr_picture.proofs.PlanLaws.{changes_refuse, picture_read, plan_refuses}
use Rattle.fr_picture.proofs.plan_reader.read_plan.Goals as goal

pub returns-in_err-changes-clause-reads : goal.returns-in_err-changes-clause-reads
returns-in_err-changes-clause-reads g c = λ now.
    changes_refuse c.args.view.now.reader c.args.view.now.variant.now (since_of c.args.view.now.since) (g.D.Desk.stands c.args.desk.now) (g.D.Desk.stands c.changes.new.desk)
    c.from_residual.result c.in_err-changes.field-0.0 (search rules) (c.in_err-changes.ensures.does now)

pub returns-in_err-plan-clause-reads : goal.returns-in_err-plan-clause-reads
returns-in_err-plan-clause-reads g c = λ now.
    let changed = c.plan_alone.ensures.falls now in
    plan_refuses c.args.view.now.reader c.args.view.now.variant.now (since_of c.args.view.now.since) (g.D.Desk.stands c.args.desk.now) (g.D.Desk.stands c.changes.new.desk)
    c.in_ok-changes.changes (c.in_ok-changes.ensures.does changed) (g.D.Desk.stands c.plan_alone.new.desk)
    c.from_residual-in_err-plan.result c.in_err-plan.field-0.0 (search rules) (c.in_err-plan.ensures.reads now)

pub returns-clause-reads : goal.returns-clause-reads
returns-clause-reads g c = λ now.
    let changed = c.plan_alone.ensures.falls now in
    picture_read c.args.view.now.reader c.args.view.now.variant.now (since_of c.args.view.now.since) (g.D.Desk.stands c.args.desk.now) (g.D.Desk.stands c.changes.new.desk)
    c.in_ok-changes.changes (c.in_ok-changes.ensures.does changed) (g.D.Desk.stands c.plan_alone.new.desk)
    c.in_ok-plan.plan (c.in_ok-plan.ensures.reads now)
