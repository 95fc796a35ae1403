use Rattle.std.proofs.Common.{rules, refl}
use Rattle.fr_picture.proofs.PlanLaws.{cells_refused, frames_refused, grants_refused, plan_read, row_lacks, suppliers_lack}
use Rattle.fr_picture.proofs.plan_reader.plan_alone.Goals as goal

pub returns-in_err-grants-clause-reads : goal.returns-in_err-grants-clause-reads
returns-in_err-grants-clause-reads g c = λ now.
    grants_refused c.args.view.now.reader c.args.view.now.variant.now (g.D.Desk.stands c.args.desk.now) (g.D.Desk.stands c.grants.new.desk)
    c.from_residual.result c.in_err-grants.field-0.0 (search rules) (c.in_err-grants.ensures.does now)

pub returns-in_err-cells-clause-reads : goal.returns-in_err-cells-clause-reads
returns-in_err-cells-clause-reads g c = λ now.
    let granted = c.schedule.ensures.falls now in
    cells_refused c.args.view.now.reader c.args.view.now.variant.now (g.D.Desk.stands c.args.desk.now) (g.D.Desk.stands c.grants.new.desk)
    c.in_ok-grants.grants (c.in_ok-grants.ensures.does granted) (g.D.Desk.stands c.schedule.new.desk)
    c.from_residual-in_err-cells.result c.in_err-cells.field-0.0 (search rules) (c.in_err-cells.ensures.does now)

pub returns-in_err-frames-clause-reads : goal.returns-in_err-frames-clause-reads
returns-in_err-frames-clause-reads g c = λ now.
    let scheduled = c.frames.ensures.falls now in
    let granted = c.schedule.ensures.falls scheduled in
    frames_refused c.args.view.now.reader c.args.view.now.variant.now (g.D.Desk.stands c.args.desk.now) (g.D.Desk.stands c.grants.new.desk)
    c.in_ok-grants.grants (c.in_ok-grants.ensures.does granted) (g.D.Desk.stands c.schedule.new.desk)
    c.in_ok-cells.cells (c.in_ok-cells.ensures.does scheduled) (g.D.Desk.stands c.frames.new.desk)
    c.from_residual-in_err-frames.result c.in_err-frames.field-0.0 (search rules) (c.in_err-frames.ensures.does now)

pub returns-in_err-row-clause-reads : goal.returns-in_err-row-clause-reads
returns-in_err-row-clause-reads g c = λ now.
    let framed = c.variant_row.ensures.falls now in
    let scheduled = c.frames.ensures.falls framed in
    let granted = c.schedule.ensures.falls scheduled in
    row_lacks c.args.view.now.reader c.args.view.now.variant.now (g.D.Desk.stands c.args.desk.now) (g.D.Desk.stands c.grants.new.desk)
    c.in_ok-grants.grants (c.in_ok-grants.ensures.does granted) (g.D.Desk.stands c.schedule.new.desk)
    c.in_ok-cells.cells (c.in_ok-cells.ensures.does scheduled) (g.D.Desk.stands c.frames.new.desk)
    c.in_ok-frames.frames.items (c.in_ok-frames.ensures.does framed) (g.D.Desk.stands c.variant_row.new.desk)
    c.from_residual-in_err-row.result c.in_err-row.field-0.0 (search rules) (c.in_err-row.ensures.does now)

pub returns-in_err-suppliers-clause-reads : goal.returns-in_err-suppliers-clause-reads
returns-in_err-suppliers-clause-reads g c = λ now.
    let framed = c.variant_row.ensures.falls now in
    let scheduled = c.frames.ensures.falls framed in
    let granted = c.schedule.ensures.falls scheduled in
    suppliers_lack c.args.view.now.reader c.args.view.now.variant.now (g.D.Desk.stands c.args.desk.now) (g.D.Desk.stands c.grants.new.desk)
    c.in_ok-grants.grants (c.in_ok-grants.ensures.does granted) (g.D.Desk.stands c.schedule.new.desk)
    c.in_ok-cells.cells (c.in_ok-cells.ensures.does scheduled) (g.D.Desk.stands c.frames.new.desk)
    c.in_ok-frames.frames.items (c.in_ok-frames.ensures.does framed) (g.D.Desk.stands c.variant_row.new.desk)
    c.in_ok-row.row c.from_residual-in_err-suppliers.result (search rules) (c.in_ok-row.ensures.does now)

pub returns-clause-reads : goal.returns-clause-reads
returns-clause-reads g c = λ now.
    let framed = c.variant_row.ensures.falls now in
    let scheduled = c.frames.ensures.falls framed in
    let granted = c.schedule.ensures.falls scheduled in
    plan_read c.args.view.now.reader c.args.view.now.variant.now (g.D.Desk.stands c.args.desk.now) (g.D.Desk.stands c.grants.new.desk)
    c.in_ok-grants.grants (c.in_ok-grants.ensures.does granted) (g.D.Desk.stands c.schedule.new.desk)
    c.in_ok-cells.cells (c.in_ok-cells.ensures.does scheduled) (g.D.Desk.stands c.frames.new.desk)
    c.in_ok-frames.frames.items (c.in_ok-frames.ensures.does framed) (g.D.Desk.stands c.variant_row.new.desk)
    c.in_ok-row.row c.params.result c.supplier_of.result c.in_ok-suppliers.suppliers c.config-config.result.now c.in_ok-frames.frames c.supplier_of.ensures refl
    (c.in_ok-row.ensures.does now) c.params.ensures.value c.config-config.ensures c.in_ok-suppliers.ensures
