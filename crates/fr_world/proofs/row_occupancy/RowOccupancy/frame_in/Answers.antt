use Rattle.std.proofs.Common.{◌<◌, ◌≤◌, ◌∙◌, length, get_or, sym, ap, arith}
use Rattle.fr_world.proofs.MaskLaws.{cell_in, no-row, row-lacks, row-sends}
use Rattle.fr_world.proofs.row_occupancy.RowOccupancy.frame_in.Goals as goal

pub returns-then-has_cell : goal.returns-then-has_cell
returns-then-has_cell c =
    let rows = c.args.self.now.rows.items in
    let i = c.loop-row.row-index in
    let row = c.row-item.result in
    let low : i < length rows = omega (arith, c.loop-row-test.true, ap length c.deref-row-items.ensures.value) in
    row-sends (cell_in c.args.slot c.args.channel c.args.cycle) rows i row low (c.row-item.is ∙ ap (λ rs. get_or rs i row) c.deref-row-items.ensures.value) c.loop-row.invariant (sym c.has_cell.ensures ∙ c.if-has_cell.true)

pub loop-row-preserved : goal.loop-row-preserved
loop-row-preserved c =
    let rows = c.args.self.now.rows.items in
    let i = c.loop-row.row-index in
    let row = c.row-item.result in
    let low : i < length rows = omega (arith, c.loop-row-test.true, ap length c.deref-row-items.ensures.value) in
    row-lacks (cell_in c.args.slot c.args.channel c.args.cycle) rows i row low (c.row-item.is ∙ ap (λ rs. get_or rs i row) c.deref-row-items.ensures.value) c.loop-row.invariant (sym c.has_cell.ensures ∙ c.if-has_cell.false)

pub returns : goal.returns
returns c =
    let rows = c.args.self.now.rows.items in
    let over : length rows ≤ c.loop-row.row-index = omega (arith, c.loop-row-test.false, ap length c.deref-row-items.ensures.value) in
    no-row (cell_in c.args.slot c.args.channel c.args.cycle) rows c.loop-row.row-index over c.loop-row.invariant
