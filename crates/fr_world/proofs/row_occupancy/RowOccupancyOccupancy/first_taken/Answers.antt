use Rattle.std.proofs.Common.{◌≡◌, ◌∙◌, length, get_or, option_map, take, sym, ap, arith, rules, tests, take_all}
use Rattle.fr_world.specs.CycleChannels.{earlier}
use Rattle.fr_world.proofs.TakenLaws.{taken_among, taken_among-none, taken_by}
use Rattle.fr_world.proofs.RowLaws.{pairs, shown, taken_among-row, first_taken_cell-among}
use Rattle.fr_world.proofs.row_occupancy.RowOccupancyOccupancy.first_taken.Goals as goal

pub loop-row-init : goal.loop-row-init
loop-row-init c = sym (taken_among-none c.args.placement.now)

pub loop-row-preserved : goal.loop-row-preserved
loop-row-preserved c =
    let rows = c.args.self.now.rows.items in
    let i = c.loop-row.row-index in
    let row = c.row-item.result in
    let q = c.args.placement.now in
    let named : c.map-here.result ≡ taken_by row.frame c.first_shared.result = search (rules, tests) in
    c.first_of-found.ensures
    ∙ (λ j. earlier (c.loop-row.invariant j) ((named ∙ ap (taken_by row.frame) c.first_shared.ensures) j))
    ∙ sym (taken_among-row rows i row q (omega (arith, c.loop-row-test.true, ap length c.deref-row-items.ensures.value)) (c.row-item.is ∙ ap (λ rs. get_or rs i row) c.deref-row-items.ensures.value))

pub returns-in_err-taken : goal.returns-in_err-taken
returns-in_err-taken c =
    let rows = c.args.self.now.rows.items in
    let all : take c.loop-row.row-index rows ≡ rows = take_all c.loop-row.row-index rows (omega (arith, c.loop-row-test.false, ap length c.deref-row-items.ensures.value)) in
    c.from_residual.ensures
    ∙ ap (option_map shown) (sym c.in_err-taken.was ∙ c.loop-row.invariant ∙ ap (λ rs. taken_among (pairs rs) c.args.placement.now) all)
    ∙ first_taken_cell-among (pairs rows) c.args.placement.now

pub returns : goal.returns
returns c =
    let rows = c.args.self.now.rows.items in
    let all : take c.loop-row.row-index rows ≡ rows = take_all c.loop-row.row-index rows (omega (arith, c.loop-row-test.false, ap length c.deref-row-items.ensures.value)) in
    ap (option_map shown) (sym c.in_ok-taken.was ∙ c.loop-row.invariant ∙ ap (λ rs. taken_among (pairs rs) c.args.placement.now) all)
    ∙ first_taken_cell-among (pairs rows) c.args.placement.now
