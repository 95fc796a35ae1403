use Rattle.std.proofs.Common.{◌∙◌, ◌-◌, ap, arith, length}
use Rattle.fr_picture.specs.Places.{lane_width}
use Rattle.fr_picture.specs.Shown.{is_used, shown_of}
use Rattle.fr_picture.proofs.LaneLemmas.{drawing_of}
use Rattle.fr_picture.proofs.drawing.draw.Goals as goal

pub returns : goal.returns
returns c =
    let bands = c.of-bands.ensures in
    let columns = c.in_ok-columns.ensures in
    let empty = c.in_ok-lanes.ensures in
    let held = c.in_ok-add_grants.ensures in
    let full = c.in_ok-add_cells.ensures in
    drawing_of c.args.params.now _ _ _ _ _ _ _ _ _ _ _ _ _ bands.channels bands.shift bands.whole bands.beside c.scale-scale.ensures
    (c.in_ok-shown.ensures.value _ c.of.ensures ∙ ap (shown_of (is_used c.args.grants.now c.args.cells.now c.args.changes.now)) c.static_slots.ensures.value) (bands.room ∙ ap (lane_width (c.of-bands.result.end - 4)) c.as_slice.ensures.value)
    (columns.shown ∙ c.as_slice-2.ensures.value) columns.order columns.opened columns.named columns.wide columns.from columns.beside
    c.as_slice-3.ensures.value (omega (arith, c.in_ok-lanes.lanes.ok, empty.len, ap length c.as_slice-3.ensures.value, c.in_ok-columns.columns.ok, columns.len, ap length c.as_slice-2.ensures.value, c.in_ok-shown.shown.ok, c.in_ok-shown.ensures.len))
    empty.grants empty.cells empty.apart empty.filled empty.home empty.at
    held.grants held.cells held.held_in_turn held.still held.apart held.filled held.home held.at
    full.len full.cells full.grants full.in_turn full.still full.apart full.filled full.home full.at
