use Rattle.std.proofs.Common.{◌≡◌, ◌∙◌, None, Some, Err, sym, arith, rules, tests}
use Rattle.std.proofs.lemmas.Bool.{le-leb, lt-leb}
use Rattle.fr_base.specs.declared.refusal.Refusal.TheVariants.{NoFrame}
use Rattle.fr_base.specs.Tables.{get, len}
use Rattle.fr_base.specs.Keys.{placement_order}
use Rattle.fr_world.specs.Pages.{frame_data, frame_of, own_rows_of}
use Rattle.fr_world.proofs.KeyLaws.{placement_cmp, placements_alike}
use Rattle.fr_world.proofs.MapLaws.{len-set_of}
use Rattle.fr_world.proofs.RoomLaws.{node-released, node-missing, node-full, node-there}
use Rattle.fr_world.proofs.rooms.open_node.Goals as goal

pub returns-then-released : goal.returns-then-released
returns-then-released c = node-released c.args.page.now c.args.frame (sym c.released.ensures ∙ c.if-released.true)

pub returns-in_err-row : goal.returns-in_err-row
returns-in_err-row c =
    let page = own_rows_of c.args.page.now in
    let missing : get page.frames (page.supplier, c.args.frame) ≡ None = search (rules, tests) in
    let same : c.from_residual.result ≡ Err NoFrame = search (rules, tests) in
    same ∙ node-missing c.args.page.now c.args.frame (sym c.released.ensures ∙ c.if-released.false) missing

pub returns-then-len-ge-MAX_PLACEMENTS : goal.returns-then-len-ge-MAX_PLACEMENTS
returns-then-len-ge-MAX_PLACEMENTS c =
    let page = own_rows_of c.args.page.now in
    let frame = frame_of (frame_data c.in_ok-row.row.now) in
    let found : get page.frames (page.supplier, c.args.frame) ≡ Some frame = search (rules, tests) in
    let count : len frame.placements ≡ c.len.result = len-set_of placement_cmp placement_order (λ q. q) placements_alike c.in_ok-row.row.now.placements.keys c.len.ensures.ordered ∙ sym c.len.ensures.len in
    node-full c.args.page.now c.args.frame (sym c.released.ensures ∙ c.if-released.false) frame found (le-leb 8 (len frame.placements) (omega (arith, count)))

pub returns : goal.returns
returns c =
    let page = own_rows_of c.args.page.now in
    let frame = frame_of (frame_data c.in_ok-row.row.now) in
    let found : get page.frames (page.supplier, c.args.frame) ≡ Some frame = search (rules, tests) in
    let count : len frame.placements ≡ c.len.result = len-set_of placement_cmp placement_order (λ q. q) placements_alike c.in_ok-row.row.now.placements.keys c.len.ensures.ordered ∙ sym c.len.ensures.len in
    node-there c.args.page.now c.args.frame (sym c.released.ensures ∙ c.if-released.false) frame found (lt-leb 8 (len frame.placements) (omega (arith, count)))
