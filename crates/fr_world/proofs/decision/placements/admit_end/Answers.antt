use Rattle.std.proofs.Common.{◌≡◌, ◌∙◌, false, true, Some, sym, rules, tests}
use Rattle.fr_base.specs.Tables.{get}
use Rattle.fr_base.specs.Keys.{placement_order}
use Rattle.fr_world.specs.Pages.{frame_data, frame_of, own_rows_of}
use Rattle.fr_world.proofs.DecideSteps.{unplace-none, unplace-there}
use Rattle.fr_world.proofs.KeyLaws.{placement_cmp, placements_alike}
use Rattle.fr_world.proofs.MapLaws.{contains-set_of}
use Rattle.fr_world.proofs.decision.placements.admit_end.Goals as goal

pub returns-then-not-contains : goal.returns-then-not-contains
returns-then-not-contains c =
    let page = own_rows_of c.args.page.now in
    let frame = frame_of (frame_data c.in_ok-row.row.now) in
    let found : get page.frames (page.supplier, c.args.frame) ≡ Some frame = search (rules, tests) in
    let none : c.contains.result ≡ false = search (rules, tests) in
    unplace-none page c.args.frame c.args.placement.now frame found (contains-set_of placement_cmp placement_order (λ q. q) placements_alike c.in_ok-row.row.now.placements.keys c.args.placement.now ∙ sym c.contains.ensures ∙ none)

pub returns : goal.returns
returns c =
    let page = own_rows_of c.args.page.now in
    let frame = frame_of (frame_data c.in_ok-row.row.now) in
    let found : get page.frames (page.supplier, c.args.frame) ≡ Some frame = search (rules, tests) in
    let there : c.contains.result ≡ true = search (rules, tests) in
    unplace-there page c.args.frame c.args.placement.now frame found (contains-set_of placement_cmp placement_order (λ q. q) placements_alike c.in_ok-row.row.now.placements.keys c.args.placement.now ∙ sym c.contains.ensures ∙ there)
