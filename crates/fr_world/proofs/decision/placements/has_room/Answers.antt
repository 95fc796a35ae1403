use Rattle.std.proofs.Common.{◌≡◌, ◌∙◌, false, true, nat_le, Some, sym, ap, arith, rules, tests}
use Rattle.std.proofs.lemmas.Bool.{le-leb, lt-leb}
use Rattle.fr_base.specs.declared.limits.TheConstants.{MAX_PLACEMENTS}
use Rattle.fr_base.specs.Tables.{get, len}
use Rattle.fr_base.specs.Keys.{placement_order}
use Rattle.fr_base.specs.Book.{granted}
use Rattle.fr_world.specs.Amends.{grants_of}
use Rattle.fr_world.specs.Decisions.{has_room}
use Rattle.fr_world.specs.Pages.{frame_data, frame_of, own_rows_of}
use Rattle.fr_world.proofs.DecideRows.{decide_open}
use Rattle.fr_world.proofs.DecideSteps.{room-not_granted, room-limit, room-there}
use Rattle.fr_world.proofs.KeyLaws.{placement_cmp, placements_alike}
use Rattle.fr_world.proofs.MapLaws.{len-set_of}
use Rattle.fr_world.proofs.decision.placements.has_room.Goals as goal

pub returns-in_err-row : goal.returns-in_err-row
unfolding decide_open has_room
returns-in_err-row c = search (rules, tests)

pub returns-then-not-is_granted : goal.returns-then-not-is_granted
returns-then-not-is_granted c =
    let page = own_rows_of c.args.page.now in
    let frame = frame_of (frame_data c.in_ok-row.row.now) in
    let found : get page.frames (page.supplier, c.args.frame) ≡ Some frame = search (rules, tests) in
    let none : granted page.grants page.supplier frame.node c.args.placement.now ≡ false = ap (λ es. granted (grants_of page.supplier es) page.supplier frame.node c.args.placement.now) (sym c.grants.ensures) ∙ sym (c.is_granted.ensures page.supplier) ∙ c.if-not-is_granted.true in
    room-not_granted page c.args.frame c.args.placement.now frame found none

pub returns-then-len-ge-MAX_PLACEMENTS : goal.returns-then-len-ge-MAX_PLACEMENTS
returns-then-len-ge-MAX_PLACEMENTS c =
    let page = own_rows_of c.args.page.now in
    let frame = frame_of (frame_data c.in_ok-row.row.now) in
    let found : get page.frames (page.supplier, c.args.frame) ≡ Some frame = search (rules, tests) in
    let held : granted page.grants page.supplier frame.node c.args.placement.now ≡ true = ap (λ es. granted (grants_of page.supplier es) page.supplier frame.node c.args.placement.now) (sym c.grants.ensures) ∙ sym (c.is_granted.ensures page.supplier) ∙ c.if-not-is_granted.false in
    let count : len frame.placements ≡ c.len.result = len-set_of placement_cmp placement_order (λ q. q) placements_alike c.in_ok-row.row.now.placements.keys c.len.ensures.ordered ∙ sym c.len.ensures.len in
    room-limit page c.args.frame c.args.placement.now frame found held (le-leb 8 (len frame.placements) (omega (arith, count)))

pub returns : goal.returns
returns c =
    let page = own_rows_of c.args.page.now in
    let frame = frame_of (frame_data c.in_ok-row.row.now) in
    let found : get page.frames (page.supplier, c.args.frame) ≡ Some frame = search (rules, tests) in
    let held : granted page.grants page.supplier frame.node c.args.placement.now ≡ true = ap (λ es. granted (grants_of page.supplier es) page.supplier frame.node c.args.placement.now) (sym c.grants.ensures) ∙ sym (c.is_granted.ensures page.supplier) ∙ c.if-not-is_granted.false in
    let count : len frame.placements ≡ c.len.result = len-set_of placement_cmp placement_order (λ q. q) placements_alike c.in_ok-row.row.now.placements.keys c.len.ensures.ordered ∙ sym c.len.ensures.len in
    let room : nat_le MAX_PLACEMENTS (len frame.placements) ≡ false = lt-leb 8 (len frame.placements) (omega (arith, count)) in
    room-there page c.args.frame c.args.placement.now frame found held room
