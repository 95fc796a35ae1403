use Rattle.std.proofs.Common.{◌≡◌, ◌∙◌, Some, option_map, refl, sym, ap, subst}
use Rattle.fr_base.specs.Step.{frame_after}
use Rattle.fr_base.specs.declared.request.FrameChange.TheVariants.{Unplace}
use Rattle.fr_world.specs.Amends.{as_frame}
use Rattle.fr_world.specs.PageCells.{ArePlaced}
use Rattle.fr_world.specs.Pages.{frames_data}
use Rattle.fr_world.specs.declared.page.PageFrame.{PageFrame}
use Rattle.fr_world.proofs.AmendLaws.{lent_changes, none_changes, unplaced_makes}
use Rattle.fr_world.proofs.PlacedLaws.{there, there-is, unplace-placed}
use Rattle.fr_world.proofs.amend.unplace.Goals as goal

pub returns-in-Some-clause-changed : goal.returns-in-Some-clause-changed
returns-in-Some-clause-changed c words =
    let g : PageFrame = record { node = c.in-Some.frame.now.node; placements = c.end_placement.new.placements; layout = c.in-Some.frame.now.layout } in
    lent_changes words c.args.name (Unplace c.args.placement.now) c.in-Some.frame.now g c.args.frames.now.entries (c.get_mut.follows.lender g).entries c.get_mut.ensures.ordered (c.get_mut.follows.holds g).4 c.in-Some.ensures.value (c.get_mut.follows.holds g).0
    (unplaced_makes (Unplace c.args.placement.now) c.args.placement.now c.in-Some.frame.now c.end_placement.new.placements.keys refl c.end_placement.ensures.table) refl (λ _. c.end_placement.ensures.order)

pub returns-in-Some-clause-placed : goal.returns-in-Some-clause-placed
returns-in-Some-clause-placed c =
    let es = c.args.frames.now.entries in
    let g : PageFrame = record { node = c.in-Some.frame.now.node; placements = c.end_placement.new.placements; layout = c.in-Some.frame.now.layout } in
    let later = (c.get_mut.follows.lender g).entries in
    let found : there c.args.name es ≡ Some (as_frame c.in-Some.frame.now) = there-is c.args.name es ∙ ap (option_map as_frame) (sym c.in-Some.ensures.value) in
    subst (λ ps. ArePlaced ps (frames_data later)) (sym c.clear.ensures)
    (unplace-placed 0 c.args.name es later c.args.cells.now c.requires.placed (as_frame c.in-Some.frame.now) found c.args.placement.now (returns-in-Some-clause-changed c 0))

pub returns-in-None-clause-changed : goal.returns-in-None-clause-changed
unfolding frame_after
returns-in-None-clause-changed c words =
    none_changes words c.args.name (Unplace c.args.placement.now) c.args.frames.now.entries c.get_mut.follows.lender-at-none.entries c.in-None.ensures.value (ap (λ m. m.entries) c.get_mut.follows.holds-at-none) refl
