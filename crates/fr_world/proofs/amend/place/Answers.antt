use Rattle.std.proofs.Common.{◌≡◌, ◌∙◌, Some, option_map, refl, sym, ap, subst}
use Rattle.std.specs.BTreeMap.{is_at}
use Rattle.fr_base.specs.Step.{frame_after}
use Rattle.fr_base.specs.declared.request.FrameChange.TheVariants.{Place}
use Rattle.fr_world.specs.Amends.{as_frame}
use Rattle.fr_world.specs.PageCells.{ArePlaced, has_placement}
use Rattle.fr_world.specs.Pages.{frame_data, frames_data}
use Rattle.fr_world.specs.declared.page.PageFrame.{PageFrame}
use Rattle.fr_world.proofs.KeyLaws.{name_cmp}
use Rattle.fr_world.proofs.AmendLaws.{data_set, lent_changes, none_changes, placed_makes, on_ok, on_err}
use Rattle.fr_world.proofs.PlacedLaws.{any, any-add, by_result, place-placed, there, there-is}
use Rattle.fr_world.proofs.amend.place.Goals as goal

pub put_placement-requires : goal.put_placement-requires
put_placement-requires c =
    c.requires.placed c.args.name c.args.placement
    ∙ ap (has_placement c.args.placement) (there-is c.args.name c.args.frames.now.entries ∙ ap (option_map as_frame) (sym c.in-Some.ensures.value))

pub returns-in-Some-clause-ok : goal.returns-in-Some-clause-ok
returns-in-Some-clause-ok c =
    let g : PageFrame = record { node = c.in-Some.frame.now.node; placements = c.put_placement.new.placements; layout = c.in-Some.frame.now.layout } in
    on_ok c.put_placement.result (λ made words. lent_changes words c.args.name (Place c.args.placement) c.in-Some.frame.now g c.args.frames.now.entries (c.get_mut.follows.lender g).entries c.get_mut.ensures.ordered (c.get_mut.follows.holds g).4 c.in-Some.ensures.value (c.get_mut.follows.holds g).0
    (placed_makes (Place c.args.placement) c.args.placement c.in-Some.frame.now c.put_placement.new.placements.keys refl made) refl (λ _. c.put_placement.ensures.order)) c.put_placement.ensures.table

pub returns-in-Some-clause-err : goal.returns-in-Some-clause-err
returns-in-Some-clause-err c =
    let g : PageFrame = record { node = c.in-Some.frame.now.node; placements = c.put_placement.new.placements; layout = c.in-Some.frame.now.layout } in
    on_err c.put_placement.result
    (λ same. (ap frames_data (c.get_mut.follows.holds g).0 ∙ data_set (is_at (name_cmp c.args.name)) c.in-Some.frame.now g c.args.frames.now.entries c.in-Some.ensures.value (ap (λ ks. record (frame_data c.in-Some.frame.now) { placements = ks }) same.0), same.1))
    c.put_placement.ensures.err

pub returns-in-Some-clause-placed : goal.returns-in-Some-clause-placed
returns-in-Some-clause-placed c =
    let es = c.args.frames.now.entries in
    let name = c.args.name in
    let g : PageFrame = record { node = c.in-Some.frame.now.node; placements = c.put_placement.new.placements; layout = c.in-Some.frame.now.layout } in
    let later = (c.get_mut.follows.lender g).entries in
    let found : there name es ≡ Some (as_frame c.in-Some.frame.now) = there-is name es ∙ ap (option_map as_frame) (sym c.in-Some.ensures.value) in
    by_result c.put_placement.result (returns-in-Some-clause-ok c) c.put_placement.ensures.placed (returns-in-Some-clause-err c) c.put_placement.ensures.kept
    (λ changed more. place-placed 0 name es later c.args.cells.now c.requires.placed (as_frame c.in-Some.frame.now) found c.args.placement (changed 0) c.put_placement.new.cells
    (λ f q. ap (any f q) more ∙ any-add c.args.cells.now name c.args.placement f q))
    (λ same kept. subst (ArePlaced c.put_placement.new.cells) (sym same.0) (λ f q. kept f q ∙ c.requires.placed f q))

pub returns-in-None-clause-ok : goal.returns-in-None-clause-ok
unfolding frame_after
returns-in-None-clause-ok c words =
    none_changes words c.args.name (Place c.args.placement) c.args.frames.now.entries c.get_mut.follows.lender-at-none.entries c.in-None.ensures.value (ap (λ m. m.entries) c.get_mut.follows.holds-at-none) refl
