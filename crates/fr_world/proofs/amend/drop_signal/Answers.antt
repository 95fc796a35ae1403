use Rattle.std.proofs.Common.{◌≡◌, ◌∙◌, Some, option_map, refl, sym, ap}
use Rattle.fr_base.specs.Step.{frame_after}
use Rattle.fr_base.specs.declared.request.FrameChange.TheVariants.{DropSignal}
use Rattle.fr_world.specs.Amends.{as_frame}
use Rattle.fr_world.specs.declared.page.PageFrame.{PageFrame}
use Rattle.fr_world.proofs.AmendLaws.{dropped_makes, lent_changes, none_changes}
use Rattle.fr_world.proofs.PlacedLaws.{drop_signal-placed, there, there-is}
use Rattle.fr_world.proofs.amend.drop_signal.Goals as goal

pub returns-in-Some-clause-changed : goal.returns-in-Some-clause-changed
returns-in-Some-clause-changed c words =
    let g : PageFrame = record { node = c.in-Some.frame.now.node; placements = c.in-Some.frame.now.placements; layout = c.end_signal.new.layout } in
    lent_changes words c.args.name (DropSignal c.args.signal) c.in-Some.frame.now g c.args.frames.now.entries (c.get_mut.follows.lender g).entries c.get_mut.ensures.ordered (c.get_mut.follows.holds g).4 c.in-Some.ensures.value (c.get_mut.follows.holds g).0
    (dropped_makes (DropSignal c.args.signal) c.args.signal c.in-Some.frame.now c.end_signal.new.layout refl c.end_signal.ensures) (ap (λ l. l.words) c.end_signal.ensures) (λ rises. rises)

pub returns-in-Some-clause-placed : goal.returns-in-Some-clause-placed
returns-in-Some-clause-placed c pairs placed =
    let es = c.args.frames.now.entries in
    let g : PageFrame = record { node = c.in-Some.frame.now.node; placements = c.in-Some.frame.now.placements; layout = c.end_signal.new.layout } in
    let found : there c.args.name es ≡ Some (as_frame c.in-Some.frame.now) = there-is c.args.name es ∙ ap (option_map as_frame) (sym c.in-Some.ensures.value) in
    drop_signal-placed 0 c.args.name es (c.get_mut.follows.lender g).entries pairs placed (as_frame c.in-Some.frame.now) found c.args.signal (returns-in-Some-clause-changed c 0)

pub returns-in-None-clause-changed : goal.returns-in-None-clause-changed
unfolding frame_after
returns-in-None-clause-changed c words =
    none_changes words c.args.name (DropSignal c.args.signal) c.args.frames.now.entries c.get_mut.follows.lender-at-none.entries c.in-None.ensures.value (ap (λ m. m.entries) c.get_mut.follows.holds-at-none) refl
