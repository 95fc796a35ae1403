use Rattle.std.proofs.Common.{◌≡◌, ◌∙◌, Some, option_map, refl, sym, ap, subst}
use Rattle.std.specs.BTreeMap.{is_at}
use Rattle.fr_base.specs.Step.{frame_after}
use Rattle.fr_base.specs.declared.request.FrameChange.TheVariants.{AddSignal}
use Rattle.fr_world.specs.Amends.{as_frame}
use Rattle.fr_world.specs.PageCells.{ArePlaced}
use Rattle.fr_world.specs.Pages.{frame_data, frames_data}
use Rattle.fr_world.specs.declared.page.PageFrame.{PageFrame}
use Rattle.fr_world.proofs.KeyLaws.{name_cmp}
use Rattle.fr_world.proofs.AmendLaws.{added_makes, data_set, lent_changes, none_changes, on_ok, on_err}
use Rattle.fr_world.proofs.PlacedLaws.{add_signal-placed, by_result, there, there-is}
use Rattle.fr_world.proofs.amend.add_signal.Goals as goal

pub returns-in-Some-clause-ok : goal.returns-in-Some-clause-ok
returns-in-Some-clause-ok c =
    let g : PageFrame = record { node = c.in-Some.frame.now.node; placements = c.in-Some.frame.now.placements; layout = c.put_signal.new.layout } in
    on_ok c.put_signal.result (λ made words. lent_changes words c.args.name (AddSignal c.args.signal) c.in-Some.frame.now g c.args.frames.now.entries (c.get_mut.follows.lender g).entries c.get_mut.ensures.ordered (c.get_mut.follows.holds g).4 c.in-Some.ensures.value (c.get_mut.follows.holds g).0
    (added_makes (AddSignal c.args.signal) c.args.signal c.in-Some.frame.now c.put_signal.new.layout refl made) (ap (λ l. l.words) made) (λ rises. rises)) c.put_signal.ensures.ok

pub returns-in-Some-clause-err : goal.returns-in-Some-clause-err
returns-in-Some-clause-err c =
    let g : PageFrame = record { node = c.in-Some.frame.now.node; placements = c.in-Some.frame.now.placements; layout = c.put_signal.new.layout } in
    on_err c.put_signal.result
    (λ same. (ap frames_data (c.get_mut.follows.holds g).0 ∙ data_set (is_at (name_cmp c.args.name)) c.in-Some.frame.now g c.args.frames.now.entries c.in-Some.ensures.value (ap (λ l. record (frame_data c.in-Some.frame.now) { layout = l }) same.0), same.1))
    c.put_signal.ensures.err

pub returns-in-Some-clause-placed : goal.returns-in-Some-clause-placed
returns-in-Some-clause-placed c pairs placed =
    let es = c.args.frames.now.entries in
    let g : PageFrame = record { node = c.in-Some.frame.now.node; placements = c.in-Some.frame.now.placements; layout = c.put_signal.new.layout } in
    let later = (c.get_mut.follows.lender g).entries in
    let found : there c.args.name es ≡ Some (as_frame c.in-Some.frame.now) = there-is c.args.name es ∙ ap (option_map as_frame) (sym c.in-Some.ensures.value) in
    by_result c.put_signal.result (returns-in-Some-clause-ok c) c.put_signal.ensures.ok (returns-in-Some-clause-err c) c.put_signal.ensures.err
    (λ changed _. add_signal-placed 0 c.args.name es later pairs placed (as_frame c.in-Some.frame.now) found c.args.signal (changed 0))
    (λ same _. subst (ArePlaced pairs) (sym same.0) placed)

pub returns-in-None-clause-ok : goal.returns-in-None-clause-ok
unfolding frame_after
returns-in-None-clause-ok c words =
    none_changes words c.args.name (AddSignal c.args.signal) c.args.frames.now.entries c.get_mut.follows.lender-at-none.entries c.in-None.ensures.value (ap (λ m. m.entries) c.get_mut.follows.holds-at-none) refl
