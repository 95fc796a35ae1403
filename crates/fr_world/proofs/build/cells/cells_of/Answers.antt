use Rattle.std.proofs.Common.{◌≡◌, ◌++◌, ◌∷◌, List, map, sym, ap, subst, ◌∙◌, append_assoc}
use Rattle.std.proofs.lemmas.List.Concat.{flat_map-append}
use Rattle.std.proofs.lemmas.Map.Iter.{iter_end, rest_more, rest_so_far}
use Rattle.std.specs.Map.Iter.{deref_pair}
use Rattle.fr_base.specs.declared.name.Name.{Name}
use Rattle.fr_base.specs.declared.placement.Placement.{Placement}
use Rattle.fr_world.specs.declared.page.PageFrame.{PageFrame}
use Rattle.fr_world.specs.Decisions.{filled_by}
use Rattle.fr_world.specs.PageCells.{ShareNone, pairs_in}
use Rattle.fr_world.specs.Pages.{frame_data, frame_of, frames_data}
use Rattle.fr_world.proofs.DecideFilling.{filled_in}
use Rattle.fr_world.proofs.BuildLaws.{pairs-filled}
use Rattle.fr_world.proofs.build.cells.cells_of.Goals as goal

pub returns-then-not-branch-clause-none : goal.returns-then-not-branch-clause-none
returns-then-not-branch-clause-none c share =
    let all : List (Name × PageFrame) = c.args.rows.now.frames.entries in
    let so_far : List (Name × PageFrame) = map deref_pair c.loop-name.yielded in
    let e : Name × PageFrame = (c.in-Some.name.now, c.in-Some.frame.now) in
    let here : List (Name × Placement) = filled_by e.0 (frame_of (frame_data e.1)) in
    let start = c.into_iter-name-iterator.ensures.into_iter_gives in
    let split : all ≡ so_far ++ e ∷ c.next.new.self =
    sym start.0 ∙ rest_so_far deref_pair c.loop-name.yielded _ c.loop-name.name-iterator c.loop-name.yielded_by
    ∙ ap (λ es. so_far ++ es) (rest_more deref_pair c.loop-name.name-iterator c.next.new.self c.next.result (c.in-Some.name, c.in-Some.frame) c.in-Some.is c.next.ensures.steps) in
    let pairs : pairs_in (frames_data all) ≡ (c.loop-name.cells ++ here) ++ filled_in c.next.new.self =
    pairs-filled all ∙ ap filled_in split ∙ flat_map-append (λ e. filled_by e.0 (frame_of (frame_data e.1))) so_far (e ∷ c.next.new.self)
    ∙ sym (append_assoc (filled_in so_far) here (filled_in c.next.new.self))
    ∙ ap (λ ps. (ps ++ here) ++ filled_in c.next.new.self) (sym c.loop-name.invariant.0) in
    c.in_ok-fill.ensures.taken c.if-not-branch.true (filled_in c.next.new.self) (subst ShareNone pairs share)

pub returns-clause-some : goal.returns-clause-some
returns-clause-some c =
    let all : List (Name × PageFrame) = c.args.rows.now.frames.entries in
    let start = c.into_iter-name-iterator.ensures.into_iter_gives in
    let whole : map deref_pair c.loop-name.yielded ≡ all = (iter_end deref_pair all c.loop-name.yielded _ c.loop-name.name-iterator c.next.new.self c.next.result start.0 c.loop-name.yielded_by c.in-None.is c.next.ensures.steps).0 in
    (c.loop-name.invariant.0 ∙ ap filled_in whole ∙ sym (pairs-filled all), c.loop-name.invariant.1)
