use Rattle.std.proofs.Common.{◌≡◌, ◌∷◌, [], ◌&&◌, not, ap, ◌∙◌}
use Rattle.std.proofs.lemmas.Map.Iter.{rest_all, rest_more}
use Rattle.std.specs.Map.Iter.{deref}
use Rattle.fr_world.proofs.PlacedLaws.{any, at, next-taken, none-left, on-contains, rest_taken}
use Rattle.fr_world.proofs.amend.end_each.Goals as goal

pub loop-placement-init : goal.loop-placement-init
loop-placement-init c f q = ap (rest_taken f q c.args.name c.args.cells.now) c.into_iter-placement-iterator.ensures.into_iter_gives.0

pub loop-placement-preserved : goal.loop-placement-preserved
loop-placement-preserved c f q =
    let next : c.loop-placement.placement-iterator ≡ c.in-Some.placement.now ∷ c.next.new.self = rest_more deref c.loop-placement.placement-iterator c.next.new.self c.next.result c.in-Some.placement c.in-Some.is c.next.ensures.steps in
    ap (λ ps. rest_taken f q c.args.name ps c.next.new.self) c.clear.ensures
    ∙ next-taken c.loop-placement.cells c.args.name c.in-Some.placement.now c.loop-placement.placement-iterator c.next.new.self next f q
    ∙ c.loop-placement.invariant f q

pub returns : goal.returns
returns c f q =
    let none : c.loop-placement.placement-iterator ≡ [] = rest_all deref c.loop-placement.placement-iterator c.next.new.self c.next.result c.in-None.is c.next.ensures.steps in
    none-left c.loop-placement.cells c.args.name c.loop-placement.placement-iterator none f q
    ∙ c.loop-placement.invariant f q
    ∙ ap (λ b. any f q c.args.cells.now && not (at f c.args.name && b)) (on-contains q c.args.frame.now.placements.keys)
