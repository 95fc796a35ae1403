use Rattle.std.proofs.Common.{◌≡◌, ◌++◌, ◌∷◌, [], List, map, sym, ap, subst, ◌∙◌, append_assoc, true≢false}
use Rattle.std.proofs.lemmas.List.{append-nil}
use Rattle.std.proofs.lemmas.Map.Iter.{rest_all, rest_more}
use Rattle.std.specs.Map.Iter.{deref}
use Rattle.fr_base.specs.declared.name.Name.{Name}
use Rattle.fr_base.specs.declared.placement.Placement.{Placement}
use Rattle.fr_world.specs.Decisions.{filled_by}
use Rattle.fr_world.specs.PageCells.{ShareNone}
use Rattle.fr_world.specs.Pages.{frame_data, frame_of}
use Rattle.fr_world.proofs.DecideFilling.{apart-free, free-apart}
use Rattle.fr_world.proofs.DecideRows.{placements-kept}
use Rattle.fr_world.proofs.build.cells.fill.Goals as goal

pub returns-then-not-free-clause-taken : goal.returns-then-not-free-clause-taken
returns-then-not-free-clause-taken c e later share =
    let before : List (Name × Placement) = c.args.cells.now in
    let filled : List (Name × Placement) = c.loop-placement.cells in
    let pair : Placement → Name × Placement = λ q. (c.args.name, q) in
    let rest : List (Name × Placement) = map pair c.next.new.self in
    let next : c.loop-placement.placement-iterator ≡ c.in-Some.placement.now ∷ c.next.new.self = rest_more deref c.loop-placement.placement-iterator c.next.new.self c.next.result c.in-Some.placement c.in-Some.is c.next.ensures.steps in
    let kept : filled_by c.args.name (frame_of (frame_data c.args.frame.now)) ≡ map pair c.args.frame.now.placements.keys = ap (map pair) (placements-kept (frame_data c.args.frame.now) c.into_iter-placement-iterator.ensures.into_iter_gives.4) in
    let all : (before ++ filled_by c.args.name (frame_of (frame_data c.args.frame.now))) ++ later ≡ filled ++ (c.args.name, c.in-Some.placement.now) ∷ (rest ++ later) =
    ap (λ ps. ps ++ later) (ap (λ ps. before ++ ps) kept ∙ sym c.loop-placement.invariant.0 ∙ ap (λ qs. filled ++ map pair qs) next) ∙ append_assoc filled ((c.args.name, c.in-Some.placement.now) ∷ rest) later in
    absurd (true≢false (sym (free-apart filled c.args.name c.in-Some.placement.now (rest ++ later) (subst ShareNone all share)) ∙ sym c.free.ensures ∙ c.if-not-free.true))

pub loop-placement-preserved : goal.loop-placement-preserved
loop-placement-preserved c =
    let filled : List (Name × Placement) = c.loop-placement.cells in
    let pair : Placement → Name × Placement = λ q. (c.args.name, q) in
    let next : c.loop-placement.placement-iterator ≡ c.in-Some.placement.now ∷ c.next.new.self = rest_more deref c.loop-placement.placement-iterator c.next.new.self c.next.result c.in-Some.placement c.in-Some.is c.next.ensures.steps in (
      ap (λ ps. ps ++ map pair c.next.new.self) c.in_ok-add.ensures.ok
          ∙ append_assoc filled ((c.args.name, c.in-Some.placement.now) ∷ []) (map pair c.next.new.self)
          ∙ ap (λ qs. filled ++ map pair qs) (sym next)
          ∙ c.loop-placement.invariant.0,
      subst ShareNone (sym c.in_ok-add.ensures.ok) (apart-free filled c.args.name c.in-Some.placement.now c.loop-placement.invariant.1 (sym c.free.ensures ∙ c.if-not-free.false)),
    )

pub returns-clause-free : goal.returns-clause-free
returns-clause-free c e =
    let before : List (Name × Placement) = c.args.cells.now in
    let filled : List (Name × Placement) = c.loop-placement.cells in
    let pair : Placement → Name × Placement = λ q. (c.args.name, q) in
    let none : c.loop-placement.placement-iterator ≡ [] = rest_all deref c.loop-placement.placement-iterator c.next.new.self c.next.result c.in-None.is c.next.ensures.steps in
    let kept : filled_by c.args.name (frame_of (frame_data c.args.frame.now)) ≡ map pair c.args.frame.now.placements.keys = ap (map pair) (placements-kept (frame_data c.args.frame.now) c.into_iter-placement-iterator.ensures.into_iter_gives.4) in (
      sym (append-nil filled) ∙ ap (λ qs. filled ++ map pair qs) (sym none) ∙ c.loop-placement.invariant.0 ∙ ap (λ ps. before ++ ps) (sym kept),
      c.loop-placement.invariant.1,
    )
