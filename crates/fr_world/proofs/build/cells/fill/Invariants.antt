-- The placements so far fill their cells, which they do not share, and those that are left follow.
use Rattle.std.proofs.Common.{◌≡◌, ◌++◌, map}
use Rattle.fr_world.specs.PageCells.{ShareNone}
use Rattle.fr_world.proofs.build.cells.fill.Given as goal

abbrev pub invariant-loop-placement : goal.invariant-loop-placement
invariant-loop-placement l =
    (l.cells ++ map (λ q. (l.name, q)) l.placement-iterator ≡ l.initial.cells ++ map (λ q. (l.name, q)) l.frame.placements.keys) × ShareNone l.cells
