-- The frames so far fill their cells, which they do not share.
use Rattle.std.proofs.Common.{◌≡◌, map}
use Rattle.std.specs.Map.Iter.{deref_pair}
use Rattle.fr_world.specs.PageCells.{ShareNone}
use Rattle.fr_world.proofs.DecideFilling.{filled_in}
use Rattle.fr_world.proofs.build.cells.cells_of.Given as goal

abbrev pub invariant-loop-name : goal.invariant-loop-name
invariant-loop-name l = (l.cells ≡ filled_in (map deref_pair l.yielded)) × ShareNone l.cells
