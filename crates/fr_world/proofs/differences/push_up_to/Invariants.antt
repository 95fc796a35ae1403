-- What was there before stands in front. What is told of the row and of what is left comes behind what was told so far.
use Rattle.std.proofs.Common.{◌≡◌, ◌++◌, List, length}
use Rattle.fr_base.specs.Merging.{put_in}
use Rattle.fr_base.specs.declared.answer.DifferenceRow.{DifferenceRow as Told}
use Rattle.fr_world.specs.Appending.{Begins}
use Rattle.fr_world.proofs.differences.push_up_to.Given as goal

abbrev pub invariant-loop-next : goal.invariant-loop-next
invariant-loop-next g l = record {
  grown : Begins l.fn.rows l.rows;
  whole : (rest : List g.row.T.Denot → List Told) →
      l.rows ++ put_in g.T.KeyedRow.compare g.T.KeyedRow.same g.T.KeyedRow.told l.row rest l.left
      ≡ l.fn.rows ++ put_in g.T.KeyedRow.compare g.T.KeyedRow.same g.T.KeyedRow.told l.row rest l.list;
}

abbrev pub decreases-loop-next : goal.decreases-loop-next
decreases-loop-next g l = length l.left
