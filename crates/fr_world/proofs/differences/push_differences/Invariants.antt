-- What was there before stands in front. What is told of the rows that are left comes behind what was told so far. Of the newer list they
-- are all told then.
use Rattle.std.proofs.Common.{◌≡◌, ◌++◌, drop, take, map}
use Rattle.fr_base.specs.Merging.{come, merge}
use Rattle.fr_world.specs.Appending.{Begins}
use Rattle.fr_world.proofs.differences.push_differences.Given as goal

abbrev pub invariant-loop-row : goal.invariant-loop-row
invariant-loop-row g l = record {
  grown : Begins l.fn.rows l.rows;
  whole : l.rows ++ merge g.T.KeyedRow.compare g.T.KeyedRow.same g.T.KeyedRow.told (drop l.row-index l.old) l.left
      ≡ l.fn.rows ++ merge g.T.KeyedRow.compare g.T.KeyedRow.same g.T.KeyedRow.told l.old l.new;
}

abbrev pub invariant-loop-next : goal.invariant-loop-next
invariant-loop-next g l =
    l.rows ≡ l.initial.rows ++ map (come g.T.KeyedRow.compare g.T.KeyedRow.same g.T.KeyedRow.told) (take l.next-index l.next-items)
