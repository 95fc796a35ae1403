use Rattle.std.proofs.Common.{◌≡◌, ◌++◌, take}
use Rattle.fr_text.specs.Styles.{marked, lines_in}
use Rattle.fr_text.specs.Words.{Extends}
use Rattle.fr_text.proofs.report.push_behind.Given as goal

-- the lines of the rows up to here
abbrev pub invariant-loop-row : goal.invariant-loop-row
invariant-loop-row g l = record {
  text : l.out.items ≡ l.initial.out.items ++ marked l.mark (lines_in g.R.Row.first g.R.Row.others l.all (take l.row-index l.rows));
  extends : Extends l.fn.out.items l.out.items;
}
