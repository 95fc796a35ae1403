use Rattle.std.proofs.Common.{◌≡◌, ◌++◌, map, take}
use Rattle.fr_text.specs.Report.{placement_line}
use Rattle.fr_text.specs.Styles.{marked}
use Rattle.fr_text.specs.Words.{Extends}
use Rattle.fr_text.proofs.report.frames.push_placements.Given as goal

-- the lines of the placements up to here
abbrev pub invariant-loop-placement : goal.invariant-loop-placement
invariant-loop-placement l = record {
  text : l.out.items ≡ l.initial.out.items ++ marked l.mark (map placement_line (take l.placement-index l.placements));
  extends : Extends l.fn.out.items l.out.items;
}
