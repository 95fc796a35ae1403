use Rattle.std.proofs.Common.{◌≡◌, take}
use Rattle.fr_picture.proofs.reports.copy.Given as goal

abbrev pub invariant-loop-row : goal.invariant-loop-row
invariant-loop-row g l = l.copied ≡ take l.row-index l.rows
