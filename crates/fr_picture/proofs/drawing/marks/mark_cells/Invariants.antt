use Rattle.std.proofs.Common.{◌≡◌, ℕ, false, ◌||◌, get_or, take}
use Rattle.std.proofs.Math.Dec.{eqb}
use Rattle.std.specs.List.{list_any}
use Rattle.fr_picture.proofs.drawing.marks.mark_cells.Given as goal

-- those up to here are marked
abbrev pub invariant-loop-cell : goal.invariant-loop-cell
invariant-loop-cell l = (n : ℕ) → get_or l.marks n false ≡ (get_or l.initial.marks n false || list_any (λ s. eqb s.slot n) (take l.cell-index l.cells))
