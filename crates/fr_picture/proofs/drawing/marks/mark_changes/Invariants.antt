use Rattle.std.proofs.Common.{◌≡◌, ℕ, false, ◌||◌, get_or, take}
use Rattle.std.specs.List.{list_any}
use Rattle.fr_picture.specs.Changes.{is_of_slot}
use Rattle.fr_picture.proofs.drawing.marks.mark_changes.Given as goal

-- those up to here are marked
abbrev pub invariant-loop-change : goal.invariant-loop-change
invariant-loop-change l = (n : ℕ) → get_or l.marks n false ≡ (get_or l.initial.marks n false || list_any (is_of_slot n) (take l.change-index l.changes))
