use Rattle.std.proofs.Common.{◌≡◌, ℕ, false, ◌||◌, get_or, take}
use Rattle.std.proofs.Math.Dec.{eqb}
use Rattle.std.specs.List.{list_any}
use Rattle.fr_picture.proofs.drawing.marks.mark_grants.Given as goal

-- those up to here are marked
abbrev pub invariant-loop-grant : goal.invariant-loop-grant
invariant-loop-grant l = (n : ℕ) → get_or l.marks n false ≡ (get_or l.initial.marks n false || list_any (λ g. eqb g.slot n) (take l.grant-index l.grants))
