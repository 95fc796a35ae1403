use Rattle.std.proofs.Common.{◌≡◌, ◌<◌, ℕ, false, get_or, length, take}
use Rattle.fr_world.specs.Sendings.{is_used}
use Rattle.fr_world.proofs.sendings.slot_marks.Given as goal

-- the slots of the placements so far
abbrev pub invariant-loop-one : goal.invariant-loop-one
invariant-loop-one l = (length l.marks ≡ 1024) × ((slot : ℕ) → slot < 1024 → get_or l.marks slot false ≡ is_used (take l.one-index l.triggerings) slot)
