use Rattle.std.proofs.Common.{◌≡◌, ◌<◌, ◌≤◌, ℕ, false, take}
use Rattle.fr_world.specs.Sendings.{is_used}
use Rattle.fr_world.proofs.sendings.last_slot.Given as goal

-- at least 1, and no slot past it is used so far
abbrev pub invariant-loop-one : goal.invariant-loop-one
invariant-loop-one l = (1 ≤ l.last) × ((slot : ℕ) → l.last < slot → is_used (take l.one-index l.triggerings) slot ≡ false)
