use Rattle.std.proofs.Common.{◌≡◌, ℕ, ◌<◌, ◌≤◌, false}
use Rattle.fr_base.specs.RefusedWishes.{holds}
use Rattle.fr_world.specs.Pages.{own_rows_of}
use Rattle.fr_world.proofs.proposal.slots.holds_slot.Given as goal

-- none before
abbrev pub invariant-loop-number : goal.invariant-loop-number
invariant-loop-number l = (k : ℕ) → 1 ≤ k → k < l.number → holds (own_rows_of l.page) l.node l.channels k ≡ false
