use Rattle.std.proofs.Common.{◌≡◌, ◌-◌, filter}
use Rattle.std.specs.List.{range_with_len}
use Rattle.fr_base.specs.RefusedWishes.{holds}
use Rattle.fr_world.specs.Pages.{own_rows_of}
use Rattle.fr_world.proofs.proposal.slots.held_slots.Given as goal

-- those before
abbrev pub invariant-loop-number : goal.invariant-loop-number
invariant-loop-number l = l.slots.items ≡ filter (holds (own_rows_of l.page) l.node l.channels) (range_with_len 1 (l.number - 1))
