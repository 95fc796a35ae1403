use Rattle.std.proofs.Common.{◌≡◌, ℕ, [], ◌+◌, ◌-◌, get_or, length}
use Rattle.fr_world.proofs.slot_table.make_room.Given as goal

-- the tables are the same
abbrev pub invariant-loop-alloc : goal.invariant-loop-alloc
invariant-loop-alloc l = (n : ℕ) → get_or l.tables.items n [] ≡ get_or l.fn.tables.items n []

abbrev pub decreases-loop-alloc : goal.decreases-loop-alloc
decreases-loop-alloc l = l.number + 1 - length l.tables.items
