use Rattle.std.proofs.Common.{◌≡◌, ◌-◌, filter}
use Rattle.std.specs.List.{range_with_len}
use Rattle.fr_world.specs.Sendings.{is_used}
use Rattle.fr_world.proofs.sendings.used_slots_to.Given as goal

-- the slots before that a placement is in
abbrev pub invariant-loop-number : goal.invariant-loop-number
invariant-loop-number l = l.slots.items ≡ filter (is_used l.triggerings) (range_with_len 1 (l.number - 1))
