use Rattle.std.proofs.Common.{◌≡◌, ◌++◌}
use Rattle.std.specs.List.{flat_map, range_with_len}
use Rattle.std.specs.String.{string_bytes}
use Rattle.fr_picture.specs.Pages.{cycle_text}
use Rattle.fr_picture.proofs.page.push_cycles.Given as goal

-- the numbers up to here
abbrev pub invariant-loop-cycle : goal.invariant-loop-cycle
invariant-loop-cycle l = string_bytes l.out ≡ string_bytes l.initial.out ++ flat_map cycle_text (range_with_len 0 l.cycle)
