use Rattle.std.proofs.Common.{◌≡◌, ◌+◌, ◌++◌}
use Rattle.std.specs.List.{flat_map, range_with_len}
use Rattle.std.specs.String.{string_bytes}
use Rattle.fr_picture.specs.Sets.{set_path}
use Rattle.fr_picture.proofs.sets.push_sets.Given as goal

-- the repetitions up to here
abbrev pub invariant-loop-index : goal.invariant-loop-index
invariant-loop-index l = string_bytes l.out ≡ string_bytes l.initial.out ++ flat_map (λ index. set_path l.scale (index + 1)) (range_with_len 0 l.index)
