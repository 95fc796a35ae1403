use Rattle.std.proofs.Common.{◌≡◌, ◌*◌, ◌++◌}
use Rattle.std.specs.List.{flat_map, range_with_len}
use Rattle.std.specs.String.{string_bytes}
use Rattle.fr_picture.specs.Kinds.{box_text}
use Rattle.fr_picture.proofs.sets.push_repeated.Given as goal

-- the cells up to here
abbrev pub invariant-loop-row : goal.invariant-loop-row
invariant-loop-row l = string_bytes l.out ≡ string_bytes l.initial.out ++ flat_map (λ k. box_text (k * l.repetition) l.width 1) (range_with_len 0 l.row)
