use Rattle.std.proofs.Common.{◌≡◌, ◌++◌, take}
use Rattle.std.specs.List.{flat_map}
use Rattle.std.specs.String.{string_bytes}
use Rattle.fr_picture.specs.Kinds.{rectangle_text}
use Rattle.fr_picture.proofs.kinds.push_rectangles.Given as goal

-- the text of those up to here
abbrev pub invariant-loop-one : goal.invariant-loop-one
invariant-loop-one l = string_bytes l.out ≡ string_bytes l.initial.out ++ flat_map (rectangle_text l.scale l.index l.all) (take l.one-index l.all)
