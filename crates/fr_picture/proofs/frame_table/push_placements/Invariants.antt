use Rattle.std.proofs.Common.{◌≡◌, ◌++◌, take}
use Rattle.std.specs.List.{flat_map}
use Rattle.std.specs.String.{string_bytes}
use Rattle.fr_picture.specs.FrameTables.{placement_text}
use Rattle.fr_picture.proofs.frame_table.push_placements.Given as goal

-- the text of those up to here
abbrev pub invariant-loop-placement : goal.invariant-loop-placement
invariant-loop-placement l = string_bytes l.out ≡ string_bytes l.initial.out ++ flat_map (placement_text l.number) (take l.placement-index l.placements)
