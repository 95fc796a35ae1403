use Rattle.std.proofs.Common.{◌≡◌, ◌++◌, take}
use Rattle.std.specs.List.{flat_map}
use Rattle.std.specs.String.{string_bytes}
use Rattle.fr_picture.specs.FrameIndexes.{entry_text}
use Rattle.fr_picture.proofs.frame_index.push_index.Given as goal

-- the text of those up to here
abbrev pub invariant-loop-entry : goal.invariant-loop-entry
invariant-loop-entry l = string_bytes l.out ≡ string_bytes l.initial.out ++ flat_map (entry_text l.names) (take l.entry-index l.index)
