use Rattle.std.proofs.Common.{◌≡◌, ◌++◌, take}
use Rattle.std.specs.List.{flat_map}
use Rattle.std.specs.String.{string_bytes}
use Rattle.fr_picture.specs.SlotTables.{row_text}
use Rattle.fr_picture.proofs.slot_table.push_lane.Given as goal

-- the text of those up to here
abbrev pub invariant-loop-grant : goal.invariant-loop-grant
invariant-loop-grant l = string_bytes l.out ≡ string_bytes l.initial.out ++ flat_map (row_text l.names l.cycles l.rectangles) (take l.grant-index l.lane.grants.items)
