use Rattle.std.proofs.Common.{◌≡◌, ◌++◌, take}
use Rattle.std.specs.List.{flat_map}
use Rattle.std.specs.String.{string_bytes}
use Rattle.fr_picture.specs.SlotTables.{lane_rows_text}
use Rattle.fr_picture.proofs.slot_table.push_rows.Given as goal

-- the text of those up to here
abbrev pub invariant-loop-lane : goal.invariant-loop-lane
invariant-loop-lane l = string_bytes l.out ≡ string_bytes l.initial.out ++ flat_map (lane_rows_text l.names l.cycles) (take l.lane-index l.lanes)
