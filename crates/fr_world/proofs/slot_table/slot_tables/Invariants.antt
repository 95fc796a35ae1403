use Rattle.std.proofs.Common.{take}
use Rattle.fr_world.specs.FirstPlaces.{AreFirst}
use Rattle.fr_world.proofs.slot_table.slot_tables.Given as goal

-- the tables of the placements so far
abbrev pub invariant-loop-place : goal.invariant-loop-place
invariant-loop-place l = AreFirst (take l.place l.triggerings) l.tables.items
