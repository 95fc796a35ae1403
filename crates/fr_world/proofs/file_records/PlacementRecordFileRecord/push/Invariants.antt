use Rattle.std.proofs.Common.{◌≡◌, ◌++◌, map}
use Rattle.fr_world.specs.Appending.{Begins}
use Rattle.fr_world.proofs.RecordLaws.{record_of}
use Rattle.fr_world.proofs.file_records.PlacementRecordFileRecord.push.Given as goal

-- what was there stands in front, and there are the records so far, and those of the placements that are left
abbrev pub invariant-loop-placement : goal.invariant-loop-placement
invariant-loop-placement l = record {
  grown : Begins l.fn.rows l.rows;
  whole : l.rows ++ map (record_of l.supplier l.name l.frame.node) l.placement-iterator ≡ l.fn.rows ++ map (record_of l.supplier l.name l.frame.node) l.frame.placements.keys;
}
