use Rattle.std.proofs.Common.{take}
use Rattle.fr_office.proofs.ComparedLaws.{GatheredSoFar}
use Rattle.fr_world.specs.Held.{Reads}
use Rattle.fr_office.proofs.queries.differences.gather.Given as goal

-- what was gathered of the suppliers so far
abbrev pub invariant-loop-supplier : goal.invariant-loop-supplier
invariant-loop-supplier g l =
    let records = g.R.Records in
    record {
      reads : Reads records.clean records.params records.leaves l.fn.records l.records;
      gathered : records.clean l.records →
          GatheredSoFar (records.stands l.fn.records) (records.stands l.records) l.variant l.from (take l.supplier-index l.suppliers) l.old_holders.entries l.new_holders.entries l.told;
    }
