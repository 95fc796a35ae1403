use Rattle.std.proofs.Common.{take}
use Rattle.fr_office.proofs.GatherLaws.{IsSoFar}
use Rattle.fr_world.specs.Held.{Reads}
use Rattle.fr_office.proofs.queries.gathered.gather.Given as goal

-- what was gathered from the suppliers so far
abbrev pub invariant-loop-supplier : goal.invariant-loop-supplier
invariant-loop-supplier g l =
    let records = g.R.Records in
    record {
      reads : Reads records.clean records.params records.leaves l.fn.records l.records;
      so_far : records.clean l.records →
          IsSoFar (records.stands l.fn.records) (records.stands l.records) l.variant (λ p x. g.G.Gathered.gathered p l.fn.gathered (take l.supplier-index l.suppliers) x l.gathered);
    }
