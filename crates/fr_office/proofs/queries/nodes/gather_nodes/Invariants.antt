use Rattle.std.proofs.Common.{take}
use Rattle.fr_office.proofs.RegisterReplies.{AreNodes}
use Rattle.fr_world.specs.Held.{Reads}
use Rattle.fr_office.proofs.queries.nodes.gather_nodes.Given as goal

-- the nodes of the suppliers so far
abbrev pub invariant-loop-supplier : goal.invariant-loop-supplier
invariant-loop-supplier g l =
    let records = g.R.Records in
    record {
      reads : Reads records.clean records.params records.leaves l.fn.records l.records;
      gathered : records.clean l.records → AreNodes (records.stands l.fn.records) (records.stands l.records) l.rows (take l.supplier-index l.suppliers);
    }
