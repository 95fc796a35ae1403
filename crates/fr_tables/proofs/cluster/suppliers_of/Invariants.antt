use Rattle.std.proofs.Common.{◌≡◌, map, take}
use Rattle.fr_tables.specs.ClusterRows.{AreFormed, shown_supplier}
use Rattle.fr_tables.proofs.cluster.suppliers_of.Given as goal

abbrev pub invariant-loop-row : goal.invariant-loop-row
invariant-loop-row l = (take l.row-index l.rows ≡ map shown_supplier l.suppliers) × AreFormed l.suppliers
