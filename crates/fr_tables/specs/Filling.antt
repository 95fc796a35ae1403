-- Filling: the rows of a new register: the schema's number, the cluster and its suppliers.
use Rattle.std.specs.Prelude.{◌++◌, pos, List, [], ◌∷◌, map, Result, MatchResult, IsTrue}
use Rattle.sqlite.specs.State.{State, HasCleanDisk, KeepsCommit}
use Rattle.fr_base.specs.declared.config.Supplier.{Supplier}
use Rattle.fr_base.specs.Cluster.{ClusterFile}
use Rattle.fr_tables.specs.Rows.{SupplierRow}
use Rattle.fr_tables.specs.Tables.{Tables, HasTables}
use Rattle.fr_tables.specs.Changes.{Changes}
use Rattle.fr_tables.specs.Statements.{cluster2_row}

abbrev pub supplier_row : Supplier → SupplierRow
supplier_row s = record { name = s.name; key = s.key }

abbrev pub with_suppliers : List Supplier → Tables → Tables
with_suppliers list t = record t { suppliers = t.suppliers ++ map supplier_row list }

-- the tables with the number of the schema, the cluster and its suppliers
abbrev pub with_config : ClusterFile → Tables → Tables
with_config f t = record t {
  register = t.register ++ record { schema = pos 2 } ∷ [];
  cluster2 = t.cluster2 ++ cluster2_row f.cluster.params f.cluster.integrator ∷ [];
  suppliers = t.suppliers ++ map supplier_row f.suppliers;
}

-- Several statements inside a transaction make the change, or fail and commit nothing.
abbrev pub MakesAllOf : {X E : Type 0} → (Tables → Tables) → State → State → Result X E → Type 0
MakesAllOf change old new r = HasCleanDisk new → IsTrue old.is_open → IsTrue old.in_transaction → HasTables old.now → MatchResult r (λ _. Changes change old new) (λ _. KeepsCommit old new)
