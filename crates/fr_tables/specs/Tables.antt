-- Tables: the tables of a register as lists of rows; when these are in the order of their numbers; when a database has
-- the tables of this schema, of the one before, or of either.
use Rattle.std.specs.Prelude.{◌≡◌, ◌⊎◌, List, [], ◌∷◌, map, IsTrue}
use Rattle.std.specs.List.{AllByRecursion}
use Rattle.sqlite.specs.Order.{Row}
use Rattle.sqlite.specs.Table.{Table}
use Rattle.sqlite.specs.Tree.{Trees, IsTable, rowid}
use Rattle.sqlite_trees.specs.View.{is_int}
use Rattle.sqlite.specs.Effect.{Database}
use Rattle.fr_tables.specs.Schema.{IsBehind, HasRoom, register_schema, tables_and, cluster2_at, layout_of, old_schema, old_tables}
use Rattle.fr_tables.specs.Rows.{
  RegisterRow,
  ClusterRow,
  SupplierRow,
  NodeRow,
  VariantRow,
  GrantRow,
  FrameRow,
  PlacementRow,
  SignalRow,
  ImportRow,
  DroppedRow,
  Cluster2Row,
  of_register,
  of_cluster,
  of_supplier,
  of_node,
  of_variant,
  of_grant,
  of_frame,
  of_placement,
  of_signal,
  of_import,
  of_dropped,
  of_cluster2,
  register_in,
  cluster_in,
  supplier_in,
  node_in,
  variant_in,
  grant_in,
  frame_in,
  placement_in,
  signal_in,
  import_in,
  dropped_in,
  cluster2_in,
}

pub record Tables : Type 0 where
  pub register : List RegisterRow
  pub cluster : List ClusterRow
  pub suppliers : List SupplierRow
  pub nodes : List NodeRow
  pub variants : List VariantRow
  pub grants : List GrantRow
  pub frames : List FrameRow
  pub placements : List PlacementRow
  pub signals : List SignalRow
  pub imports : List ImportRow
  pub dropped : List DroppedRow
  pub cluster2 : List Cluster2Row

abbrev pub tables_in : Trees → Tables
tables_in db = record {
  register = map register_in (db 0);
  cluster = map cluster_in (db 1);
  suppliers = map supplier_in (db 2);
  nodes = map node_in (db 5);
  variants = map variant_in (db 7);
  grants = map grant_in (db 9);
  frames = map frame_in (db 11);
  placements = map placement_in (db 13);
  signals = map signal_in (db 15);
  imports = map import_in (db 17);
  dropped = map dropped_in (db 19);
  cluster2 = map cluster2_in (db (layout_of db).cluster2);
}

-- the tables of the schema before, which has no `cluster2`
abbrev pub old_tables_in : Trees → Tables
old_tables_in db = record (tables_in db) { cluster2 = [] }

-- each row has a higher number than the row before it, and its columns are those of its value
pub record AreKept {X : Type 0} (columns : X → Row) (read : Row → X) (rows : List Row) : Type 0 where
  pub rise : IsTable rows
  pub numbered : AllByRecursion (λ r. IsTrue (is_int (rowid r))) rows
  pub typed : AllByRecursion (λ r. r ≡ rowid r ∷ columns (read r)) rows

-- the database has the tables, and the rows of each have its columns
pub record HasTables (db : Database) : Type 0 where
  pub schema : db.schema ≡ register_schema (layout_of db.trees)
  pub behind : IsBehind (layout_of db.trees)
  pub register : AreKept of_register register_in (db.trees 0)
  pub cluster : AreKept of_cluster cluster_in (db.trees 1)
  pub suppliers : AreKept of_supplier supplier_in (db.trees 2)
  pub nodes : AreKept of_node node_in (db.trees 5)
  pub variants : AreKept of_variant variant_in (db.trees 7)
  pub grants : AreKept of_grant grant_in (db.trees 9)
  pub frames : AreKept of_frame frame_in (db.trees 11)
  pub placements : AreKept of_placement placement_in (db.trees 13)
  pub signals : AreKept of_signal signal_in (db.trees 15)
  pub imports : AreKept of_import import_in (db.trees 17)
  pub dropped : AreKept of_dropped dropped_in (db.trees 19)
  pub cluster2 : AreKept of_cluster2 cluster2_in (db.trees (layout_of db.trees).cluster2)

-- the database has the tables of the schema before
pub record HasOldTables (db : Database) : Type 0 where
  pub schema : db.schema ≡ old_schema (layout_of db.trees).index (layout_of db.trees).before
  pub first : HasRoom (layout_of db.trees).index
  pub second : HasRoom (layout_of db.trees).before
  pub register : AreKept of_register register_in (db.trees 0)
  pub cluster : AreKept of_cluster cluster_in (db.trees 1)
  pub suppliers : AreKept of_supplier supplier_in (db.trees 2)
  pub nodes : AreKept of_node node_in (db.trees 5)
  pub variants : AreKept of_variant variant_in (db.trees 7)
  pub grants : AreKept of_grant grant_in (db.trees 9)
  pub frames : AreKept of_frame frame_in (db.trees 11)
  pub placements : AreKept of_placement placement_in (db.trees 13)
  pub signals : AreKept of_signal signal_in (db.trees 15)
  pub imports : AreKept of_import import_in (db.trees 17)
  pub dropped : AreKept of_dropped dropped_in (db.trees 19)

-- the tables are those of this schema, or of the one before
abbrev pub HasSomeTables : Database → Type 0
HasSomeTables db = HasTables db ⊎ HasOldTables db

-- the rows of each of these tables have numbers that rise
abbrev pub AreRising : List Table → Trees → Type 0
AreRising ts db = AllByRecursion (λ t. IsTable (db t.tree) × AllByRecursion (λ r. IsTrue (is_int (rowid r))) (db t.tree)) ts

-- the rows of each table of this schema have numbers that rise
abbrev pub AreOrdered : Trees → Type 0
AreOrdered db = AreRising (tables_and (cluster2_at (layout_of db).cluster2 ∷ [])) db

-- the rows of each table of the schema before have numbers that rise
abbrev pub AreOrderedBefore : Trees → Type 0
AreOrderedBefore = AreRising old_tables
