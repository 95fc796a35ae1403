-- Before: when tables of the schema before stand for a cluster of 64 cycles and a book. All rows
-- but those of the number and the cluster are as in this schema. When files hold such a register.
-- What a migration makes of it, and what a crash leaves of that.
use Rattle.std.specs.Prelude.{◌≡◌, ◌++◌, List, [], ◌∷◌, Result, MatchResult, OnOk, IsTrue}
use Rattle.sqlite.specs.Effect.{Database}
use Rattle.sqlite.specs.State.{State, HasCleanDisk, IsUnchanged, KeepsCommit}
use Rattle.sqlite.specs.Tree.{Trees}
use Rattle.sqlite_wal.specs.Recovery.{Image}
use Rattle.fr_base.specs.Cluster.{Cluster}
use Rattle.fr_base.specs.Book.{Book}
use Rattle.fr_base.specs.declared.key.Key.{Key}
use Rattle.fr_base.specs.declared.params.RawParams.{RawParams}
use Rattle.fr_tables.specs.Schema.{IsOld, old_schema, layout_of}
use Rattle.fr_tables.specs.Rows.{RegisterRow, ClusterRow}
use Rattle.fr_tables.specs.Tables.{Tables, HasTables, HasOldTables, tables_in}
use Rattle.fr_tables.specs.Changes.{Stays, tables_of}
use Rattle.fr_tables.specs.Statements.{cluster_row, cluster2_row}
use Rattle.fr_tables.specs.SchemaNumbers.{HasNumber, numbered, old_schema_number, our_schema_number}
use Rattle.fr_store.specs.StandsFor.{HoldsRows}
use Rattle.fr_store.specs.Reading.{Stands}
use Rattle.fr_store.specs.Store.{IsOpenable, IsRegisterFor}
use Rattle.fr_store.specs.StoreFiles.{IsHeld, database_of}

-- ---- what tables of the schema before stand for

-- the register has one row, and the cluster has one row, with 64 cycles
pub record HadHeads (register : List RegisterRow) (cluster : List ClusterRow) (c : Cluster) : Type 0 where
  pub number : register ≡ numbered old_schema_number ∷ []
  pub params : cluster ≡ cluster_row c.params c.integrator ∷ []
  pub cycles : c.params.cycles ≡ 64

-- the tables stand for the cluster and the book; all rows but those of the heads are as in this
-- schema
pub record StoodFor (t : Tables) (c : Cluster) (b : Book) : Type 0 where
  pub heads : HadHeads t.register t.cluster c
  pub rows : HoldsRows t c.params.cycles b

-- the tables that the connection sees are those of the schema before, and stand for a cluster and a book
pub record StandsBefore (s : State) (c : Cluster) (b : Book) : Type 0 where
  pub has : HasOldTables s.now
  pub for : StoodFor (tables_of s) c b

abbrev pub database_before : Trees → Database
database_before db = record { schema = old_schema (layout_of db).index (layout_of db).before; trees = db }

-- the files hold a register of the schema before, whose tables stand for this cluster and this book
pub record HoldsBookBefore (c : Cluster) (b : Book) (image : Image) : Type 0 where
  pub trees : Trees
  pub held : IsHeld image (database_before trees)
  pub has : HasOldTables (database_before trees)
  pub for : StoodFor (tables_in trees) c b

-- ---- the migration

-- the tables after the cluster's row was moved into its new table
abbrev pub moved : RawParams → Key → Tables → Tables
moved p integrator t = record t { cluster = []; cluster2 = t.cluster2 ++ cluster2_row p integrator ∷ [] }

-- Statements inside a transaction move the row of a cluster with 64 cycles, or one of them fails.
abbrev pub MovesCluster : {X E : Type 0} → State → State → Result X E → Type 0
MovesCluster old new r =
    HasCleanDisk new → IsTrue old.in_transaction → HasTables old.now → (p : RawParams) (integrator : Key) → (tables_of old).cluster ≡ cluster_row p integrator ∷ [] → p.cycles ≡ 64
    → OnOk r (tables_of new ≡ moved p integrator (tables_of old))

-- The number of the schema is as it was, or one of the statements fails.
abbrev pub KeepsNumber : {X E : Type 0} → State → State → Result X E → Type 0
KeepsNumber old new r = HasCleanDisk new → IsTrue old.in_transaction → HasTables old.now → OnOk r ((tables_of new).register ≡ (tables_of old).register)

-- Statements inside a transaction make tables of the schema before those of this schema, for the
-- same cluster and book, or one of them fails.
abbrev pub Migrates : {X E : Type 0} → State → State → Result X E → Type 0
Migrates old new r = HasCleanDisk new → IsTrue old.in_transaction → (c : Cluster) (b : Book) → StandsBefore old c b → OnOk r (Stands new c b)

-- what a crash may leave of a migration, beside the register that was there before
abbrev pub LeavesMigrated : State → Trees → Type 0
LeavesMigrated old db = (c : Cluster) (b : Book) → StandsBefore old c b → IsRegisterFor c b (database_of db)

-- where the database has the schema before, its tables are as that version writes them
abbrev pub HasOldIfBefore : Database → Type 0
HasOldIfBefore db = IsOld db.schema → HasOldTables db

-- Statements inside a transaction over tables of the schema before commit nothing. Where none fails
-- the transaction is not over.
abbrev pub KeepsBefore : {X E : Type 0} → State → State → Result X E → Type 0
KeepsBefore old new r = HasCleanDisk new → IsTrue old.in_transaction → HasOldTables old.now → KeepsCommit old new × OnOk r (IsTrue new.in_transaction)

-- ---- what an open takes

-- Statements inside a transaction take tables that say the number of the schema before, and make
-- tables that an open wants, or one of them fails.
abbrev pub MakesOpenable : {X E : Type 0} → State → State → Result X E → Type 0
MakesOpenable old new r =
    HasCleanDisk new → IsTrue old.in_transaction → HasOldTables old.now → HasNumber old.now old_schema_number
    → OnOk r (IsOpenable new.now)

-- Where tables say the number of this schema they are such as an open wants, or the call fails.
abbrev pub ExpectsOpenable : {X E : Type 0} → State → State → Result X E → Type 0
ExpectsOpenable old new r = HasCleanDisk new → HasTables old.now → (tables_of old).register ≡ numbered our_schema_number ∷ [] → OnOk r (IsOpenable new.now)

-- the tables are left as they are
abbrev pub LeavesTables : {X E : Type 0} → State → State → Result X E → Type 0
LeavesTables old new r = HasCleanDisk new → HasTables old.now → MatchResult r (λ _. IsUnchanged old new) (λ _. Stays old new)

-- the files hold a register that an open takes
abbrev pub HoldsOpenable : Image → Type 0
HoldsOpenable image = (db : Database) × IsHeld image db × IsOpenable db
