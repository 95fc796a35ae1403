-- Register: when a database is a register of a cluster, or of a cluster and a book; when it is a
-- new one. When it is found again, and what an open wants of it. Whether one of its tables is
-- there, and why no register is made.
use Rattle.std.specs.Prelude.{◌≡◌, ℕ, [], ◌∷◌, List, Bool, false, map, IsTrue, IsPermutation, Result, MatchResult, ⊤}
use Rattle.std.specs.List.{list_any}
use Rattle.sqlite.specs.Table.{Table}
use Rattle.sqlite.specs.Schema.{Schema}
use Rattle.sqlite.specs.Effect.{Database}
use Rattle.sqlite.specs.State.{State, Shows, HasCleanDisk, KeepsCommit}
use Rattle.sqlite_schema.specs.Names.{same_name}
use Rattle.fr_base.specs.Cluster.{Cluster, ClusterFile, IsWellFormed}
use Rattle.fr_base.specs.Book.{Book, file_of}
use Rattle.fr_tables.specs.Schema.{all_tables, register_schema, layout_made}
use Rattle.fr_tables.specs.Tables.{Tables, HasTables, tables_in}
use Rattle.fr_tables.specs.Statements.{cluster2_row}
use Rattle.fr_tables.specs.Filling.{supplier_row, with_config}
use Rattle.fr_tables.specs.Making.{IsFresh, no_rows}
use Rattle.fr_tables.specs.SchemaNumbers.{numbered, our_schema_number}
use Rattle.fr_store.specs.StandsFor.{StandsFor}
use Rattle.fr_store.specs.Reading.{Stands, TellsOpened}
use Rattle.fr_store.specs.declared.fault.StoreFault.{StoreFault}
use Rattle.fr_store.specs.declared.fault.StoreFault.TheVariants.{NotEmpty, NotARegister, WrongSchema, Unavailable}

-- ---- the cluster that the tables tell

-- the tables tell the number of this schema, this cluster and its suppliers
pub record TellsOf (f : ClusterFile) (t : Tables) : Type 0 where
  pub register : t.register ≡ numbered our_schema_number ∷ []
  pub cluster2 : t.cluster2 ≡ cluster2_row f.cluster.params f.cluster.integrator ∷ []
  pub suppliers : IsPermutation (map supplier_row f.suppliers) t.suppliers

-- the database is a register of this cluster
pub record IsRegisterOf (f : ClusterFile) (db : Database) : Type 0 where
  pub has : HasTables db
  pub tells : TellsOf f (tables_in db.trees)

-- the database's tables stand for this cluster and this book
pub record IsRegisterFor (c : Cluster) (b : Book) (db : Database) : Type 0 where
  pub has : HasTables db
  pub for : StandsFor (tables_in db.trees) c b

-- What was found is the cluster for which the tables stood, with the book's suppliers. The tables
-- stand as they did.
abbrev pub FindsAgain : State → State → ClusterFile → Type 0
FindsAgain old new found = (c : Cluster) (b : Book) → Stands old c b → (found ≡ file_of c b) × Stands new c b

-- What an open wants of tables. They are a register of some cluster, whose keys and names have
-- their form, and a register can have its variants.
pub record IsOpenable (db : Database) : Type 0 where
  pub file : ClusterFile
  pub formed : IsWellFormed file
  pub is : IsRegisterOf file db
  pub variants : TellsOpened (tables_in db.trees)

-- ---- a new register

-- the database is a new register of this cluster: it has all tables and the index, where they are
-- made
pub record IsNewOf (f : ClusterFile) (db : Database) : Type 0 where
  pub has : HasTables db
  pub schema : db.schema ≡ register_schema layout_made
  pub rows : tables_in db.trees ≡ with_config f no_rows

-- Statements inside a transaction make a new register where no table is, or fail and commit
-- nothing.
abbrev pub MakesNew : {X E : Type 0} → ClusterFile → State → State → Result X E → Type 0
MakesNew f old new r =
    HasCleanDisk new → IsTrue old.in_transaction → IsFresh 0 0 old.now → MatchResult r (λ _. IsNewOf f new.now × Shows old new new.now old.committed old.in_transaction) (λ _. KeepsCommit old new)

-- whether one of a register's tables has this name
abbrev pub is_ours : List ℕ → Bool
is_ours name = list_any (λ (t : Table). same_name t.name name) all_tables

-- whether one of a register's tables is there
abbrev pub has_table : Schema → Bool
has_table schema = list_any (λ (t : Table). is_ours t.name) schema.tables

-- why no register is made in a database of this schema
abbrev pub Forbids : Schema → StoreFault → Type 0
Forbids schema NotEmpty = IsTrue (has_table schema)
Forbids schema NotARegister = ⊥
Forbids schema WrongSchema = ⊥
Forbids schema Unavailable = has_table schema ≡ false

-- why no register is made in files; they may also not be read
abbrev pub MayForbid : Schema → StoreFault → Type 0
MayForbid schema NotEmpty = IsTrue (has_table schema)
MayForbid schema NotARegister = ⊥
MayForbid schema WrongSchema = ⊥
MayForbid schema Unavailable = ⊤
