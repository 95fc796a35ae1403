-- Opening: why a database is not opened or not migrated, whatever its schema. Why files are not,
-- and why no register is made in them, whatever they hold. What is found in files that are
-- migrated, or in which a register is made. What calls find and open over a connection whose tables
-- are not known yet.
use Rattle.std.specs.Prelude.{◌≡◌, ◌≢◌, ◌⊎◌, ℤ, [], ◌∷◌, false, map, Bool, Option, Result, IfErr, IfOk, IfSome, IsPermutation, IsTrue, OnOk, ⊤}
use Rattle.sqlite.specs.Effect.{Database}
use Rattle.sqlite.specs.Files.{HoldsDatabase}
use Rattle.sqlite.specs.State.{State, HasCleanDisk, Survives}
use Rattle.sqlite.specs.Tree.{Trees}
use Rattle.sqlite_wal.specs.Recovery.{Image}
use Rattle.fr_base.specs.Cluster.{ClusterFile, IsWellFormed}
use Rattle.fr_tables.specs.Changes.{tables_of}
use Rattle.fr_tables.specs.Filling.{supplier_row}
use Rattle.fr_tables.specs.Schema.{schema_of, IsOurs}
use Rattle.fr_tables.specs.SchemaNumbers.{our_schema_number, old_schema_number, AreAsBefore, HasNumber, SaysNumber, SaysNoNumber}
use Rattle.fr_tables.specs.Statements.{cluster2_row}
use Rattle.fr_tables.specs.Tables.{AreOrdered, HasOldTables, HasSomeTables, HasTables}
use Rattle.fr_store.specs.Crashes.{Serves}
use Rattle.fr_store.specs.Reading.{TellsOpened}
use Rattle.fr_store.specs.Store.{FindsAgain, IsRegisterOf, has_table}
use Rattle.fr_store.specs.StoreFiles.{IsFound}
use Rattle.fr_store.specs.declared.fault.StoreFault.{StoreFault}
use Rattle.fr_store.specs.declared.fault.StoreFault.TheVariants.{NotEmpty, NotARegister, WrongSchema, Unavailable}

-- Why a database of any schema is refused by a call that wants this number. Where the tables are a
-- register's, the number that it says is that of its rows.
abbrev pub Refuses : ℤ → Database → StoreFault → Type 0
Refuses wanted db NotEmpty = ⊥
Refuses wanted db NotARegister = SaysNoNumber db × ((n : ℤ) → ¬ HasNumber db n)
Refuses wanted db WrongSchema = (n : ℤ) × (n ≢ wanted) × SaysNumber db n × (HasSomeTables db → HasNumber db n)
Refuses wanted db Unavailable = ⊤

-- why a database is not opened
abbrev pub Explains : Database → StoreFault → Type 0
Explains = Refuses our_schema_number

-- why files are refused, whatever they hold: for the database that is found there, or because there
-- is none
abbrev pub RefusesFiles : ℤ → Image → StoreFault → Type 0
RefusesFiles wanted image NotEmpty = ⊥
RefusesFiles wanted image NotARegister = (¬ ((db : Trees) × HoldsDatabase image db)) ⊎ ((db : Database) × IsFound image db × Refuses wanted db NotARegister)
RefusesFiles wanted image WrongSchema = (db : Database) × IsFound image db × Refuses wanted db WrongSchema
RefusesFiles wanted image Unavailable = ⊤

-- why files are not opened
abbrev pub ExplainsFiles : Image → StoreFault → Type 0
ExplainsFiles = RefusesFiles our_schema_number

-- What is found in files that are migrated: tables of the schema before, which say its number.
abbrev pub AllowsMigration : Image → Type 0
AllowsMigration image = (db : Database) × IsFound image db × HasOldTables db × HasNumber db old_schema_number

-- why no register is made in files, whatever they hold
abbrev pub ForbidsFiles : Image → StoreFault → Type 0
ForbidsFiles image NotEmpty = (db : Database) × IsFound image db × IsTrue (has_table db.schema)
ForbidsFiles image NotARegister = ⊥
ForbidsFiles image WrongSchema = ⊥
ForbidsFiles image Unavailable = ⊤

-- What is found in files in which a register is made: a database that has no table, no index and no
-- view.
abbrev pub AllowsCreation : Image → Type 0
AllowsCreation image = (db : Database) × IsFound image db × (db.schema ≡ schema_of 0 0)

-- ---- calls over a connection whose tables are not known yet

-- The tables say this number of their schema, or the refusal tells why they do not.
pub record ExpectsNumber (wanted : ℤ) (old new : State) (r : Result ⊤ StoreFault) : Type 0 where
  pub found : HasCleanDisk new → OnOk r (HasSomeTables old.now → HasNumber old.now wanted)
  pub told : HasCleanDisk new → IfErr r (Refuses wanted old.now)
  pub not_made : IfErr r (λ fault. fault ≢ NotEmpty)

-- Where the answer is yes, a register can have the variants that the tables tell.
abbrev pub FindsVariants : State → State → Bool → Type 0
FindsVariants old new r = HasCleanDisk new → IsTrue new.is_open → HasTables new.now → IsTrue r → TellsOpened (tables_of new)

-- The config that was found is the one that the tables tell, and a register can have their variants.
pub record FindsConfig (old new : State) (found : Option ClusterFile) : Type 0 where
  pub cluster : HasCleanDisk new → IsTrue new.is_open → HasTables old.now → IfSome found (λ c. (tables_of old).cluster2 ≡ cluster2_row c.cluster.params c.cluster.integrator ∷ [])
  pub suppliers : HasCleanDisk new → IsTrue new.is_open → HasTables old.now → IfSome found (λ c. IsPermutation (map supplier_row c.suppliers) (tables_of old).suppliers)
  pub variants : HasCleanDisk new → IsTrue new.is_open → HasTables new.now → IfSome found (λ _. TellsOpened (tables_of new))
  pub formed : IfSome found IsWellFormed

-- The config is that of the register that has these tables, or the refusal tells why none is opened
-- on them.
pub record ReadsConfig (old new : State) (r : Result ClusterFile StoreFault) : Type 0 where
  pub formed : IfOk r IsWellFormed
  pub ours : OnOk r (IsOurs new.now.schema)
  pub stands : HasCleanDisk new → AreOrdered old.now.trees → IfOk r (λ c. IsRegisterOf c new.now)
  pub variants : HasCleanDisk new → HasTables new.now → OnOk r (TellsOpened (tables_of new))
  pub is_open : HasCleanDisk new → OnOk r (IsTrue new.is_open)
  pub told : HasCleanDisk new → IfErr r (Explains old.now)
  pub not_made : IfErr r (λ fault. fault ≢ NotEmpty)

-- A register of this cluster was opened on a connection. Its tables are as they were, and a crash
-- leaves nothing of the call.
pub record IsOpenedOn (old new : State) (found : ClusterFile) : Type 0 where
  pub up : HasCleanDisk new → IsTrue old.is_open × IsTrue new.is_open
  pub opened : HasCleanDisk new → (new.now ≡ old.now) × (new.committed ≡ old.committed)
  pub serves : HasCleanDisk new → Serves new
  pub ours : IsOurs new.now.schema
  pub stands : HasCleanDisk new → AreOrdered old.now.trees → IsRegisterOf found new.now
  pub variants : HasCleanDisk new → HasTables new.now → TellsOpened (tables_of new)
  pub again : HasCleanDisk new → FindsAgain old new found
  pub outside : new.in_transaction ≡ false
  pub survives : Survives old new (λ _. ⊥)

-- No register was opened on a connection, for this fault. Its tables are as they were, and a crash
-- leaves nothing of the call.
pub record IsNotOpenedOn (old new : State) (fault : StoreFault) : Type 0 where
  pub told : HasCleanDisk new → Explains old.now fault
  pub not_made : fault ≢ NotEmpty
  pub known : HasCleanDisk new → (c : ClusterFile) → IsRegisterOf c old.now → fault ≡ Unavailable
  pub unharmed : HasCleanDisk new → AreAsBefore old new
  pub outside : old.in_transaction ≡ false → new.in_transaction ≡ false
  pub survives : Survives old new (λ _. ⊥)
