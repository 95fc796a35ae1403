-- Creating: what a call does to a connection over which it makes a register. What the connection
-- shows when a register was made over it, and when none was made.
use Rattle.std.specs.Prelude.{◌≡◌, [], ◌∷◌, Result, OnOk, OnErr, IsTrue, false}
use Rattle.sqlite.specs.State.{State, HasCleanDisk, Survives}
use Rattle.fr_base.specs.Book.{opening}
use Rattle.fr_base.specs.Cluster.{ClusterFile}
use Rattle.fr_tables.specs.Making.{IsFresh}
use Rattle.fr_tables.specs.Schema.{schema_of}
use Rattle.fr_tables.specs.SchemaNumbers.{AreAsBefore}
use Rattle.fr_store.specs.Crashes.{LeavesOnly}
use Rattle.fr_store.specs.Reading.{Stands}
use Rattle.fr_store.specs.Store.{IsNewOf, IsRegisterFor, Forbids}
use Rattle.fr_store.specs.StoreFiles.{database_of}
use Rattle.fr_store.specs.declared.fault.StoreFault.{StoreFault}

-- A call makes a new register of this cluster where no table is, and commits it: all of it, or
-- nothing. What a crash then leaves is this register.
pub record Creates {X E : Type 0} (f : ClusterFile) (old new : State) (r : Result X E) : Type 0 where
  pub made : HasCleanDisk new → IsFresh 0 0 old.now → OnOk r (IsNewOf f new.now)
  pub committed : HasCleanDisk new → OnOk r (new.committed ≡ new.now)
  pub is_open : HasCleanDisk new → OnOk r (IsTrue new.is_open)
  pub undone : HasCleanDisk new → IsFresh 0 0 old.now → OnErr r (AreAsBefore old new)
  pub autocommit : new.in_transaction ≡ false
  pub survives : IsFresh 0 0 old.now → Survives old new (λ db. IsNewOf f (database_of db))

-- A new register of this cluster was made where nothing was. All of it is committed, and a crash
-- leaves no other.
pub record IsMadeOn (f : ClusterFile) (old new : State) : Type 0 where
  pub made : HasCleanDisk new → IsNewOf f new.now
  pub stands : HasCleanDisk new → Stands new f.cluster (opening f)
  pub committed : HasCleanDisk new → new.committed ≡ new.now
  pub is_open : HasCleanDisk new → IsTrue new.is_open
  pub durable : HasCleanDisk new → LeavesOnly new f.cluster (opening f ∷ [])
  pub bare : old.now.schema ≡ schema_of 0 0
  pub outside : new.in_transaction ≡ false
  pub survives : Survives old new (λ db. IsRegisterFor f.cluster (opening f) (database_of db))

-- No register was made, for this fault. The tables are as they were. A crash may leave the register
-- of this cluster.
pub record IsNotMadeOn (f : ClusterFile) (old new : State) (fault : StoreFault) : Type 0 where
  pub told : Forbids old.now.schema fault
  pub unharmed : HasCleanDisk new → AreAsBefore old new
  pub outside : old.in_transaction ≡ false → new.in_transaction ≡ false
  pub survives : Survives old new (λ db. IsRegisterFor f.cluster (opening f) (database_of db))
