-- Migrating: what a call does to a connection, over which it makes a register of the schema before
-- one of this schema.
use Rattle.std.specs.Prelude.{◌≡◌, ◌≢◌, Result, OnOk, OnErr, IfErr, false}
use Rattle.sqlite.specs.State.{State, HasCleanDisk, Survives}
use Rattle.fr_base.specs.Book.{Book}
use Rattle.fr_base.specs.Cluster.{Cluster}
use Rattle.fr_tables.specs.Schema.{IsOld}
use Rattle.fr_tables.specs.SchemaNumbers.{AreAsBefore, HasNumber, old_schema_number}
use Rattle.fr_tables.specs.Tables.{HasOldTables, HasSomeTables}
use Rattle.fr_store.specs.Before.{StandsBefore, LeavesMigrated, HasOldIfBefore}
use Rattle.fr_store.specs.Opening.{Refuses}
use Rattle.fr_store.specs.Reading.{Stands}
use Rattle.fr_store.specs.Store.{IsOpenable}
use Rattle.fr_store.specs.declared.fault.StoreFault.{StoreFault}
use Rattle.fr_store.specs.declared.fault.StoreFault.TheVariants.{NotEmpty, Unavailable}

-- A call makes tables of the schema before those of this schema, for the same cluster and book, and
-- commits that: all of it, or nothing. The only refusal is `Unavailable`.
pub record CommitsMigration {X : Type 0} (old new : State) (r : Result X StoreFault) : Type 0 where
  pub migrated : HasCleanDisk new → (c : Cluster) (b : Book) → StandsBefore old c b → OnOk r (Stands new c b)
  pub opens : HasCleanDisk new → HasOldTables old.now → HasNumber old.now old_schema_number → OnOk r (IsOpenable new.now)
  pub committed : HasCleanDisk new → OnOk r (new.committed ≡ new.now)
  pub undone : HasCleanDisk new → HasOldTables old.now → OnErr r (AreAsBefore old new)
  pub refused : IfErr r (λ fault. fault ≡ Unavailable)
  pub autocommit : new.in_transaction ≡ false
  pub survives : Survives old new (LeavesMigrated old)

-- A call does the same where the tables say the number of the schema before. Else it says why it
-- does not, and leaves them as they are.
pub record MigratesOn {X : Type 0} (old new : State) (r : Result X StoreFault) : Type 0 where
  pub migrated : HasCleanDisk new → (c : Cluster) (b : Book) → StandsBefore old c b → OnOk r (Stands new c b)
  pub committed : HasCleanDisk new → OnOk r (new.committed ≡ new.now)
  pub opens : HasCleanDisk new → HasOldTables old.now → OnOk r (IsOpenable new.now)
  pub before : OnOk r (IsOld old.now.schema)
  pub numbered : HasCleanDisk new → OnOk r (HasSomeTables old.now → HasNumber old.now old_schema_number)
  pub told : HasCleanDisk new → IfErr r (Refuses old_schema_number old.now)
  pub known : HasCleanDisk new → (c : Cluster) (b : Book) → StandsBefore old c b → IfErr r (λ fault. fault ≡ Unavailable)
  pub not_made : IfErr r (λ fault. fault ≢ NotEmpty)
  pub unharmed : HasCleanDisk new → HasOldIfBefore old.now → OnErr r (AreAsBefore old new)
  pub outside : old.in_transaction ≡ false → new.in_transaction ≡ false
  pub survives : Survives old new (LeavesMigrated old)
