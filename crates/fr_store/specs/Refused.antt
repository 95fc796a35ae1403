-- Refused: what a call says that refuses files in which it was to open, to migrate or to make a
-- register. Which faults it tells, for what cause, and that what is left of the files holds what they
-- held. The same of files in which no database was opened.
use Rattle.std.specs.Prelude.{◌≡◌, ◌≢◌, ◌⊎◌, ℤ, Option, Some, None, IfSome, false, ⊤}
use Rattle.sqlite.specs.Effect.{Database, IsDatabase}
use Rattle.sqlite.specs.Files.{HoldsDatabase, IsCleanLeft}
use Rattle.sqlite.specs.Tree.{Trees}
use Rattle.sqlite.specs.declared.file.Leftover.{Leftover}
use Rattle.sqlite.specs.declared.file.Leftover.TheVariants as left
use Rattle.sqlite_disk.specs.declared.Disk.{Ghosts}
use Rattle.sqlite_disk.specs.declared.Files.{Files}
use Rattle.sqlite_wal.specs.Recovery.{Image}
use Rattle.sqlite_store.specs.FileStore.{recovers}
use Rattle.fr_base.specs.Book.{Book, opening}
use Rattle.fr_base.specs.Cluster.{Cluster, ClusterFile}
use Rattle.fr_tables.specs.SchemaNumbers.{old_schema_number, our_schema_number}
use Rattle.fr_store.specs.Before.{HoldsBookBefore}
use Rattle.fr_store.specs.Opening.{ForbidsFiles, Refuses, RefusesFiles}
use Rattle.fr_store.specs.Store.{IsRegisterFor, MayForbid, has_table}
use Rattle.fr_store.specs.StoreFiles.{AreFoundAlone, HoldsRegister, IsHeld, database_of, image_left, outcomes_left}
use Rattle.fr_store.specs.declared.fault.StoreFault.{StoreFault}
use Rattle.fr_store.specs.declared.fault.StoreFault.TheVariants.{NotEmpty, NotARegister, WrongSchema, Unavailable}

-- ---- why files are refused

-- For this fault files at a path are told to hold what they held: for any fault, where the files
-- themselves are left; and for another than Unavailable, where they are not opened, or a store is left.
abbrev pub IsSpared : {D : Type 0} {g : Ghosts D} → StoreFault → Leftover D g → Type 0
IsSpared fault (left.Files files) = ⊤
IsSpared fault (left.Unopened files) = fault ≢ Unavailable
IsSpared fault (left.Store it) = fault ≢ Unavailable

-- What a call says of files that it refuses: which faults it tells of any files; why it refuses a
-- database that they hold; why it refuses them, whatever they hold; which files it refuses by
-- Unavailable alone; for which fault it says that what is left holds what they held; and which
-- databases an open may find in a store that is left, beside what they held.
pub record Refusing : Type 1 where
  pub tells : StoreFault → Type 0
  pub database : Database → StoreFault → Type 0
  pub files : Image → StoreFault → Type 0
  pub takes : Image → Type 0
  pub spares : {D : Type 0} {g : Ghosts D} → StoreFault → Leftover D g → Type 0
  pub commits : Trees → Type 0

-- a call that wants this number of the schema
abbrev pub wanting : ℤ → (Image → Type 0) → Refusing
wanting number takes =
    record { tells = λ fault. fault ≢ NotEmpty; database = Refuses number; files = RefusesFiles number; takes = takes; spares = IsSpared; commits = λ db. ⊥ }

-- the call that opens a register
abbrev pub opens : Refusing
opens = wanting our_schema_number (λ held. (c : ClusterFile) × (db : Trees) × HoldsRegister c held db)

-- the call that migrates a register of the schema before
abbrev pub migrates : Refusing
migrates = wanting old_schema_number (λ held. (c : Cluster) × (b : Book) × HoldsBookBefore c b held)

-- the call that makes a register, where none of its tables is
abbrev pub makes : Refusing
makes = record {
  tells = λ fault. (fault ≡ NotEmpty) ⊎ (fault ≡ Unavailable);
  database = λ db. MayForbid db.schema;
  files = ForbidsFiles;
  takes = λ held. (db : Database) × IsDatabase db × HoldsDatabase held db.trees × (has_table db.schema ≡ false);
  spares = IsSpared;
  commits = λ db. ⊥;
}

-- the call that makes a register of this cluster and closes it
abbrev pub makes_closed : ClusterFile → Refusing
makes_closed f = record makes { commits = λ db. IsRegisterFor f.cluster (opening f) (database_of db) }

-- a fault that tells more than Unavailable, whatever is left
abbrev pub IsOther : {D : Type 0} {g : Ghosts D} → StoreFault → Leftover D g → Type 0
IsOther fault left = fault ≢ Unavailable

-- The same call over files that it was given. It hands back files that it did not open as it does
-- those that it closed, so of Unavailable it does not say that they hold what they held.
abbrev pub in_files : Refusing → Refusing
in_files call = record call { spares = IsOther }

-- ---- what is left of the files

-- what is left where these files are given back: the files
abbrev pub files_alone : {D : Type 0} (g : Ghosts D) → Files D → Leftover D g
files_alone g files = left.Files files

-- what is left where the files may be given back: the files, or nothing
abbrev pub given_back : {D : Type 0} (g : Ghosts D) → Option (Files D) → Option (Leftover D g)
given_back g None = None
given_back g (Some files) = Some (files_alone g files)

-- a fault for which files are not given back
abbrev pub IsUnavailable : StoreFault → Type 0
IsUnavailable fault = fault ≡ Unavailable

-- a fault for which no file need be there
abbrev pub NeedsNone : StoreFault → Type 0
NeedsNone fault = IsUnavailable fault ⊎ (fault ≡ NotARegister)

-- ---- a refusal

module _ {D : Type 0} {g : Ghosts D} where
  -- What is left of files that held this holds the database that they held; and so does whatever a
  -- crash leaves of it.
  pub record HoldsStill (held : Image) (left : Leftover D g) : Type 0 where
    pub untouched : (d : Database) → IsDatabase d → HoldsDatabase held d.trees → IsHeld (image_left left) d
    pub survives : (image : Image) → outcomes_left left image → (d : Database) → IsDatabase d → HoldsDatabase held d.trees → IsHeld image d

  -- What an open after a crash may find in a store that is left is what it finds in files that held
  -- this, or one of these databases.
  abbrev pub FindsStill : Image → (Trees → Type 0) → Leftover D g → Type 0
  FindsStill held commits (left.Files files) = ⊤
  FindsStill held commits (left.Unopened files) = ⊤
  FindsStill held commits (left.Store it) = (db : Trees) → recovers it db → AreFoundAlone held db ⊎ commits db

  -- What a fault says of files that held this, where nobody else wrote to those that are left.
  pub record IsToldBy (call : Refusing) (held : Image) (fault : StoreFault) (left : Leftover D g) : Type 0 where
    pub told : (d : Database) → IsDatabase d → HoldsDatabase held d.trees → call.database d fault
    pub cause : call.files held fault
    pub known : call.takes held → fault ≡ Unavailable
    pub stays : call.spares fault left → HoldsStill held left
    pub finds : FindsStill held call.commits left

  -- A call refuses files that held this, for a fault that it tells. Where nothing is left of them
  -- the fault is one for which files are not given back.
  pub record IsRefusedBy (call : Refusing) (Without : StoreFault → Type 0) (held : Image) (fault : StoreFault) (rest : Option (Leftover D g)) : Type 0 where
    pub tells : call.tells fault
    pub left : IfSome rest (λ left. IsCleanLeft left → IsToldBy call held fault left)
    pub lost : rest ≡ None → Without fault

  -- No database was opened in files that held this. Where they held one, memory was refused or
  -- there was a fault. For such a fault what is left holds what they held; and for each an open finds
  -- in a store that is left what they held.
  pub record IsUnopened (Spares : StoreFault → Leftover D g → Type 0) (held : Image) (fault : StoreFault) (rest : Option (Leftover D g)) : Type 0 where
    pub told : IfSome rest (λ left. IsCleanLeft left → (db : Trees) → HoldsDatabase held db → fault ≡ Unavailable)
    pub stays : IfSome rest (λ left. IsCleanLeft left → Spares fault left → HoldsStill held left)
    pub finds : IfSome rest (λ left. IsCleanLeft left → FindsStill held (λ db. ⊥) left)
    pub not_made : fault ≢ NotEmpty
    pub not_ours : fault ≢ WrongSchema
    pub lost : rest ≡ None → fault ≡ Unavailable
