-- Job's faults: the word of each fault that ends a job or a connection, which of them may end which job, and for what
-- cause a register's file is refused.
use Rattle.std.specs.Prelude.{◌≡◌, ◌≢◌, ◌⊎◌, ℕ, List, Option, Some, None, codes, Result, Err}
use Rattle.sqlite.specs.Files.{IsCleanLeft}
use Rattle.sqlite.specs.Tree.{Trees}
use Rattle.sqlite.specs.declared.file.Leftover.{Leftover}
use Rattle.sqlite_disk.specs.declared.Disk.{Ghosts}
use Rattle.sqlite_wal.specs.Recovery.{Image}
use Rattle.fr_base.specs.Book.{Book}
use Rattle.fr_base.specs.Cluster.{Cluster, ClusterFile}
use Rattle.fr_base.specs.declared.refusal.Refusal.{Refusal}
use Rattle.fr_base.specs.declared.request.Ask.{Ask}
use Rattle.fr_base.specs.declared.request.Request.{Request}
use Rattle.fr_desks.specs.FileDesk.{BarsMigration}
use Rattle.fr_cli.specs.SingleRequest.{asked_with}
use Rattle.fr_cli.specs.Deliveries.{request_with}
use Rattle.fr_cli.specs.Keys.{IsKeyGiven, IsKeyUnread}
use Rattle.fr_cli.specs.RegisterFiles.{LeadsInFile, StaysInFile}
use Rattle.fr_cli.specs.ScriptFault.{script_fault_of, script_fault_word}
use Rattle.fr_cli.specs.Texts.{IsClusterAt, IsUnread, Readings, max_config, max_rows}
use Rattle.fr_cli.specs.declared.words.delivery.Delivery.{Delivery}
use Rattle.fr_cli.specs.declared.fault.Fault.{Fault}
use Rattle.fr_cli.specs.declared.streams.input.InputFault.{InputFault}
use Rattle.fr_cli.specs.declared.fault.Fault.TheVariants.{Script, Config, Register, CannotOpen, CannotListen, NoMemory, WriteFailed}
use Rattle.fr_http.specs.declared.fault.LinkFault.{LinkFault}
use Rattle.fr_http.specs.declared.fault.LinkFault.TheVariants as link
use Rattle.fr_store.specs.Opening.{ExplainsFiles, ForbidsFiles}
use Rattle.fr_store.specs.Refused.{FindsStill, HoldsStill, IsSpared, NeedsNone, makes_closed}
use Rattle.fr_store.specs.declared.fault.StoreFault.{StoreFault}
use Rattle.fr_store.specs.declared.fault.StoreFault.TheVariants as store
use Rattle.fr_text.specs.ClusterFile.{config_fault_word, config_of}
use Rattle.fr_text.specs.declared.cluster_file.ConfigFault.TheVariants as config

-- a register's
abbrev pub store_word : StoreFault → List ℕ
store_word store.NotEmpty = codes "NotEmpty"
store_word store.NotARegister = codes "NotARegister"
store_word store.WrongSchema = codes "WrongSchema"
store_word store.Unavailable = codes "Unavailable"

-- a connection's
abbrev pub link_word : LinkFault → List ℕ
link_word link.Truncated = codes "Truncated"
link_word link.ReadFailed = codes "ReadFailed"
link_word link.TooManyReads = codes "TooManyReads"
link_word (link.WriteFailed _) = codes "WriteFailed"
link_word (link.NoMemory _) = codes "NoMemory"

-- the fault's word, as it is printed
abbrev pub fault_word : Fault → List ℕ
fault_word (Script fault) = script_fault_word fault
fault_word (Config fault) = config_fault_word fault
fault_word (Register fault) = store_word fault
fault_word CannotOpen = codes "CannotOpen"
fault_word CannotListen = codes "CannotListen"
fault_word NoMemory = codes "NoMemory"
fault_word WriteFailed = codes "WriteFailed"

-- The fault is the first one of a cluster file with these bytes, or memory is wanting.
abbrev pub IsClusterFault : List ℕ → Fault → Type 0
IsClusterFault text (Config fault) = (fault ≡ config.NoMemory) ⊎ (config_of text ≡ Err fault)
IsClusterFault text _ = ⊥

-- For this no cluster file is had at the path: it cannot be read; or what was read of it is none.
abbrev pub IsNotRead : Readings → List ℕ → Fault → Type 0
IsNotRead read path fault = IsUnread read path fault
    ⊎ ((text : List ℕ) × read.whole max_config path text × IsClusterFault text fault)

-- What holds where nothing is left of files, or of what is left.
abbrev pub IfLeft : {D : Type 0} {g : Ghosts D} → Option (Leftover D g) → Type 0 → (Leftover D g → Type 0) → Type 0
IfLeft None P Q = P
IfLeft (Some left) P Q = Q left

-- Of the files that held this, and of what is left of them, each fault of a job. As long as nobody else wrote to them.
module _ {D : Type 0} {g : Ghosts D} (held : Image) (rest : Option (Leftover D g)) where
  -- Where something is left clean the fault came for such a cause. Files that are left still hold their database, also after a crash; where they
  -- were not opened, or a store is left, that is told but for Unavailable. What an open after a crash may find in a store that is left is what it
  -- finds in files that held this, or one of these databases. Where nothing is left the fault is such a one.
  abbrev pub IsCaused : (Image → StoreFault → Type 0) → (StoreFault → Type 0) → (Trees → Type 0) → StoreFault → Type 0
  IsCaused Why Without commits fault = IfLeft rest (Without fault)
      (λ left. IsCleanLeft left → Why held fault × (IsSpared fault left → HoldsStill held left) × FindsStill held commits left)

  -- For this a register's file is not made of a cluster file: it has a table, or making it failed. Where its files failed to close, an open after a
  -- crash may find in their store the new register.
  abbrev pub IsNotMade : ClusterFile → Fault → Type 0
  IsNotMade f fault = (of : StoreFault) × (fault ≡ Register of) × ((of ≡ store.NotEmpty) ⊎ (of ≡ store.Unavailable))
      × IsCaused ForbidsFiles (λ of. of ≡ store.Unavailable) (makes_closed f).commits of

  -- For this no register's file is made of the cluster file at the path: none is had there, and then nothing is opened; or one
  -- was read, and no register's file is made of it.
  abbrev pub IsNotCreated : Readings → List ℕ → Fault → Type 0
  IsNotCreated read path fault = (IsNotRead read path fault × (rest ≡ None))
      ⊎ ((f : ClusterFile) × IsClusterAt read path f × IsNotMade f fault)

  -- For this a register's file is not migrated: it is no register, or one of another schema than 1, or migrating it failed.
  abbrev pub IsNotMigrated : Fault → Type 0
  IsNotMigrated (Register fault) = (fault ≢ store.NotEmpty) × IsCaused BarsMigration NeedsNone (λ db. ⊥) fault
  IsNotMigrated _ = ⊥

  -- For this a register's file is not opened: it is no register, or one of another schema than 2, or opening it failed.
  abbrev pub IsNotOpened : Fault → Type 0
  IsNotOpened (Register fault) = (fault ≢ store.NotEmpty) × IsCaused ExplainsFiles NeedsNone (λ db. ⊥) fault
  IsNotOpened _ = ⊥

  -- For this no report is given: the register is not opened; or it is, and memory is wanting then, and what is left holds the same book.
  abbrev pub IsNotReported : Fault → Type 0
  IsNotReported fault = IsNotOpened fault ⊎ ((fault ≡ NoMemory) × StaysInFile held rest)

  -- For this no answer to what was asked is given: the register is not opened; or it is, and memory is wanting then, and what
  -- is left holds the same book, or the one after this was asked.
  abbrev pub IsNotAnswered : (Cluster → Book → Result Ask Refusal) → Fault → Type 0
  IsNotAnswered asks fault = IsNotOpened fault ⊎ ((fault ≡ NoMemory) × LeadsInFile held rest asks)

  -- For this no answer is given to what is asked as who has the key that is given: it is not answered; or the key that stands on
  -- standard input is not read, and then the register's file is not opened.
  abbrev pub IsNotGiven : List ℕ → Request → Option (List ℕ) → Option (List ℕ) → Fault → Type 0
  IsNotGiven word request input left fault =
      ((key : List ℕ) × IsKeyGiven word input left key × IsNotAnswered (asked_with key request) fault)
      ⊎ ((word ≡ codes "-") × ((of : InputFault) × (fault ≡ Script (script_fault_of of)) × IsKeyUnread input of) × (rest ≡ None))

  -- For this the file of rows at the path is not delivered: it cannot be read, and then the register's file is not opened; or it
  -- was read, and no answer is given to its request.
  abbrev pub IsNotDelivered : Readings → Delivery → Option (List ℕ) → Option (List ℕ) → Fault → Type 0
  IsNotDelivered read delivery input left fault = (IsUnread read delivery.file.now fault × (rest ≡ None))
      ⊎ ((body : List ℕ) × read.front max_rows delivery.file.now body
      × IsNotGiven delivery.key.now (request_with delivery body) input left fault)
