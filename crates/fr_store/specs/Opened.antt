-- Opened: what a connection says that has opened files. What a register is that was opened or made
-- in them. What files are that were migrated. What files hold that were closed.
use Rattle.std.specs.Prelude.{◌≡◌, [], ◌∷◌, IsTrue}
use Rattle.sqlite.specs.Files.{HoldsDatabase, image_of}
use Rattle.sqlite.specs.State.{State, HasCleanDisk, IsLive, Opens}
use Rattle.sqlite.specs.Tree.{Trees}
use Rattle.sqlite.specs.declared.file.Leftover.{Leftover}
use Rattle.sqlite_disk.specs.declared.Disk.{Ghosts}
use Rattle.sqlite_disk.specs.declared.Files.{Files}
use Rattle.sqlite_wal.specs.Files.{outcomes}
use Rattle.sqlite_wal.specs.Recovery.{Image}
use Rattle.fr_base.specs.Book.{Book, opening}
use Rattle.fr_base.specs.Cluster.{Cluster, ClusterFile}
use Rattle.fr_tables.specs.Changes.{tables_of}
use Rattle.fr_tables.specs.Schema.{IsOld, IsOurs}
use Rattle.fr_tables.specs.Tables.{AreOrdered, AreOrderedBefore}
use Rattle.fr_store.specs.Before.{HoldsBookBefore, HoldsOpenable}
use Rattle.fr_store.specs.Crashes.{LeavesOnly, Serves}
use Rattle.fr_store.specs.Opening.{AllowsCreation, AllowsMigration}
use Rattle.fr_store.specs.Reading.{Stands, TellsOpened}
use Rattle.fr_store.specs.Store.{IsNewOf, IsRegisterOf}
use Rattle.fr_store.specs.StoreFiles.{FindsBook, FindsLeft, HoldsBook, HoldsRegister, IsFound, IsHeld, database_of, image_left, outcomes_left}

-- A connection has opened files that held this. It has the database that they held, or an empty
-- one. The rows of tables of this schema, or of the one before, are in the order of their numbers.
pub record IsConnected (held : Image) (s : State) : Type 0 where
  pub opens : Opens s × IsLive s
  pub ordered : IsOurs s.now.schema → AreOrdered s.now.trees
  pub ordered_before : IsOld s.now.schema → AreOrderedBefore s.now.trees
  pub found : (db : Trees) → HoldsDatabase held db → s.now.trees ≡ db
  pub reads : IsFound held s.now

-- A register of this cluster was opened in files that held this. All of it is committed.
pub record IsOpenedIn (held : Image) (found : ClusterFile) (s : State) : Type 0 where
  pub is_open : IsTrue s.is_open
  pub stands : IsRegisterOf found s.now
  pub opened : (c : ClusterFile) (db : Trees) → HoldsRegister c held db → (s.now ≡ database_of db) × (s.committed ≡ database_of db)
  pub committed : s.committed ≡ s.now
  pub serves : Serves s
  pub reads : IsFound held s.now
  pub variants : TellsOpened (tables_of s)
  pub again : FindsBook held s found
  pub left : FindsLeft held s found

-- A new register of this cluster was made in files that held this. All of it is committed, and a
-- crash leaves no other.
pub record IsMadeIn (held : Image) (f : ClusterFile) (s : State) : Type 0 where
  pub made : IsNewOf f s.now
  pub stands : Stands s f.cluster (opening f)
  pub committed : s.committed ≡ s.now
  pub is_open : IsTrue s.is_open
  pub durable : LeavesOnly s f.cluster (opening f ∷ [])
  pub bare : AllowsCreation held

module _ {D : Type 0} {g : Ghosts D} where
  -- Files that held this were migrated. Where they held a register of the schema before, they hold
  -- its book, in a register that an open takes; and so does whatever a crash leaves of them.
  pub record IsMigrated (held : Image) (left : Leftover D g) : Type 0 where
    pub migrated : (c : Cluster) (b : Book) → HoldsBookBefore c b held → HoldsBook c b (image_left left)
    pub survives : (image : Image) → outcomes_left left image → (c : Cluster) (b : Book) → HoldsBookBefore c b held → HoldsBook c b image
    pub ready : AllowsMigration held
    pub opens : HoldsOpenable (image_left left)
    pub opens_still : (image : Image) → outcomes_left left image → HoldsOpenable image

-- Files that a connection closed hold what it had committed, and so does whatever a crash leaves of
-- them.
pub record HoldCommitted {D : Type 0} (g : Ghosts D) (files : Files D) (s : State) : Type 0 where
  pub clean : HasCleanDisk s
  pub is_open : IsTrue s.is_open
  pub held : IsHeld (image_of g files) s.committed
  pub left : (image : Image) → outcomes g files.log files.db image → IsHeld image s.committed
