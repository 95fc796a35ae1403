-- Files: when a database file and its log hold a database, a register, or a register for a book.
-- Which database an open finds in them. What survives since they were opened, and what a crash may
-- leave of files that were not opened.
use Rattle.std.specs.Prelude.{◌≡◌}
use Rattle.sqlite.specs.Effect.{Database, IsDatabase}
use Rattle.sqlite.specs.Closing.{files_left}
use Rattle.sqlite.specs.Files.{AreFoundIn, HoldsDatabase, file_state}
use Rattle.sqlite.specs.Held.{Held}
use Rattle.sqlite.specs.State.{State, HasCleanDisk, Opens, IsLive, Survives}
use Rattle.sqlite.specs.declared.file.Leftover.{Leftover}
use Rattle.sqlite_wal.specs.Files.{outcomes, seen_image}
use Rattle.sqlite_disk.specs.declared.Disk.{Ghosts}
use Rattle.sqlite_store.specs.declared.store.FileStore.{FileStore}
use Rattle.sqlite.specs.Tree.{Trees}
use Rattle.sqlite_wal.specs.Recovery.{Image}
use Rattle.fr_base.specs.Cluster.{Cluster, ClusterFile}
use Rattle.fr_base.specs.Book.{Book, file_of}
use Rattle.fr_tables.specs.Schema.{register_schema, layout_of}
use Rattle.fr_store.specs.StandsFor.{StandsFor}
use Rattle.fr_tables.specs.Tables.{tables_in}
use Rattle.fr_store.specs.Reading.{Stands}
use Rattle.fr_store.specs.Store.{IsRegisterOf, IsRegisterFor}

-- the files hold this database
pub record IsHeld (image : Image) (db : Database) : Type 0 where
  pub holds : ∥ HoldsDatabase image db.trees ∥₁
  pub sound : IsDatabase db

-- An open finds this database in the files: they recover to it, or nothing was there and it is
-- empty. If the files hold a database, it is this one.
pub record IsFound (image : Image) (db : Database) : Type 0 where
  pub recovered : AreFoundIn image db.trees
  pub sound : IsDatabase db
  pub only : (trees : Trees) → HoldsDatabase image trees → db.trees ≡ trees

-- An open finds these trees in the files: the files recover to them, or nothing was there and they
-- are empty. If the files hold a database, they are its trees.
pub record AreFoundAlone (image : Image) (db : Trees) : Type 0 where
  pub recovered : AreFoundIn image db
  pub only : (trees : Trees) → HoldsDatabase image trees → db ≡ trees

-- the database in these trees, with the tables of this schema, the last one and the index where the
-- trees list them
abbrev pub database_of : Trees → Database
database_of db = record { schema = register_schema (layout_of db); trees = db }

-- the files hold a register of this cluster, in these trees
pub record HoldsRegister (f : ClusterFile) (image : Image) (db : Trees) : Type 0 where
  pub held : IsHeld image (database_of db)
  pub is : IsRegisterOf f (database_of db)

-- the files hold a register whose tables stand for this cluster and this book
pub record HoldsBook (c : Cluster) (b : Book) (image : Image) : Type 0 where
  pub trees : Trees
  pub register : HoldsRegister (file_of c b) image trees
  pub for : StandsFor (tables_in trees) c b

-- if the database's tables stand for a cluster and a book, so do those that the files hold
abbrev pub KeepsBook : Database → Image → Type 0
KeepsBook db image = (c : Cluster) (b : Book) → IsRegisterFor c b db → HoldsBook c b image

-- What was found is the cluster of the register that the files held. The tables stand for its book.
abbrev pub FindsBook : Image → State → ClusterFile → Type 0
FindsBook image s found = (c : Cluster) (b : Book) → HoldsBook c b image → (found ≡ file_of c b) × Stands s c b

-- The same of a database that the files hold, whose tables stand for the book.
abbrev pub FindsLeft : Image → State → ClusterFile → Type 0
FindsLeft image s found = (c : Cluster) (b : Book) (db : Trees) → HoldsDatabase image db → IsRegisterFor c b (database_of db) → (found ≡ file_of c b) × Stands s c b

module _ {D : Type 0} {g : Ghosts D} where
  -- the image of what is left of two files
  abbrev pub image_left : Leftover D g → Image
  image_left left = let both = files_left left in seen_image g both.0 both.1

  -- what a crash may leave of what is left of two files
  abbrev pub outcomes_left : Leftover D g → Image → Type 0
  outcomes_left left = let both = files_left left in outcomes g both.0 both.1

  -- a connection that has opened files of this content
  pub record HasOpened (image : Image) (c : Held (FileStore D g)) : Type 0 where
    pub opens : HasCleanDisk (file_state c) → Opens (file_state c) × IsLive (file_state c)
    pub found : HasCleanDisk (file_state c) → (db : Trees) → HoldsDatabase image db → (file_state c).now.trees ≡ db

  -- Since the files were opened no fault was forgotten. A crash leaves what it would have left
  -- then, or what was committed since.
  abbrev pub SurvivesSince : Image → Held (FileStore D g) → (Trees → Type 0) → Type 0
  SurvivesSince image new commits = (first : Held (FileStore D g)) × HasOpened image first × Survives (file_state first) (file_state new) commits
