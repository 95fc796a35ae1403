-- Left, found: as long as nobody else writes to the files, those that are left hold a book, and so does whatever a
-- crash leaves of them. What is found stands for the book that the files held, and is a register that was in them. What
-- is opened is what was left, or what a crash leaves of it. Why files are not migrated.
use Rattle.std.specs.Prelude.{◌≡◌, ◌⊎◌, List}
use Rattle.sqlite.specs.Effect.{Database}
use Rattle.sqlite.specs.Files.{HoldsDatabase, image_of}
use Rattle.sqlite.specs.Tree.{Trees}
use Rattle.sqlite.specs.declared.file.Leftover.{Leftover}
use Rattle.sqlite.specs.declared.file.Leftover.TheVariants as left
use Rattle.sqlite_disk.specs.declared.Disk.{Ghosts}
use Rattle.sqlite_disk.specs.declared.Files.{Files}
use Rattle.sqlite_store.specs.FileStore.{recovers}
use Rattle.sqlite_store.specs.declared.store.FileStore.{FileStore}
use Rattle.sqlite_wal.specs.Files.{outcomes}
use Rattle.sqlite_wal.specs.Reads.{AreClean}
use Rattle.sqlite_wal.specs.Recovery.{Image}
use Rattle.fr_base.specs.Book.{Book}
use Rattle.fr_base.specs.Cluster.{Cluster, ClusterFile}
use Rattle.fr_world.specs.Held.{Leaving, Standing}
use Rattle.fr_office.specs.Crashed.{IsNear}
use Rattle.fr_store.specs.Crashes.{HoldsOne, IsForOne}
use Rattle.fr_store.specs.Opening.{RefusesFiles}
use Rattle.fr_store.specs.Store.{IsRegisterFor, IsRegisterOf}
use Rattle.fr_store.specs.StoreFiles.{HoldsBook, IsFound, database_of}
use Rattle.fr_store.specs.declared.fault.StoreFault.{StoreFault}
use Rattle.fr_tables.specs.SchemaNumbers.{old_schema_number}

-- As long as nobody else has written to the files, they hold the book, and so does whatever a crash leaves of them.
abbrev pub LeavesBook : {D : Type 0} → Ghosts D → Files D → Cluster → Book → Type 0
LeavesBook g files c b = AreClean g files.log files.db
    → HoldsBook c b (image_of g files) × ((image : Image) → outcomes g files.log files.db image → HoldsBook c b image)

-- Whatever an open after a crash may find of a store, it is a register of this cluster with one of these books.
abbrev pub FindsOneOf : {D : Type 0} {g : Ghosts D} → FileStore D g → Leaving
FindsOneOf it c books = (db : Trees) → recovers it db → IsForOne c books db

-- Whatever an open after a crash may find of a store, it is a register of this cluster with the book, or with the one
-- after one request more.
abbrev pub FindsNear : {D : Type 0} {g : Ghosts D} → FileStore D g → Standing
FindsNear it c b = (db : Trees) → recovers it db → (x : Book) × IsNear c b x × IsRegisterFor c x (database_of db)

-- What is left of the files of a register with this book. Files that were closed hold it. Where they failed to close
-- their store is left, and an open after a crash finds the book there, or the one after one request more. Files that
-- were opened are not left unopened.
abbrev pub IsLeftWith : {D : Type 0} {g : Ghosts D} → Leftover D g → Standing
IsLeftWith {D} {g} (left.Files files) c b = LeavesBook g files c b
IsLeftWith (left.Unopened files) c b = ⊥
IsLeftWith (left.Store it) c b = FindsNear it c b

-- why files are not migrated, whatever they hold
abbrev pub BarsMigration : Image → StoreFault → Type 0
BarsMigration = RefusesFiles old_schema_number

-- Files hold a database whose tables stand for the book, as a crash leaves them.
abbrev pub HoldsLeft : Cluster → Book → Image → Type 0
HoldsLeft c b image = (db : Trees) × HoldsDatabase image db × IsRegisterFor c b (database_of db)

-- Files hold the book: a register's own, or what a crash left of one.
abbrev pub Held : Image → Standing
Held image c b = HoldsBook c b image ⊎ HoldsLeft c b image

-- What is found in files that held a book stands for it, as long as it is clean.
abbrev pub FindsHeld : Image → Type 0 → Standing → Type 0
FindsHeld held clean stands = clean → (c : Cluster) (b : Book) → Held held c b → stands c b

-- What is found in files that are opened is a register of some cluster. Where the desk stands for a cluster and a book, so do its tables.
abbrev pub FindsRegister : Image → Type 0 → Standing → Type 0
FindsRegister held clean stands =
    clean → (f : ClusterFile) × (db : Database) × IsFound held db × IsRegisterOf f db × ((c : Cluster) (b : Book) → stands c b → IsRegisterFor c b db)

-- What a crash leaves of files that were given up is a register that it would have left before.
abbrev pub AreGivenUp : {D : Type 0} → Ghosts D → Leaving → Files D → Type 0
AreGivenUp g leaves files = AreClean g files.log files.db → (image : Image) → outcomes g files.log files.db image → (c : Cluster) (books : List Book) → leaves c books
    → ∥ HoldsOne c books image ∥₁

-- What is opened is what the files hold, or what a crash leaves of them.
abbrev pub IsLeftBy : {D : Type 0} → Ghosts D → Files D → Image → Type 0
IsLeftBy g files held = (held ≡ image_of g files) ⊎ outcomes g files.log files.db held
