-- Crashes: whatever is found after a crash is a register of the cluster, for one of these books.
-- When files hold such a register. When a store serves: its connection is open, and a crash leaves
-- what was committed.
use Rattle.std.specs.Prelude.{◌≡◌, ◌⊎◌, List, [], ◌∷◌, IsTrue}
use Rattle.sqlite.specs.Files.{HoldsDatabase}
use Rattle.sqlite.specs.State.{State}
use Rattle.sqlite.specs.Tree.{Trees}
use Rattle.sqlite_wal.specs.Recovery.{Image}
use Rattle.fr_base.specs.Book.{Book}
use Rattle.fr_base.specs.Cluster.{Cluster}
use Rattle.fr_store.specs.Store.{IsRegisterFor}
use Rattle.fr_store.specs.StoreFiles.{database_of}
use Rattle.fr_tables.specs.Tables.{HasTables}

-- the trees are those of a register of this cluster, whose tables stand for one of these books
abbrev pub IsForOne : Cluster → List Book → Trees → Type 0
IsForOne c [] db = ⊥
IsForOne c (b ∷ books) db = IsRegisterFor c b (database_of db) ⊎ IsForOne c books db

-- Whatever an open finds after a crash at this moment is a register of this cluster, with one of
-- these books.
abbrev pub LeavesOnly : State → Cluster → List Book → Type 0
LeavesOnly s c books = (db : Trees) → s.may_leave db → IsForOne c books db

-- The connection is open, and what a crash leaves is what was committed.
pub record Serves (s : State) : Type 0 where
  pub up : IsTrue s.is_open
  pub settled : (db : Trees) → s.may_leave db → db ≡ s.committed.trees

-- A store leaves one of these books, in this cluster. While its connection is open it has a
-- register's tables, and all is committed.
pub record StoredLeaves (s : State) (c : Cluster) (books : List Book) : Type 0 where
  pub rows : IsTrue s.is_open → HasTables s.now × (s.committed ≡ s.now)
  pub left : LeavesOnly s c books

-- the files hold a register of this cluster, whose tables stand for one of these books
abbrev pub HoldsOne : Cluster → List Book → Image → Type 0
HoldsOne c books image = (db : Trees) × HoldsDatabase image db × IsForOne c books db
