-- Stored: when a store stands for a cluster and a book, as records do. It lists the book's suppliers; and while its
-- connection is open its tables stand for the book, and all is committed. Once a fault has shut the connection nothing is
-- said of its tables here. The change at which it was shut is kept or not, and nothing else changes: what a crash leaves
-- says that (`StoredLeaves`, and above `StandsKept`).
use Rattle.std.specs.Prelude.{◌≡◌, IsTrue}
use Rattle.sqlite.specs.State.{State}
use Rattle.fr_base.specs.Book.{Book, file_of}
use Rattle.fr_base.specs.Cluster.{Cluster, ClusterFile}
use Rattle.fr_store.specs.Reading.{Stands}

-- It lists the book's suppliers; and while its connection is open its tables stand for the book, and all is committed. Where
-- the connection is shut, it stands for each book with these suppliers.
pub record StandsStored (found : ClusterFile) (s : State) (c : Cluster) (b : Book) : Type 0 where
  pub config : found ≡ file_of c b
  pub rows : IsTrue s.is_open → Stands s c b × (s.committed ≡ s.now)
