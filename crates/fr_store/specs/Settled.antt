-- Settled: while a store serves, what a crash leaves is the book for which it stands. This is a law.
use Rattle.std.proofs.Common.{◌≡◌, ◌∙◌, inl, [], ◌∷◌, ap, sym, subst}
use Rattle.sqlite.specs.Effect.{Database}
use Rattle.sqlite.specs.State.{State}
use Rattle.sqlite.specs.Tree.{Trees}
use Rattle.fr_base.specs.Book.{Book}
use Rattle.fr_base.specs.Cluster.{Cluster, ClusterFile}
use Rattle.fr_store.specs.Crashes.{LeavesOnly, Serves, StoredLeaves}
use Rattle.fr_store.specs.Reading.{Stands}
use Rattle.fr_store.specs.StandsFor.{StandsFor}
use Rattle.fr_store.specs.Store.{IsRegisterFor}
use Rattle.fr_store.specs.Stored.{StandsStored}
use Rattle.fr_store.specs.StoreFiles.{database_of}
use Rattle.fr_tables.specs.Tables.{HasTables, tables_in}

-- the trees of tables that stand for a book are a register's for this book
pub is_left : (s : State) (c : Cluster) (b : Book) (db : Trees) → db ≡ s.now.trees → Stands s c b → IsRegisterFor c b (database_of db)
is_left s c b db is stands = record {
  has = subst HasTables ((λ i. let d : Database = record { schema = stands.has.schema i; trees = s.now.trees } in d) ∙ ap database_of (sym is)) stands.has;
  for = subst (λ trees. StandsFor (tables_in trees) c b) (sym is) stands.for;
}

-- A crash leaves of what is committed the book for which its tables stand, and no other.
pub leaves_committed : (s : State) → ((db : Trees) → s.may_leave db → db ≡ s.committed.trees) → s.committed ≡ s.now → (c : Cluster) (b : Book) → Stands s c b → LeavesOnly s c (b ∷ [])
leaves_committed s settled same c b stands db may = inl (is_left s c b db (settled db may ∙ ap (λ (d : Database). d.trees) same) stands)

-- While a store is open, a crash leaves the book for which the store stands.
pub stored_settled : (s : State) (found : ClusterFile) (c : Cluster) (b : Book) → Serves s → StandsStored found s c b → StoredLeaves s c (b ∷ [])
stored_settled s found c b serves stands =
    let rows = stands.rows serves.up in
    record { rows = λ _. (rows.0.has, rows.1); left = leaves_committed s serves.settled rows.1 c b rows.0 }
