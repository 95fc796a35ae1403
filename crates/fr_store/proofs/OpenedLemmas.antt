-- What a register is that was opened in files, and files that were migrated, from what their connection says.
use Rattle.std.proofs.Common.{◌≡◌, ◌∙◌, IsTrue, sym, subst}
use Rattle.sqlite.specs.Effect.{Database}
use Rattle.sqlite.specs.State.{State}
use Rattle.sqlite_disk.specs.declared.Disk.{Ghosts}
use Rattle.sqlite_disk.specs.declared.Files.{Files}
use Rattle.sqlite_wal.specs.Recovery.{Image}
use Rattle.fr_base.specs.Book.{Book}
use Rattle.fr_base.specs.Cluster.{Cluster, ClusterFile}
use Rattle.fr_tables.specs.Changes.{tables_of}
use Rattle.fr_tables.specs.Schema.{IsOld, IsOurs}
use Rattle.fr_tables.specs.SchemaNumbers.{HasNumber, old_schema_number}
use Rattle.fr_tables.specs.Tables.{AreOrdered, HasOldTables, HasSomeTables, HasTables}
use Rattle.fr_store.specs.Before.{HoldsBookBefore, StandsBefore}
use Rattle.fr_store.specs.Crashes.{Serves}
use Rattle.fr_store.specs.Opened.{HoldCommitted, IsConnected, IsMigrated, IsOpenedIn}
use Rattle.fr_store.specs.Reading.{Stands, TellsOpened}
use Rattle.fr_store.specs.Refused.{files_alone}
use Rattle.fr_store.specs.Store.{FindsAgain, IsOpenable, IsRegisterOf}
use Rattle.fr_store.specs.StoreFiles.{IsFound, IsHeld, database_of}
use Rattle.fr_store.proofs.AgainLemmas.{held_stands, left_stands}
use Rattle.fr_store.proofs.BeforeLemmas.{allowed_opened, committed_held, found_before, old_if_before, openable_held}
use Rattle.fr_store.proofs.FileLemmas.{found_database}

pub opened_in : (held : Image) (found : ClusterFile) (old new : State) → IsConnected held old → (new.now ≡ old.now) × (new.committed ≡ old.committed) → IsTrue new.is_open → Serves new
    → IsOurs new.now.schema → (AreOrdered old.now.trees → IsRegisterOf found new.now) → (HasTables new.now → TellsOpened (tables_of new)) → FindsAgain old new found
    → IsOpenedIn held found new
opened_in held found old new from same up serves ours stands variants again =
    let here : IsOurs old.now.schema = subst (λ (d : Database). IsOurs d.schema) same.0 ours in
    let is = stands (from.ordered here) in
    let settled : new.committed ≡ old.now = same.1 ∙ sym from.opens.0.clean in
    let seen = λ (db : Database) (there : IsHeld held db). found_database held old.now db from.reads.sound from.found there in
    record {
      is_open = up;
      stands = is;
      opened = λ k db holds. (same.0 ∙ seen (database_of db) holds.held, settled ∙ seen (database_of db) holds.held);
      committed = settled ∙ sym same.0;
      serves = serves;
      reads = subst (IsFound held) (sym same.0) from.reads;
      variants = variants is.has;
      again = λ k b holds. again k b (held_stands held old k b holds (seen (database_of holds.trees) holds.register.held));
      left = λ k b db there for. again k b (left_stands old k b db for from.reads.sound here (from.found db there));
    }

pub migrated_in : {D : Type 0} (g : Ghosts D) (held : Image) (files : Files D) (old new : State) → IsConnected held old
    → ((c : Cluster) (b : Book) → StandsBefore old c b → Stands new c b) → new.committed ≡ new.now → (HasOldTables old.now → IsOpenable new.now) → IsOld old.now.schema
    → (HasSomeTables old.now → HasNumber old.now old_schema_number) → HoldCommitted g files new → IsMigrated held (files_alone g files)
migrated_in g held files old new from migrated settled opens before numbered closed =
    let openable = opens (old_if_before old from.reads.sound from.ordered_before before) in
    let stands = λ (k : Cluster) (b : Book) (holds : HoldsBookBefore k b held). migrated k b (found_before held old k b from.reads.sound from.found holds) in
    record {
      migrated = λ k b holds. committed_held _ new k b (stands k b holds) settled closed.held;
      survives = λ image may k b holds. committed_held image new k b (stands k b holds) settled (closed.left image may);
      ready = allowed_opened held old from.reads from.ordered_before before numbered;
      opens = openable_held _ new openable settled closed.held;
      opens_still = λ image may. openable_held image new openable settled (closed.left image may);
    }
