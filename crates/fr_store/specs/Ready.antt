-- Ready: what a call says of itself that looks whether a connection or a store can be asked, and
-- what one that is refused where it cannot.
use Rattle.std.specs.Prelude.{◌≡◌, Bool, false, Result, IfErr, OnOk, IsTrue}
use Rattle.sqlite.specs.Held.{state}
use Rattle.sqlite.specs.State.{State, HasCleanDisk, IsUnchanged, Survives}
use Rattle.sqlite_trees.specs.declared.store.Store.{Ghosts}
use Rattle.fr_base.specs.Book.{Book}
use Rattle.fr_base.specs.Cluster.{Cluster}
use Rattle.fr_base.specs.declared.refusal.Refusal.{Refusal}
use Rattle.fr_base.specs.declared.refusal.Refusal.TheVariants.{Unavailable}
use Rattle.fr_tables.specs.Changes.{Stays}
use Rattle.fr_world.specs.Held.{Reads}
use Rattle.fr_store.specs.Crashes.{StoredLeaves}
use Rattle.fr_store.specs.Stored.{StandsStored}
use Rattle.fr_store.specs.declared.fault.StoreFault.{StoreFault}
use Rattle.fr_store.specs.declared.fault.StoreFault.TheVariants as fault
use Rattle.fr_store.specs.declared.store.Store.{Store}

-- A call looks whether a connection can be asked. Where it says so the connection is open, and
-- nothing changed. A crash leaves nothing of the call, and no fault is forgotten.
pub record LooksReady (old new : State) (r : Bool) : Type 0 where
  pub is_open : HasCleanDisk new → IsTrue r → IsUnchanged old new
  pub stays : HasCleanDisk new → Stays old new
  pub outside : old.in_transaction ≡ false → new.in_transaction ≡ false
  pub survives : Survives old new (λ _. ⊥)

-- The connection is open, and nothing changed; or the answer is `Unavailable`.
pub record ExpectsOpen {X : Type 0} (old new : State) (r : Result X StoreFault) : Type 0 where
  pub unchanged : HasCleanDisk new → OnOk r (IsUnchanged old new)
  pub refused : IfErr r (λ e. e ≡ fault.Unavailable)

-- A call only looks whether a store can be asked, and is refused where it cannot. Else the store's
-- connection is open. The store stands for the same book as before. The only refusal is
-- `Unavailable`.
pub record RequiresReady {S X : Type 0} (g : Ghosts S) (old new : Store S) (r : Result X Refusal) : Type 0 where
  pub reads : Reads (λ s. HasCleanDisk (state g s.conn)) (λ s. s.config.cluster.params) (λ s. StoredLeaves (state g s.conn)) old new
  pub config : new.config ≡ old.config
  pub is_open : HasCleanDisk (state g new.conn) → OnOk r (IsTrue (state g new.conn).is_open)
  pub stands : HasCleanDisk (state g new.conn) → (c : Cluster) (b : Book) → StandsStored old.config (state g old.conn) c b → StandsStored new.config (state g new.conn) c b
  pub refused : IfErr r (λ refusal. refusal ≡ Unavailable)
