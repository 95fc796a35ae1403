-- What a call that only reads says of a store, after it was seen that the store can be asked.
use Rattle.std.proofs.Common.{◌≡◌, arith, inl, Ok, Err, Result, MatchResult, IfOk, IfErr, refl}
use Rattle.sqlite.specs.Held.{Held, state}
use Rattle.sqlite.specs.State.{State, HasCleanDisk, IsUnchanged}
use Rattle.sqlite_trees.specs.declared.store.Store.{Ghosts}
use Rattle.fr_base.specs.Book.{Book}
use Rattle.fr_base.specs.Cluster.{Cluster}
use Rattle.fr_base.specs.declared.refusal.Refusal.{Refusal}
use Rattle.fr_base.specs.declared.refusal.Refusal.TheVariants.{Unavailable}
use Rattle.fr_world.specs.Held.{Reads}
use Rattle.fr_tables.specs.Changes.{Spares, Stays}
use Rattle.fr_tables.specs.Tables.{HasTables}
use Rattle.fr_store.specs.Crashes.{StoredLeaves}
use Rattle.fr_store.specs.Reading.{OnlyTells, Stands}
use Rattle.fr_store.specs.Ready.{RequiresReady}
use Rattle.fr_store.specs.Stored.{StandsStored}
use Rattle.fr_store.specs.declared.fault.StoreFault.{StoreFault}
use Rattle.fr_store.specs.declared.fault.StoreFault.TheVariants as fault
use Rattle.fr_store.specs.declared.store.Store.{Store}
use Rattle.fr_store.proofs.CrashLemmas.{reads_on}
use Rattle.fr_store.proofs.StoredLaws.{Answers, told}

module _ {S X Y : Type 0} {g : Ghosts S} {old mid new : Store S} {x : X} {says : Cluster → Book → Y → Type 0} {r : Result Y StoreFault} (ready : RequiresReady g old mid (Ok x)) (tells : OnlyTells g says mid new r) where
  -- a crash leaves no more than before
  pub reads_ready : Reads (λ s. HasCleanDisk (state g s.conn)) (λ s. s.config.cluster.params) (λ s. StoredLeaves (state g s.conn)) old new
  reads_ready = reads_on (λ s. state g s.conn) (λ s. s.config) old mid new ready.reads (λ clean. ready.is_open clean) tells.spares tells.config tells.stays

  -- the store stands for the same book, and what it tells of that is answered
  pub told_ready : (o : Result Y Refusal) → Answers r o → HasCleanDisk (state g new.conn) → (c : Cluster) (b : Book) → StandsStored old.config (state g old.conn) c b
      → StandsStored new.config (state g new.conn) c b × MatchResult o (says c b) (λ e. e ≡ Unavailable)
  told_ready o is clean c b stored =
      let clean_mid : HasCleanDisk (state g mid.conn) = omega (arith, tells.spares.clean, clean) in
      let there = ready.stands clean_mid c b stored in
      let up = ready.is_open clean_mid in
      told (state g mid.conn) (state g new.conn) mid.config new.config tells.config clean c b there (says c b) r o is up tells.stays (tells.told clean c b (there.rows up).0)

-- a query that answered changed nothing, and one that failed changed nothing or undid the transaction
pub asked_stays : {X E : Type 0} (P : X → Type 0) (old new : State) (q : Result X E) → MatchResult q (λ x. P x × IsUnchanged old new) (λ _. Stays old new) → Stays old new
asked_stays P old new (Ok x) h = inl h.1
asked_stays P old new (Err e) h = h

-- a query of the store's connection tells so much of the store
pub only_tells : {S X Y E : Type 0} (g : Ghosts S) (mid : Store S) (conn : Held S) (P : X → Type 0) (q : Result X E) → Spares (state g mid.conn) (state g conn)
    → (HasCleanDisk (state g conn) → HasTables (state g mid.conn).now → MatchResult q (λ x. P x × IsUnchanged (state g mid.conn) (state g conn)) (λ _. Stays (state g mid.conn) (state g conn)))
    → (says : Cluster → Book → Y → Type 0) (r : Result Y StoreFault) → IfErr r (λ e. e ≡ fault.Unavailable)
    → (HasCleanDisk (state g conn) → (c : Cluster) (b : Book) → Stands (state g mid.conn) c b → IfOk r (says c b)) → OnlyTells g says mid (record mid { conn = conn }) r
only_tells g mid conn P q spared does says r refused tells = record {
  told = tells;
  config = refl;
  refused = refused;
  stays = λ clean has. asked_stays P (state g mid.conn) (state g conn) q (does clean has);
  spares = spared;
}
