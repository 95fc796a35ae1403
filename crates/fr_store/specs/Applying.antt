-- Edits: what edits of the register's rows make of the tables, and of the book for which these
-- stand. What a crash leaves of edits. What a call says of itself that runs inside a transaction,
-- or that commits edits.
use Rattle.std.specs.Prelude.{◌≡◌, ℕ, List, [], ◌∷◌, Option, None, Result, Ok, Err, MatchResult, OnOk, OnErr, IfErr, IsTrue, ⊤}
use Rattle.sqlite.specs.declared.error.Error.{Error}
use Rattle.sqlite.specs.declared.transaction.Transaction.{Transaction}
use Rattle.sqlite.specs.Held.{state}
use Rattle.sqlite.specs.State.{State, HasCleanDisk, KeepsCommit, Survives}
use Rattle.sqlite.specs.Tree.{Trees}
use Rattle.sqlite_trees.specs.declared.store.Store.{Ghosts}
use Rattle.fr_base.specs.Cluster.{Cluster}
use Rattle.fr_base.specs.Book.{Book}
use Rattle.fr_world.specs.BookEdits.{applied, all_applied}
use Rattle.fr_world.specs.Fits.{Fits, AllFit}
use Rattle.fr_world.specs.declared.edit.Edit.{Edit}
use Rattle.fr_store.specs.Crashes.{LeavesOnly}
use Rattle.fr_store.specs.Reading.{Stands}
use Rattle.fr_store.specs.Sparing.{ChangeNoFrame, HasSameFrames}
use Rattle.fr_store.specs.Store.{IsRegisterFor}
use Rattle.fr_store.specs.StoreFiles.{database_of}
use Rattle.fr_tables.specs.Changes.{tables_of}
use Rattle.fr_tables.specs.SchemaNumbers.{AreAsBefore}
use Rattle.fr_tables.specs.Tables.{HasTables}
use Rattle.fr_store.specs.declared.fault.StoreFault.{StoreFault}
use Rattle.fr_store.specs.declared.fault.StoreFault.TheVariants.{Unavailable}

-- ---- what stays

-- the transaction is not over, and the tables are there
pub record GoesOn (s : State) : Type 0 where
  pub inside : IsTrue s.in_transaction
  pub has : HasTables s.now

-- Statements inside a transaction commit nothing. Where none fails the transaction is not over.
abbrev pub StaysInside : {X E : Type 0} → State → State → Result X E → Type 0
StaysInside old new r = HasCleanDisk new → IsTrue old.in_transaction → HasTables old.now → KeepsCommit old new × OnOk r (GoesOn new)

-- ---- calls

-- A call inside a transaction does this to what the connection shows. The only refusal is
-- `Unavailable`. A crash leaves nothing of the call, and the transaction holds the same connection
-- still.
pub record Tries {S X : Type 0} (g : Ghosts S) (Does : State → State → Result X StoreFault → Type 0) (old new : Transaction S) (r : Result X StoreFault) : Type 0 where
  pub same_reference : new.conn.ghost_name ≡ old.conn.ghost_name
  pub does : Does (state g old.conn.now) (state g new.conn.now) r
  pub refused : IfErr r (λ fault. fault ≡ Unavailable)
  pub survives : Survives (state g old.conn.now) (state g new.conn.now) (λ _. ⊥)

-- Such a call that commits nothing. Where it does not fail the transaction is not over.
pub record Edits {S X : Type 0} (g : Ghosts S) (Does : State → State → Result X StoreFault → Type 0) (old new : Transaction S) (r : Result X StoreFault) : Type 0 where
  pub same_reference : new.conn.ghost_name ≡ old.conn.ghost_name
  pub does : Does (state g old.conn.now) (state g new.conn.now) r
  pub stays : StaysInside (state g old.conn.now) (state g new.conn.now) r
  pub refused : IfErr r (λ fault. fault ≡ Unavailable)
  pub survives : Survives (state g old.conn.now) (state g new.conn.now) (λ _. ⊥)

-- what else a call inside a transaction does
abbrev pub Within : {S X E : Type 0} → Ghosts S → (State → State → Result X E → Type 0) → Transaction S → Transaction S → Result X E → Type 0
Within g does old new r = does (state g old.conn.now) (state g new.conn.now) r

-- The statement ran, or it failed and the answer is `Unavailable`.
abbrev pub IsDone : Result ℕ Error → Result ⊤ StoreFault → Type 0
IsDone ran r = MatchResult ran (λ _. r ≡ Ok tt) (λ _. r ≡ Err Unavailable)

-- The call ran and the config stays as it was, or it failed so.
abbrev pub LeavesConfig : {X : Type 0} → Result ⊤ StoreFault → Result (Option X) StoreFault → Type 0
LeavesConfig ran r = MatchResult ran (λ _. r ≡ Ok None) (λ fault. r ≡ Err fault)

-- ---- edits

-- Statements inside a transaction carry out an edit that fits, or one of them fails.
abbrev pub CarriesOut : {X E : Type 0} → Edit → State → State → Result X E → Type 0
CarriesOut edit old new r =
    HasCleanDisk new → IsTrue old.in_transaction → (c : Cluster) (b : Book) → Stands old c b → Fits c.params b edit
    → OnOk r (Stands new c (applied b edit))

-- Statements inside a transaction carry out all edits, where each fits after those before it, or
-- one of them fails.
abbrev pub CarriesOutAll : {X E : Type 0} → List Edit → State → State → Result X E → Type 0
CarriesOutAll edits old new r = HasCleanDisk new → IsTrue old.in_transaction → (c : Cluster) (b : Book) → Stands old c b → AllFit c.params b edits → OnOk r (Stands new c (all_applied b edits))

-- ---- all edits, carried out and committed

-- what a crash may leave, where the edits fit
abbrev pub LeavesAll : List Edit → State → Trees → Type 0
LeavesAll edits old db = (c : Cluster) (b : Book) → Stands old c b → AllFit c.params b edits → IsRegisterFor c (all_applied b edits) (database_of db)

-- A call carries out all edits, where each fits after those before it, and commits them: all, or
-- none. The only refusal is `Unavailable`.
pub record CommitsEdits {X : Type 0} (edits : List Edit) (old new : State) (r : Result X StoreFault) : Type 0 where
  pub stands : HasCleanDisk new → (c : Cluster) (b : Book) → Stands old c b → AllFit c.params b edits → OnOk r (Stands new c (all_applied b edits))
  pub spared : HasCleanDisk new → HasTables old.now → ChangeNoFrame edits → OnOk r (HasSameFrames (tables_of old) (tables_of new))
  pub committed : HasCleanDisk new → OnOk r (new.committed ≡ new.now)
  pub is_open : HasCleanDisk new → OnOk r (IsTrue new.is_open)
  pub undone : HasCleanDisk new → HasTables old.now → OnErr r (AreAsBefore old new)
  pub refused : IfErr r (λ fault. fault ≡ Unavailable)
  pub survives : Survives old new (LeavesAll edits old)

-- After edits that fit, a crash leaves what it left before, or the book after them. Where they were
-- carried out it leaves no other book.
pub record LeavesAfter {X E : Type 0} (edits : List Edit) (old new : State) (r : Result X E) : Type 0 where
  pub leaves : HasCleanDisk new → (c : Cluster) (b : Book) (books : List Book) → Stands old c b → AllFit c.params b edits → LeavesOnly old c books
      → LeavesOnly new c (all_applied b edits ∷ books)
  pub durable : HasCleanDisk new → (c : Cluster) (b : Book) → Stands old c b → AllFit c.params b edits → OnOk r (LeavesOnly new c (all_applied b edits ∷ []))
