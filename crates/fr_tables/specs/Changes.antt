-- Changes, finds: a statement inside a transaction makes its change of the tables, or fails and makes none. A query
-- shows the rows that pass, in their order, and changes nothing.
use Rattle.std.specs.Prelude.{◌≡◌, ◌⊎◌, List, Result, MatchResult, IsTrue, if◌then◌else◌, IsPermutation, IsSorted, Bool, filter, map, Vec}
use Rattle.std.specs.declared.alloc.Global.{Global}
use Rattle.std.specs.declared.cmp.Ordering.{Ordering}
use Rattle.sqlite.specs.declared.transaction.Transaction.{Transaction}
use Rattle.sqlite.specs.Order.{Row}
use Rattle.sqlite.specs.Held.{Held, state}
use Rattle.sqlite.specs.State.{State, Shows, HasCleanDisk, IsUnchanged, IsRolledBack, Survives}
use Rattle.sqlite_trees.specs.declared.store.Store.{Ghosts}
use Rattle.fr_tables.specs.Tables.{Tables, HasTables, tables_in}

-- the tables that the connection sees
abbrev pub tables_of : State → Tables
tables_of s = tables_in s.now.trees

-- the tables changed so, the schema stayed, and outside a transaction the change is committed
pub record Changes (change : Tables → Tables) (old new : State) : Type 0 where
  pub has : HasTables new.now
  pub now : tables_of new ≡ change (tables_of old)
  pub schema : new.now.schema ≡ old.now.schema
  pub shown : Shows old new new.now (if old.in_transaction then old.committed else new.now) old.in_transaction

-- nothing changed, or the transaction is undone
abbrev pub Stays : State → State → Type 0
Stays old new = IsUnchanged old new ⊎ IsRolledBack old new

-- A statement inside a transaction makes this change of the tables, or fails and makes none.
abbrev pub Makes : {X E : Type 0} → (Tables → Tables) → State → State → Result X E → Type 0
Makes change old new r = HasCleanDisk new → IsTrue old.in_transaction → HasTables old.now → MatchResult r (λ _. Changes change old new) (λ _. Stays old new)

-- the rows show the list's values that pass the test, in this order
pub record AreListed {X : Type 0} (shows : X → Row) (passes : X → Bool) (cmp : X → X → Ordering) (all : List X) (rows : List Row) : Type 0 where
  pub found : List X
  pub same : IsPermutation (filter passes all) found
  pub sorted : IsSorted cmp found
  pub shown : rows ≡ map shows found

-- A query shows these rows of a table in this order and changes nothing, or it fails.
abbrev pub Finds : {X E : Type 0} → (X → Row) → (X → Bool) → (X → X → Ordering) → (Tables → List X) → State → State → Result (Vec Row Global) E → Type 0
Finds shows passes cmp all old new r =
    HasCleanDisk new → HasTables old.now → MatchResult r (λ rows. AreListed shows passes cmp (all (tables_of old)) rows.items × IsUnchanged old new) (λ _. Stays old new)

-- A crash leaves nothing of the query, and no fault is forgotten.
abbrev pub Spares : State → State → Type 0
Spares old new = Survives old new (λ _. ¬ HasTables old.now)

-- Copies of these rows are put into a table, in some order.
pub record Copies {X : Type 0} (rows : Tables → List X) (put : List X → Tables → Tables) (old new : State) : Type 0 where
  pub copies : List X
  pub same : IsPermutation (rows (tables_of old)) copies
  pub added : Changes (put copies) old new

-- A statement inside a transaction puts such copies into a table, or fails and puts none.
abbrev pub MakesCopies : {X Y E : Type 0} → (Tables → List X) → (List X → Tables → Tables) → State → State → Result Y E → Type 0
MakesCopies rows put old new r = HasCleanDisk new → IsTrue old.in_transaction → HasTables old.now → MatchResult r (λ _. Copies rows put old new) (λ _. Stays old new)

-- ---- calls

-- A call inside a transaction does this to what the connection shows. A crash leaves nothing of the
-- call, and the transaction holds the same connection still.
pub record Runs {S X E : Type 0} (g : Ghosts S) (Does : State → State → Result X E → Type 0) (old new : Transaction S) (r : Result X E) : Type 0 where
  pub same_reference : new.conn.ghost_name ≡ old.conn.ghost_name
  pub does : Does (state g old.conn.now) (state g new.conn.now) r
  pub survives : Survives (state g old.conn.now) (state g new.conn.now) (λ _. ⊥)

-- A query of a connection does this to what it shows. A crash leaves nothing of it.
pub record Asks {S X E : Type 0} (g : Ghosts S) (Does : State → State → Result X E → Type 0) (old new : Held S) (r : Result X E) : Type 0 where
  pub does : Does (state g old) (state g new) r
  pub spares : Spares (state g old) (state g new)
