-- A table of the register as its statements see it, and what a statement on it does.
use Rattle.std.proofs.Common.{◌≡◌, ℕ, List, ◌∷◌, map, false, slice_get, Some, Ok, Err, Result, MatchResult, IsTrue, subst}
use Rattle.sqlite.specs.declared.types.Value.{Value}
use Rattle.sqlite.specs.declared.error.Error.{Error}
use Rattle.sqlite.specs.Order.{Row}
use Rattle.sqlite.specs.Table.{Table}
use Rattle.sqlite.specs.Tree.{Trees}
use Rattle.sqlite.specs.Effect.{Database}
use Rattle.sqlite.specs.Held.{state}
use Rattle.sqlite.specs.State.{State, HasCleanDisk, Survives, Executes, ExecutesInside}
use Rattle.sqlite.specs.declared.transaction.Transaction.{Transaction}
use Rattle.sqlite_trees.specs.declared.store.Store.{Ghosts}
use Rattle.fr_tables.specs.Schema.{Layout, layout_of, register_schema, tables_at}
use Rattle.fr_tables.specs.Tables.{Tables, HasTables, AreKept, tables_in}
use Rattle.fr_tables.specs.Changes.{Changes, Stays, Runs}
use Rattle.fr_tables.proofs.Written.{WritesTo, AreMade}
use Rattle.fr_tables.proofs.RunLemmas.{stays_inside}

-- a table whose rowids are not counted
abbrev pub without_count : Table → Table
without_count t = record t { is_counted = false }

-- the table, with its place in the schema; its rows among the tables; and that a change of its tree is one of these rows
pub record TableOf {X : Type 0} (columns : X → Row) (read : Row → X) : Type 1 where
  pub table : Layout → Table
  pub at : Layout → ℕ
  pub place : (l : Layout) → slice_get (tables_at l) (at l) ≡ Some (table l)
  pub uncounted : (l : Layout) → without_count (table l) ≡ table l
  pub rows : Tables → List X
  pub put : List X → Tables → Tables
  pub are : (db : Trees) → rows (tables_in db) ≡ map read (db (table (layout_of db)).tree)
  pub again : (id : Value) (x : X) → read (id ∷ columns x) ≡ x
  pub kept : (db : Database) → HasTables db → AreKept columns read (db.trees (table (layout_of db.trees)).tree)
  pub made : (old new : State) → HasTables old.now → (f : List X → List X) → WritesTo (register_schema (layout_of old.now.trees)) (table (layout_of old.now.trees)).tree old new
      → AreMade columns read (new.now.trees (table (layout_of old.now.trees)).tree) (f (map read (old.now.trees (table (layout_of old.now.trees)).tree))) → Changes (λ t. put (f (rows t)) t) old new

-- inside a transaction the text does this to the tables, or it fails and changes none
pub record Does (text : List ℕ) (params : Row) (Done : State → State → Type 0) : Type 1 where
  pub ends : (old new : State) (r : Result ℕ Error) → HasTables old.now → ExecutesInside 0 text params old new r → MatchResult r (λ _. Done old new) (λ _. Stays old new)

pub does : (text : List ℕ) (params : Row) (Done : State → State → Type 0) → ((old new : State) (count : ℕ) → HasTables old.now → Executes text params old new (Ok count) → Done old new) → Does text params Done
does text params Done done = record { ends = each }
  where
    each : (old new : State) (r : Result ℕ Error) → HasTables old.now → ExecutesInside 0 text params old new r → MatchResult r (λ _. Done old new) (λ _. Stays old new)
    each old new (Err e) was h = stays_inside text params old new e h
    each old new (Ok count) was h = done old new count was h.0

-- a call inside a transaction that runs the text with these parameters
pub runs : {S : Type 0} {text : List ℕ} {params : Row} {Done : State → State → Type 0} → Does text params Done → (g : Ghosts S) (old new : Transaction S) (r : Result ℕ Error) (given : Row)
    → new.conn.ghost_name ≡ old.conn.ghost_name
    → (HasCleanDisk (state g new.conn.now) → IsTrue (state g old.conn.now).in_transaction → ExecutesInside 0 text given (state g old.conn.now) (state g new.conn.now) r)
    → Survives (state g old.conn.now) (state g new.conn.now) (λ _. ⊥) → given ≡ params
    → Runs g (λ old new r. HasCleanDisk new → IsTrue old.in_transaction → HasTables old.now → MatchResult r (λ _. Done old new) (λ _. Stays old new)) old new r
runs {S} {text} done g old new r given same ran survives are = record {
  same_reference = same;
  does = λ clean inside was.
      done.ends (state g old.conn.now) (state g new.conn.now) r was (subst (λ params. ExecutesInside 0 text params (state g old.conn.now) (state g new.conn.now) r) are (ran clean inside));
  survives = survives;
}
