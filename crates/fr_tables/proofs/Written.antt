-- What is shown of a write.
use Rattle.std.proofs.Common.{◌≡◌, ◌≢◌, ℕ, List, map, if◌then◌else◌}
use Rattle.std.specs.List.{AllByRecursion}
use Rattle.sqlite.specs.Effect.{Database, IsDatabase}
use Rattle.sqlite.specs.Order.{Row}
use Rattle.sqlite.specs.Schema.{Schema}
use Rattle.sqlite.specs.State.{State, Shows}
use Rattle.fr_tables.specs.Tables.{AreKept}

-- the database has this schema, and its trees list it
pub record IsStill (schema : Schema) (db : Database) : Type 0 where
  pub is : db.schema ≡ schema
  pub sound : IsDatabase db

-- the statement wrote to the rows of the table in this tree alone
pub record WritesTo (schema : Schema) (tree : ℕ) (old new : State) : Type 0 where
  pub still : IsStill schema new.now
  pub others : AllByRecursion (λ t. t.tree ≢ tree → new.now.trees t.tree ≡ old.now.trees t.tree) schema.tables
  pub shown : Shows old new new.now (if old.in_transaction then old.committed else new.now) old.in_transaction

-- the rows are kept, and their values are these
pub record AreMade {X : Type 0} (columns : X → Row) (read : Row → X) (rows : List Row) (values : List X) : Type 0 where
  pub kept : AreKept columns read rows
  pub values_are : map read rows ≡ values
