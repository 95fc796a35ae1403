-- Making: how far the tables are made. The database has so many of them and no row; all of the
-- schema before; or all of this schema. How the schema before becomes this one.
use Rattle.std.specs.Prelude.{◌≡◌, ℕ, None, [], take, Result, MatchResult, IsTrue}
use Rattle.std.specs.List.{AllByRecursion}
use Rattle.sqlite.specs.Effect.{Database}
use Rattle.sqlite.specs.Tree.{Trees}
use Rattle.sqlite.specs.State.{State, Shows, HasCleanDisk, KeepsCommit}
use Rattle.fr_tables.specs.Schema.{Layout, schema_of, all_tables, old_schema, register_schema, layout_of, layout_made, renewed_layout}
use Rattle.fr_tables.specs.Tables.{Tables, HasTables, HasOldTables, old_tables_in}
use Rattle.fr_tables.specs.Changes.{Stays, tables_of}

-- the database has the first so many tables and keys' indexes, and no row
pub record IsFresh (count others : ℕ) (db : Database) : Type 0 where
  pub schema : db.schema ≡ schema_of count others
  pub empty : AllByRecursion (λ t. db.trees t.tree ≡ []) (take count all_tables)

pub record Enlarges (count others : ℕ) (old new : State) : Type 0 where
  pub fresh : IsFresh count others new.now
  pub shown : Shows old new new.now old.committed old.in_transaction

-- A statement inside a transaction takes the tables from the first two counts to the next two, or
-- fails and leaves them.
abbrev pub MakesTable : {X E : Type 0} → ℕ → ℕ → ℕ → ℕ → State → State → Result X E → Type 0
MakesTable count others next others_next old new r =
    HasCleanDisk new → IsTrue old.in_transaction → IsFresh count others old.now → MatchResult r (λ _. Enlarges next others_next old new) (λ _. Stays old new)

abbrev pub no_rows : Tables
no_rows = record { register = []; cluster = []; suppliers = []; nodes = []; variants = []; grants = []; frames = []; placements = []; signals = []; imports = []; dropped = []; cluster2 = [] }

-- where the trees of the schema before have a place for `cluster2`
abbrev pub renewed_at : Trees → Layout
renewed_at db = renewed_layout (layout_of db).index (layout_of db).before

-- all tables are there, with no row
pub record IsMade (old new : State) : Type 0 where
  pub has : HasTables new.now
  pub schema : new.now.schema ≡ register_schema layout_made
  pub empty : tables_of new ≡ no_rows
  pub shown : Shows old new new.now old.committed old.in_transaction

-- all tables of the schema before are there, with no row
pub record IsOldMade (old new : State) : Type 0 where
  pub has : HasOldTables new.now
  pub schema : new.now.schema ≡ old_schema layout_made.index None
  pub placed : renewed_at new.now.trees ≡ layout_made
  pub empty : old_tables_in new.now.trees ≡ no_rows
  pub shown : Shows old new new.now old.committed old.in_transaction

-- A statement makes the index, or fails and leaves the tables as they are.
abbrev pub MakesOld : {X E : Type 0} → State → State → Result X E → Type 0
MakesOld old new r = HasCleanDisk new → IsTrue old.in_transaction → IsFresh 11 10 old.now → MatchResult r (λ _. IsOldMade old new) (λ _. Stays old new)

-- The statements inside a transaction make all tables of the schema before, or fail and commit nothing.
abbrev pub MakesOldWhole : {X E : Type 0} → State → State → Result X E → Type 0
MakesOldWhole old new r = HasCleanDisk new → IsTrue old.in_transaction → IsFresh 0 0 old.now → MatchResult r (λ _. IsOldMade old new) (λ _. KeepsCommit old new)

-- the tables are those of the schema before and an empty `cluster2`
pub record IsRenewed (old new : State) : Type 0 where
  pub has : HasTables new.now
  pub schema : new.now.schema ≡ register_schema (renewed_at old.now.trees)
  pub same : tables_of new ≡ old_tables_in old.now.trees
  pub shown : Shows old new new.now old.committed old.in_transaction

-- The last statement adds `cluster2`, or fails and leaves the tables as they are.
abbrev pub Renews : {X E : Type 0} → State → State → Result X E → Type 0
Renews old new r = HasCleanDisk new → IsTrue old.in_transaction → HasOldTables old.now → MatchResult r (λ _. IsRenewed old new) (λ _. Stays old new)

-- Several statements inside a transaction take the tables from the first two counts to the next
-- two, or fail and commit nothing.
abbrev pub Grows : {X E : Type 0} → ℕ → ℕ → ℕ → ℕ → State → State → Result X E → Type 0
Grows count others next others_next old new r =
    HasCleanDisk new → IsTrue old.in_transaction → IsFresh count others old.now → MatchResult r (λ _. Enlarges next others_next old new) (λ _. KeepsCommit old new)

-- The statements inside a transaction make all tables, or fail and commit nothing.
abbrev pub MakesWhole : {X E : Type 0} → State → State → Result X E → Type 0
MakesWhole old new r = HasCleanDisk new → IsTrue old.in_transaction → IsFresh 0 0 old.now → MatchResult r (λ _. IsMade old new) (λ _. KeepsCommit old new)
