-- Schema numbers: the schema numbers of this version and of the one before, and when tables of either say a
-- number. What is asked of tables before they are known. For a database of any schema: when a text
-- is a query of it, which answer the query has, and whether the database says a number when it is
-- asked for that of its schema. What a call says of itself that looks at tables and leaves them as
-- they are.
use Rattle.std.specs.Prelude.{◌≡◌, ◌≢◌, ◌⊎◌, ℕ, ℤ, pos, List, [], ◌∷◌, codes, false, map, Option, None, Some, Result, Ok, IfOk, IfErr, IfSome, IsPermutation, IsTrue, Vec}
use Rattle.std.specs.declared.alloc.Global.{Global}
use Rattle.sqlite.specs.declared.error.Error.{Error}
use Rattle.sqlite.specs.declared.error.Error.TheVariants.{SqlInputError}
use Rattle.sqlite.specs.Clock.{timed}
use Rattle.sqlite.specs.Effect.{Database, Reads}
use Rattle.sqlite.specs.Held.{Held, state}
use Rattle.sqlite.specs.Listing.{reads_listing, understood, IsSourceOf}
use Rattle.sqlite.specs.Order.{Row}
use Rattle.sqlite.specs.Schema.{Schema}
use Rattle.sqlite.specs.State.{State, HasCleanDisk, Survives}
use Rattle.sqlite_resolve.specs.declared.compiled.Compiled.{Compiled}
use Rattle.sqlite_trees.specs.declared.store.Store.{Ghosts}
use Rattle.fr_tables.specs.Changes.{AreListed, tables_of}
use Rattle.fr_tables.specs.Rows.{RegisterRow}
use Rattle.fr_tables.specs.Statements.{shows_register, shows_cluster2, shows_supplier, shows_variant, every, any_order, suppliers_cmp, variants_cmp}
use Rattle.fr_tables.specs.Tables.{HasTables, HasSomeTables, tables_in}

-- the schema number that this version reads and writes
abbrev pub our_schema_number : ℤ
our_schema_number = pos 2

-- the schema number of the version before, from which a register is migrated
abbrev pub old_schema_number : ℤ
old_schema_number = pos 1

abbrev pub number_text : List ℕ
number_text = codes "SELECT schema FROM register"

abbrev pub cluster_text : List ℕ
cluster_text = codes "SELECT static_slots, slot_macroticks, dynamic_macroticks, symbol_macroticks, idle_macroticks, macroticks_per_cycle, payload_words, channels, integrator, cycles FROM cluster2"

abbrev pub suppliers_text : List ℕ
suppliers_text = codes "SELECT name, key FROM suppliers ORDER BY name"

abbrev pub variants_text : List ℕ
variants_text = codes "SELECT name, parent, depth, released, overlay FROM variants ORDER BY name"

abbrev pub numbered : ℤ → RegisterRow
numbered n = record { schema = n }

-- Where the connection is open, it was open before, and its tables are as they were.
abbrev pub AreAsBefore : State → State → Type 0
AreAsBefore old new = IsTrue new.is_open → IsTrue old.is_open × (new.now ≡ old.now) × (new.committed ≡ old.committed)

-- the tables say this number of their schema
pub record HasNumber (db : Database) (n : ℤ) : Type 0 where
  pub has : HasSomeTables db
  pub number : (tables_in db.trees).register ≡ numbered n ∷ []

-- ---- of a database with any schema

-- the text is a query over this schema
abbrev pub IsQuery : Schema → List ℕ → Type 0
IsQuery schema text = (c : Compiled) × (understood schema text ≡ Ok c) × (c.returning ≡ None)

-- the query has this answer
abbrev pub IsAnswer : List ℕ → Database → Compiled → List Row → Type 0
IsAnswer text db c rows = (source : Database) × IsSourceOf (reads_listing db.schema text) db source × (now : ℕ) × Reads c.command source (timed [] c.formats now) rows

-- the text is understood over the database's schema, and as a query of it has this answer
pub record Answers (text : List ℕ) (db : Database) (rows : List Row) : Type 0 where
  pub compiled : Compiled
  pub is : understood db.schema text ≡ Ok compiled
  pub shows : compiled.returning ≡ None → IsAnswer text db compiled rows

-- The database is asked for the number of its schema, and answers with this number.
abbrev pub SaysNumber : Database → ℤ → Type 0
SaysNumber db n = Answers number_text db (shows_register (numbered n) ∷ [])

-- The database cannot be asked for the number of its schema, or does not answer with one number.
abbrev pub SaysNoNumber : Database → Type 0
SaysNoNumber db = (¬ IsQuery db.schema number_text) ⊎ ((rows : List Row) × Answers number_text db rows × ((n : ℤ) → rows ≢ shows_register (numbered n) ∷ []))

-- ---- calls

-- A call outside a transaction tells this of what the connection shows, and leaves its tables as
-- they were. All is committed after it, and a crash leaves nothing of it.
pub record Looks {S R : Type 0} (g : Ghosts S) (Does : State → State → R → Type 0) (old new : Held S) (r : R) : Type 0 where
  pub does : Does (state g old) (state g new) r
  pub same : HasCleanDisk (state g new) → AreAsBefore (state g old) (state g new)
  pub autocommit : new.in_transaction ≡ false
  pub survives : Survives (state g old) (state g new) (λ _. ⊥)

-- What the answer to a text says of the tables. A text that this version asks is answered with the
-- rows of its table, where that is there.
pub record AnswersText (text : List ℕ) (old new : State) (r : Result (Vec Row Global) Error) : Type 0 where
  pub number : HasCleanDisk new → text ≡ number_text → HasSomeTables old.now → IfOk r (λ rows. IsPermutation (map shows_register (tables_of old).register) rows.items)
  pub told : HasCleanDisk new → text ≡ number_text → HasSomeTables old.now → IfErr r (λ e. (x : _) → e ≢ SqlInputError x)
  pub answer : HasCleanDisk new → IfOk r (λ rows. Answers text old.now rows.items)
  pub unread : HasCleanDisk new → IfErr r (λ e. (x : _) → e ≡ SqlInputError x → ¬ IsQuery old.now.schema text)
  pub cluster : HasCleanDisk new → text ≡ cluster_text → HasTables old.now → IfOk r (λ rows. AreListed shows_cluster2 every any_order (tables_of old).cluster2 rows.items)
  pub suppliers : HasCleanDisk new → text ≡ suppliers_text → HasTables old.now → IfOk r (λ rows. AreListed shows_supplier every suppliers_cmp (tables_of old).suppliers rows.items)
  pub variants : HasCleanDisk new → text ≡ variants_text → HasTables old.now → IfOk r (λ rows. AreListed shows_variant every variants_cmp (tables_of old).variants rows.items)

-- The number that was found is the one that the database says. None was found only where it says
-- none.
pub record FindsNumber (old new : State) (r : Result (Option ℤ) Error) : Type 0 where
  pub some : HasCleanDisk new → IfOk r (λ found. IfSome found (λ n. HasSomeTables old.now → HasNumber old.now n))
  pub found : HasCleanDisk new → IfOk r (λ found. (n : ℤ) → HasNumber old.now n → found ≡ Some n)
  pub says : HasCleanDisk new → IfOk r (λ found. IfSome found (SaysNumber old.now))
  pub silent : HasCleanDisk new → IfOk r (λ found. found ≡ None → SaysNoNumber old.now)
