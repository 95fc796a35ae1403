-- What an Ok of a write on the rows of a table says.
use Rattle.std.proofs.Common.{◌≡◌, ℕ, List, slice_get, Some, None, false, Ok, Err, inl, inr, if◌then◌else◌, ap, subst}
use Rattle.sqlite.specs.Order.{Row}
use Rattle.sqlite.specs.Table.{Table}
use Rattle.sqlite.specs.Schema.{Schema}
use Rattle.sqlite_schema.specs.declared.program.Program.{Program}
use Rattle.sqlite_schema.specs.declared.command.Source.{Source}
use Rattle.sqlite.specs.Command.{Command}
use Rattle.sqlite.specs.Command.TheVariants.{Insert, InsertOr, Delete, Update}
use Rattle.sqlite_schema.specs.declared.command.Conflict.{Conflict}
use Rattle.sqlite_schema.specs.declared.command.Upsert.{Upsert}
use Rattle.sqlite.specs.Does.{Tally, Does, AtPlace, OnRows, WritesRows}
use Rattle.sqlite.specs.Rows.{Task, Written}
use Rattle.sqlite.specs.Effect.{Database, IsDatabase}
use Rattle.sqlite.specs.Listing.{understood}
use Rattle.sqlite.specs.State.{State, Shows, mode_of, Executes, ExecutesIn, ExecutesInside, IsNotRun, RunsCommand, shows_rows}
use Rattle.sqlite.proofs.Callers.{IsPlain, command_of, statement_of, runs_as}
use Rattle.sqlite_schema.specs.declared.schema.Keys.TheVariants.{Enforced}
use Rattle.sqlite_schema.specs.declared.schema.Among.TheVariants.{All}
use Rattle.sqlite_schema.specs.Rules.{Refers}
use Rattle.sqlite.specs.declared.error.Error.{Error}
use Rattle.sqlite_resolve.specs.declared.compiled.Compiled.{Compiled}
use Rattle.std.proofs.lemmas.Bool.{cases_Bool}
use Rattle.fr_tables.specs.Changes.{Stays}
use Rattle.fr_tables.proofs.Written.{IsStill}
use Rattle.fr_tables.proofs.Steps.{went, same_value}

abbrev pub task_of : State → Schema → Table → Row → Task
task_of s schema table params = record { limit = s.step_limit; keys = Enforced; schema = schema; table = table; params = params }

pub record HasRun (schema : Schema) (table : Table) (params : Row) (command : Command) (old new : State) : Type 0 where
  pub written : Written
  pub wrote : WritesRows (task_of old schema table params) old.now.trees command (Ok written)
  pub now : new.now ≡ record { schema = schema; trees = written.trees }
  pub still : IsStill schema new.now
  pub shown : Shows old new new.now (if old.in_transaction then old.committed else new.now) old.in_transaction
  pub refers : Refers All schema written.trees

module _ (schema : Schema) (table : Table) (at : ℕ) (place : slice_get schema.tables at ≡ Some table) (params : Row) (old new : State) (tally : Tally) (sound : IsDatabase new.now)
    (shown : Shows old new new.now (if old.in_transaction then old.committed else new.now) old.in_transaction) where
  on_table : (command : Command) → AtPlace (λ t. OnRows (task_of old schema t params) (mode_of old) None command old.now.trees) (slice_get schema.tables at) (Ok (tally, new.now))
      → HasRun schema table params command old new
  on_table command does =
      let done = went (subst (λ t. AtPlace (λ table. OnRows (task_of old schema table params) (mode_of old) None command old.now.trees) t (Ok (tally, new.now))) place does) in
      let now : new.now ≡ record { schema = schema; trees = done.0.trees } = ap (λ (p : Tally × Database). p.1) (same_value (went (went done.2).2).2) in
      record { written = done.0; wrote = done.1; now = now; still = record { is = ap (λ (d : Database). d.schema) now; sound = sound }; shown = shown; refers = (went done.2).1.0 }

module _ (schema : Schema) (table : Table) (text : List ℕ) (params : Row) (plain : IsPlain (understood schema text)) (old new : State) (count : ℕ)
    (has : old.now.schema ≡ schema) (h : Executes text params old new (Ok count)) (at : ℕ) (place : slice_get schema.tables at ≡ Some table) where
  pub inserts : (from : Source) → command_of (understood schema text) ≡ Insert at from → HasRun schema table params (Insert at from) old new
  inserts from is =
      let w = runs_as text params old new schema has (Insert at from) is plain count h in
      on_table schema table at place params old new w.tally w.sound w.shown (Insert at from)
      (subst (λ s. Does old.step_limit (mode_of old) params (record old.now { schema = s }) (statement_of text (understood schema text)) None (Insert at from) (Ok (w.tally, new.now))) has w.changed)

  pub deletes : (q : Program) → command_of (understood schema text) ≡ Delete at q → HasRun schema table params (Delete at q) old new
  deletes q is =
      let w = runs_as text params old new schema has (Delete at q) is plain count h in
      on_table schema table at place params old new w.tally w.sound w.shown (Delete at q)
      (subst (λ s. Does old.step_limit (mode_of old) params (record old.now { schema = s }) (statement_of text (understood schema text)) None (Delete at q) (Ok (w.tally, new.now))) has w.changed)

command_failed : (old new : State) (sql : List ℕ) (c : Compiled) (params : Row) (e : Error) → RunsCommand old new sql c params (Err e) → Stays old new
command_failed old new sql c params e (inl h) = inl h.1
command_failed old new sql c params e (inr h) = inr h.3

-- a statement that fails changes nothing, or undoes the transaction
pub failed : (sql : List ℕ) (params : Row) (old new : State) (e : Error) → Executes sql params old new (Err e) → Stays old new
unfolding ExecutesIn IsNotRun
failed sql params old new e (inl (inl h)) = inl h.1
failed sql params old new e (inl (inr h)) = inr h.3
failed sql params old new e (inr h) = elim (cases_Bool (shows_rows false h.0)) [
  | inl shows ↦ inl (rw shows at h.2).1
  | inr runs ↦ command_failed old new sql h.0 _ e (rw runs at h.2)
]

pub stays_inside : (sql : List ℕ) (params : Row) (old new : State) (e : Error) → ExecutesInside 0 sql params old new (Err e) → Stays old new
stays_inside sql params old new e (inl h) = h.1
stays_inside sql params old new e (inr h) = inl h.2

pub updates : (schema : Schema) (table : Table) (text : List ℕ) (params : Row) → IsPlain (understood schema text) → (old new : State) (count : ℕ) → old.now.schema ≡ schema → Executes text params old new (Ok count)
    → (at : ℕ) → slice_get schema.tables at ≡ Some table → (q : Program) → command_of (understood schema text) ≡ Update at q → HasRun schema table params (Update at q) old new
updates schema table text params plain old new count has h at place q is =
    let w = runs_as text params old new schema has (Update at q) is plain count h in
    on_table schema table at place params old new w.tally w.sound w.shown (Update at q)
    (subst (λ s. Does old.step_limit (mode_of old) params (record old.now { schema = s }) (statement_of text (understood schema text)) None (Update at q) (Ok (w.tally, new.now))) has w.changed)

pub inserts_or : (schema : Schema) (table : Table) (text : List ℕ) (params : Row) → IsPlain (understood schema text) → (old new : State) (count : ℕ) → old.now.schema ≡ schema → Executes text params old new (Ok count)
    → (at : ℕ) → slice_get schema.tables at ≡ Some table → (way : Conflict) (from : Source) (clauses : List Upsert) → command_of (understood schema text) ≡ InsertOr at way from clauses
    → HasRun schema table params (InsertOr at way from clauses) old new
inserts_or schema table text params plain old new count has h at place way from clauses is =
    let command = InsertOr at way from clauses in
    let w = runs_as text params old new schema has command is plain count h in
    on_table schema table at place params old new w.tally w.sound w.shown command
    (subst (λ s. Does old.step_limit (mode_of old) params (record old.now { schema = s }) (statement_of text (understood schema text)) None command (Ok (w.tally, new.now))) has w.changed)
