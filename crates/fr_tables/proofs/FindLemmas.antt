-- What a query over one table says of the table's values.
use Rattle.std.proofs.Common.{◌≡◌, ℕ, List, [], ◌∷◌, ◌⊎◌, map, refl, sym, subst, Bool, Ordering, inl, inr, Ok, Err, Result, MatchResult, IfOk, IfErr}
use Rattle.std.specs.Prelude.{Vec}
use Rattle.std.specs.declared.alloc.Global.{Global}
use Rattle.std.specs.List.{list_all}
use Rattle.sqlite.specs.declared.types.Value.{Value}
use Rattle.sqlite.specs.declared.error.Error.{Error}
use Rattle.sqlite.specs.Order.{Row}
use Rattle.sqlite.specs.Schema.{Schema}
use Rattle.sqlite.specs.Term.{Term, eval_all, holds}
use Rattle.sqlite.specs.Query.{sort_cmp}
use Rattle.sqlite.specs.Held.{Held, state}
use Rattle.sqlite.specs.Listing.{understood}
use Rattle.sqlite.specs.declared.transaction.Transaction.{Transaction}
use Rattle.sqlite_trees.specs.declared.store.Store.{Ghosts}
use Rattle.sqlite.specs.State.{State, HasCleanDisk, Shown, FailsToQuery, IsTooLate, IsUnchanged, Survives, CommitsShowing}
use Rattle.sqlite.proofs.Callers.{IsPlain, never_commits}
use Rattle.sqlite_value.specs.declared.keys.Key.{Key}
use Rattle.fr_tables.specs.Schema.{Layout, IsBehind, register_schema, layout_of}
use Rattle.fr_tables.specs.Tables.{HasTables}
use Rattle.fr_tables.specs.Changes.{AreListed, Stays, Spares, Finds, Asks, Runs, tables_of}
use Rattle.fr_tables.proofs.TableOf.{TableOf}
use Rattle.fr_tables.proofs.ReadLemmas.{Reads, reads, stored_as, known, all_known, listed, shown_same, query_failed}

-- the text is a query of the rows that pass, in that order
pub record Queries (schema : Schema) {X : Type 0} (columns shows : X → Row) (passes : X → Bool) (cmp : X → X → Ordering) (tree : ℕ) (text : List ℕ) (params : Row) : Type 0 where
  pub tests : List Term
  pub order : List (Term × Key)
  pub project : List Term
  pub is : Reads schema text tree tests order project
  pub tested : (p : Value × X) → list_all (holds (params ∷ stored_as columns p ∷ [])) tests ≡ passes p.1
  pub compared : (a b : Value × X) → sort_cmp order (params ∷ stored_as columns a ∷ []) (params ∷ stored_as columns b ∷ []) ≡ cmp a.1 b.1
  pub projected : (p : Value × X) → eval_all project (params ∷ stored_as columns p ∷ []) ≡ shows p.1

failed_first : {A E : Type 0} (P Q : E → Type 0) (r : Result A E) → IfErr r P → IfErr r (λ e. P e ⊎ Q e)
failed_first P Q (Ok a) h = tt
failed_first P Q (Err e) h = inl h

-- the text is such a query of a table of the register, wherever that stands
abbrev pub Selects : {X : Type 0} {columns : X → Row} {read : Row → X} → TableOf columns read → (X → Row) → (X → Bool) → (X → X → Ordering) → List ℕ → Row → Type 0
Selects {X} {columns} k shows passes cmp text params = (l : Layout) → IsBehind l → Queries (register_schema l) columns shows passes cmp (k.table l).tree text params

-- what that says of the table
module _ {X : Type 0} {columns : X → Row} {read : Row → X} (k : TableOf columns read) {shows : X → Row} {passes : X → Bool} {cmp : X → X → Ordering} {text : List ℕ} {params : Row}
    (each : Selects k shows passes cmp text params) where
  abbrev Lists : State → State → Result (Vec Row Global) Error → Type 0
  Lists old new r = MatchResult r (λ rows. AreListed shows passes cmp (k.rows (tables_of old)) rows.items × IsUnchanged old new) (λ _. Stays old new)

  is_plain : (old : State) → HasTables old.now → IsPlain (understood old.now.schema text)
  is_plain old was = rw was.schema (each (layout_of old.now.trees) was.behind).is.plain

  pub lists : (old new : State) → HasTables old.now → (rows : List Row) → Shown text params old new rows → AreListed shows passes cmp (k.rows (tables_of old)) rows
  lists old new was rows h =
      let l = layout_of old.now.trees in
      let q = each l was.behind in
      let before = old.now.trees (k.table l).tree in
      let scans = reads (register_schema l) text (k.table l).tree q.tests q.order q.project q.is params old new rows was.schema h (stored_as columns) (map (known read) before)
      (all_known columns read before (k.kept old.now was).typed) in
      subst (λ xs. AreListed shows passes cmp xs rows) (sym (k.are old.now.trees)) (listed columns shows read passes cmp before params q.tests q.order q.project rows q.tested q.compared q.projected scans)

  finds : (old new : State) → HasTables old.now → (r : Result (Vec Row Global) Error) → IfOk r (λ rows. Shown text params old new rows.items)
      → IfErr r (λ e. FailsToQuery text params old new e ⊎ IsTooLate text params old new e) → Lists old new r
  finds old new was (Err e) h (inl fails) = query_failed text params old new e fails (is_plain old was)
  finds old new was (Err e) h (inr late) = inl late.5
  finds old new was (Ok rows) h fails = (lists old new was rows.items h, shown_same old.now.schema text params old new rows.items (is_plain old was) refl h)

  spares : (old new : State) → Survives old new (CommitsShowing text params old) → Spares old new
  spares old new s = record {
    clean = s.clean;
    shield = s.shield;
    counts = s.counts;
    limit = s.limit;
    closes = s.closes;
    crash = λ clean db left. elim (s.crash clean db left) [ inl before ↦ inl before | inr commits ↦ inr (λ was. never_commits text params old db (is_plain old was) commits) ];
  }

  -- a call of a connection that asks this with these parameters
  pub asks : {S : Type 0} (g : Ghosts S) (old new : Held S) (r : Result (Vec Row Global) Error) (given : Row)
      → (HasCleanDisk (state g new) → IfOk r (λ rows. Shown text given (state g old) (state g new) rows.items))
      → (HasCleanDisk (state g new) → IfErr r (FailsToQuery text given (state g old) (state g new)))
      → Survives (state g old) (state g new) (CommitsShowing text given (state g old)) → given ≡ params → Asks g (Finds shows passes cmp k.rows) old new r
  asks g old new r given ok err survives are = record {
    does = λ clean was.
        finds (state g old) (state g new) was r (subst (λ p. IfOk r (λ rows. Shown text p (state g old) (state g new) rows.items)) are (ok clean))
        (failed_first _ _ r (subst (λ p. IfErr r (FailsToQuery text p (state g old) (state g new))) are (err clean)));
    spares = spares (state g old) (state g new) (subst (λ p. Survives (state g old) (state g new) (CommitsShowing text p (state g old))) are survives);
  }

  -- so inside a transaction
  pub asks_inside : {S : Type 0} (g : Ghosts S) (old new : Transaction S) (r : Result (Vec Row Global) Error) (given : Row)
      → new.conn.ghost_name ≡ old.conn.ghost_name
      → (HasCleanDisk (state g new.conn.now) → IfOk r (λ rows. Shown text given (state g old.conn.now) (state g new.conn.now) rows.items))
      → (HasCleanDisk (state g new.conn.now)
      → IfErr r (λ e. FailsToQuery text given (state g old.conn.now) (state g new.conn.now) e ⊎ IsTooLate text given (state g old.conn.now) (state g new.conn.now) e))
      → Survives (state g old.conn.now) (state g new.conn.now) (λ _. ⊥) → given ≡ params → Runs g (Finds shows passes cmp k.rows) old new r
  asks_inside g old new r given same ok err survives are =
      let before = state g old.conn.now in
      let after = state g new.conn.now in
      record {
        same_reference = same;
        does = λ clean was.
            finds before after was r (subst (λ p. IfOk r (λ rows. Shown text p before after rows.items)) are (ok clean))
            (subst (λ p. IfErr r (λ e. FailsToQuery text p before after e ⊎ IsTooLate text p before after e)) are (err clean));
        survives = survives;
      }
