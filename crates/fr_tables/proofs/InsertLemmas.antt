-- What an INSERT of one row does.
use Rattle.std.proofs.Common.{◌≡◌, ◌≢◌, ℕ, List, [], ◌∷◌, ◌++◌, map, length, slice_get, if◌then◌else◌, ◌/◌, Option, Some, Ok, sym, ap, subst, ◌∙◌}
use Rattle.std.specs.List.{AllByRecursion}
use Rattle.sqlite.specs.declared.types.Value.TheVariants.{Null, Int}
use Rattle.sqlite.specs.Order.{Row}
use Rattle.sqlite.specs.Term.{Term}
use Rattle.sqlite.specs.Tree.{Trees, put_row}
use Rattle.sqlite.specs.Table.{Table}
use Rattle.sqlite.specs.Schema.{Schema}
use Rattle.sqlite.specs.Source.TheVariants.{Values, Query}
use Rattle.sqlite.specs.Program.{overlay}
use Rattle.sqlite_schema.specs.declared.program.Program.{Program}
use Rattle.fr_tables.proofs.ReadLemmas.{Scans, scan_by, scanned, as_they_are}
use Rattle.sqlite.specs.Collation.{Collation}
use Rattle.sqlite.specs.Command.TheVariants.{Insert}
use Rattle.sqlite.specs.Edit.{edit_of, edited, next_rowid, with_rowid}
use Rattle.sqlite.specs.Cast.{cast_row}
use Rattle.sqlite.specs.Rowids.TheVariants.{Chosen}
use Rattle.fr_tables.specs.Schema.{Layout, layout_of, register_schema, tables_at}
use Rattle.sqlite.specs.Rows.{Written, Inserts, Edited, stamped}
use Rattle.sqlite_schema.specs.declared.command.Source.{Source}
use Rattle.sqlite.specs.Effect.{Database, Answers, value_rows, IsSource}
use Rattle.sqlite.specs.Listing.{understood}
use Rattle.sqlite.specs.State.{State, Shows, Executes}
use Rattle.sqlite.proofs.Callers.{IsPlain, command_of, one_step}
use Rattle.sqlite_rules.specs.Edit.{Applies}
use Rattle.sqlite_rules.proofs.ActionLemmas.{no_works}
use Rattle.sqlite_schema.specs.declared.schema.Keys.TheVariants.{Enforced}
use Rattle.fr_tables.proofs.RunLemmas.{inserts}
use Rattle.fr_tables.specs.Tables.{AreKept}
use Rattle.fr_tables.specs.Changes.{Changes}
use Rattle.fr_tables.proofs.TableOf.{TableOf, Does, does, without_count}
use Rattle.fr_tables.proofs.Written.{IsStill, WritesTo}
use Rattle.fr_tables.proofs.KeptLemmas.{put_next}
use Rattle.fr_tables.proofs.Steps.{went, same_value}

module _ (schema : Schema) (table : Table) (at : ℕ) where
  abbrev it : Table
  it = without_count table

  -- the text puts one row with these values into the table
  pub record Adds (text : List ℕ) (params values : Row) : Type 0 where
    pub terms : List Term
    pub width : ℕ
    pub is : command_of (understood schema text) ≡ Insert at (Values terms width)
    pub plain : IsPlain (understood schema text)
    pub gives : value_rows (stamped it params) width (length terms / width) terms ≡ (Null ∷ values) ∷ []
    pub stores : cast_row it (Null ∷ values) ≡ Null ∷ values

  -- the text puts the rows of a query over one table into the table
  pub record PutsRows (text : List ℕ) (params : Row) (from : ℕ) (tests : List Term) (project : List Term) : Type 0 where
    pub by : List Collation
    pub is : command_of (understood schema text) ≡ Insert at (Query (record { lets = []; body = scan_by by from tests [] project }))
    pub plain : IsPlain (understood schema text)
    pub bare : stamped it params ≡ params

  pub record HasAdded (values : Row) (old new : State) : Type 0 where
    pub wrote : WritesTo schema it.tree old new
    pub rows : new.now.trees it.tree ≡ put_row (Int (next_rowid (old.now.trees it.tree)) ∷ values) (old.now.trees it.tree)

  pub record HasCopied {X : Type 0} (store : X → Row) (xs : List X) (params : Row) (tests : List Term) (project : List Term) (old new : State) : Type 0 where
    pub still : IsStill schema new.now
    pub rows : List Row
    pub scans : Scans store xs params tests [] project rows
    pub applies : Applies schema Enforced old.now.trees (edit_of old.now.trees it [] Chosen 0 rows) new.now.trees
    pub shown : Shows old new new.now (if old.in_transaction then old.committed else new.now) old.in_transaction

  module _ (place : slice_get schema.tables at ≡ Some it) where
    -- a table that does not count takes the rows of its source in one step, which sets nothing off
    stepped : (limit : Option ℕ) (params : Row) (from : Source) (db : Trees) (w : Written) → Inserts (record { limit = limit; keys = Enforced; schema = schema; table = it; params = params }) from db (Ok w)
        → (rows : List Row) × IsSource (record { schema = schema; trees = db }) (stamped it params) from rows × Applies schema Enforced db (edit_of db it [] Chosen 0 rows) w.trees
    stepped limit params from db w h =
        let given = went h in
        let counter = went given.2 in
        let written = went counter.2 in
        let counted = went written.2 in
        let trees : w.trees ≡ written.0 = ap (λ (x : Written). x.trees) (same_value counted.2) ∙ same_value counted.1 in
        let edit = edit_of db it [] Chosen 0 given.0 in
        let did : Edited schema Enforced db edit (Ok written.0) = written.1 in
        (given.0, given.1, one_step schema Enforced db w.trees edit (no_works schema Enforced 0 it.tree edit.news) (subst (λ t. Edited schema Enforced db edit (Ok t)) (sym trees) did))

    pub adds : (text : List ℕ) (params values : Row) → Adds text params values → (old new : State) (count : ℕ) → old.now.schema ≡ schema → Executes text params old new (Ok count)
        → HasAdded values old new
    adds text params values a old new count has h =
        let db = old.now.trees in
        let from : Source = Values a.terms a.width in
        let ran = inserts schema it text params a.plain old new count has h at place from a.is in
        let step = stepped old.step_limit params from db ran.written ran.wrote in
        let all : Applies schema Enforced db (edit_of db it [] Chosen 0 ((Null ∷ values) ∷ [])) ran.written.trees =
        subst (λ rows. Applies schema Enforced db (edit_of db it [] Chosen 0 rows) ran.written.trees) (step.1.1 ∙ a.gives) step.2 in
        let put : edited db (edit_of db it [] Chosen 0 ((Null ∷ values) ∷ [])) ≡ put_row (Int (next_rowid (db it.tree)) ∷ values) (db it.tree) =
        ap (λ row. put_row (with_rowid Chosen (db it.tree) row) (db it.tree)) a.stores in
        record {
          wrote = record {
            still = ran.still;
            others = subst (λ (d : Database). AllByRecursion (λ t. t.tree ≢ it.tree → d.trees t.tree ≡ db t.tree) schema.tables) (sym ran.now) all.tables;
            shown = ran.shown;
          };
          rows = ap (λ (d : Database). d.trees it.tree) ran.now ∙ all.rows ∙ put;
        }

    pub puts_rows : (text : List ℕ) (params : Row) (from : ℕ) (tests : List Term) (project : List Term) → PutsRows text params from tests project → (old new : State) (count : ℕ) → old.now.schema ≡ schema
        → Executes text params old new (Ok count) → {X : Type 0} (store : X → Row) (xs : List X) → old.now.trees from ≡ map store xs → HasCopied store xs params tests project old new
    puts_rows text params from tests project k old new count has h store xs are =
        let db = old.now.trees in
        let q : Program = record { lets = []; body = scan_by k.by from tests [] project } in
        let ran = inserts schema it text params k.plain old new count has h at place (Query q) k.is in
        let step = stepped old.step_limit params (Query q) db ran.written ran.wrote in
        let answers = subst (λ given. Answers (record { schema = schema; trees = db }) q given step.0) k.bare step.1 in
        record {
          still = ran.still;
          rows = step.0;
          scans = scanned k.by from tests [] project params store xs (overlay db []) step.0 (as_they_are db from ∙ are) (answers.answer Null);
          applies = subst (λ (d : Database). Applies schema Enforced db (edit_of db it [] Chosen 0 step.0) d.trees) (sym ran.now) step.2;
          shown = ran.shown;
        }

pub uncounted_place : {X : Type 0} {columns : X → Row} {read : Row → X} (k : TableOf columns read) (l : Layout) → slice_get (tables_at l) (k.at l) ≡ Some (without_count (k.table l))
uncounted_place k l = k.place l ∙ ap Some (sym (k.uncounted l))

-- the text puts a row with this value into the table
abbrev pub Puts : {X : Type 0} {columns : X → Row} {read : Row → X} → TableOf columns read → List ℕ → Row → X → Type 0
Puts {X} {columns} k text params x = (l : Layout) → Adds (register_schema l) (k.table l) (k.at l) text params (columns x)

-- so its rows are those of before and then the new one
pub puts : {X : Type 0} {columns : X → Row} {read : Row → X} (k : TableOf columns read) (x : X) {text : List ℕ} {params : Row} → Puts k text params x
    → Does text params (Changes (λ t. k.put (k.rows t ++ x ∷ []) t))
puts {X} {columns} {read} k x {text} {params} p = does text params _ (λ old new count was h.
    let l = layout_of old.now.trees in
    let rows = old.now.trees (k.table l).tree in
    let did = adds (register_schema l) (k.table l) (k.at l) (uncounted_place k l) text params (columns x) (p l) old new count was.schema h in
    let put = put_next columns read rows x (λ id. k.again id x) (k.kept old.now was) in
    k.made old new was (λ xs. xs ++ x ∷ []) did.wrote (record { kept = subst (AreKept columns read) (sym did.rows) put.0; values_are = ap (map read) did.rows ∙ put.1 }))
