-- What the statements that make the tables do.
use Rattle.std.proofs.Common.{◌≡◌, ◌++◌, lit≤, ℕ, Option, Some, List, [], ◌∷◌, map, take, false, arith, None, Ok, Err, Result, MatchResult, IsTrue, refl, sym, ap, subst, ◌∙◌}
use Rattle.std.specs.List.{AllByRecursion}
use Rattle.sqlite.specs.Command.TheVariants.{CreateTable, CreateIndex}
use Rattle.sqlite.specs.Compile.{table_defined_by, index_defined_by}
use Rattle.sqlite.specs.Change.{created, indexed, next_tree, KeepsRows}
use Rattle.sqlite.specs.Does.{Tally, Does, lacks_sequence}
use Rattle.sqlite.specs.Table.{Table}
use Rattle.sqlite.specs.Tree.{Trees}
use Rattle.sqlite.specs.Schema.{Schema}
use Rattle.sqlite.specs.Effect.{Database, IsDatabase}
use Rattle.sqlite_catalog.specs.Listing.{IsSound}
use Rattle.sqlite.specs.Listing.{understood}
use Rattle.sqlite.specs.Held.{state}
use Rattle.sqlite.specs.declared.transaction.Transaction.{Transaction}
use Rattle.sqlite_trees.specs.declared.store.Store.{Ghosts}
use Rattle.sqlite.specs.State.{State, mode_of, Shows, Writes, Executes, ExecutesInside, HasCleanDisk, Survives}
use Rattle.sqlite.specs.declared.error.Error.{Error}
use Rattle.sqlite.proofs.Callers.{IsPlain, command_of, statement_of, runs_as}
use Rattle.sqlite_tied.specs.Compute.{everything}
use Rattle.sqlite_trees.proofs.ListLemmas.{all-append}
use Rattle.fr_tables.specs.Schema.{Layout, IsBehind, HasRoom, renewed_layout, layout_made, layout_of, schema_of, all_tables, register_schema, grants, grants_index, register_at, cluster_at, suppliers_at, nodes_at, variants_at, grants_at, frames_at, placements_at, signals_at, imports_at, dropped_at, cluster2_at, old_tables, old_schema}
use Rattle.fr_tables.specs.SchemaText.{index_text, register_text, cluster_text, suppliers_text, nodes_text, variants_text, grants_text, frames_text, placements_text, signals_text, imports_text, dropped_text, cluster2_text}
use Rattle.sqlite_schema.specs.declared.schema.Index.{Index}
use Rattle.sqlite.specs.Order.{Row}
use Rattle.fr_tables.specs.Tables.{HasOldTables, AreKept, old_tables_in}
use Rattle.fr_tables.specs.Rows.{of_register, of_cluster, of_supplier, of_node, of_variant, of_grant, of_frame, of_placement, of_signal, of_import, of_dropped, of_cluster2, register_in, cluster_in, supplier_in, node_in, variant_in, grant_in, frame_in, placement_in, signal_in, import_in, dropped_in, cluster2_in}
use Rattle.fr_tables.specs.Changes.{Stays, Runs}
use Rattle.fr_tables.specs.Making.{IsFresh, Enlarges, IsOldMade, IsRenewed, no_rows, MakesTable}
use Rattle.fr_tables.proofs.Steps.{went, same_value}
use Rattle.fr_tables.proofs.LayoutLemmas.{layout_listed, old_listed}
use Rattle.fr_tables.proofs.RunLemmas.{stays_inside}

-- the text makes that table, and the schema is then that one
pub record Defines (before after : Schema) (table : Table) (text : List ℕ) : Type 0 where
  pub command : command_of (understood before text) ≡ CreateTable
  pub whole : statement_of text (understood before text) ≡ text
  pub plain : IsPlain (understood before text)
  pub defines : table_defined_by text ≡ Ok table
  pub leaves : created before table ≡ after
  pub uncounted : lacks_sequence after ≡ false

-- the new table has no row, and the others keep theirs
record IsAdded (before after : Schema) (old new : State) : Type 0 where
  pub schema : new.now.schema ≡ after
  pub empty : new.now.trees (next_tree before) ≡ []
  pub others : KeepsRows before.tables old.now.trees new.now.trees
  pub sound : IsDatabase new.now

adds_table : (before after : Schema) (table : Table) (text : List ℕ) → Defines before after table text → (old new : State) (count : ℕ) → old.now.schema ≡ before → Executes text [] old new (Ok count)
    → IsAdded before after old new
adds_table before after table text d old new count has h =
    let w = subst (λ t. Writes old new None CreateTable t [] count) d.whole (runs_as text [] old new before has CreateTable d.command d.plain count h) in
    let all = went w.changed in
    let first = went all.1 in
    let made = first.1 in
    let both : Ok made.table ≡ Ok table = sym made.defined ∙ d.defines in
    let same : made.table ≡ table = cc in
    let schema : first.0.schema ≡ after = made.is ∙ ap (λ s. created s made.table) has ∙ ap (created before) same ∙ d.leaves in
    let plain : lacks_sequence first.0.schema ≡ false = ap lacks_sequence schema ∙ d.uncounted in
    let now : new.now ≡ first.0 = ap (λ (p : Tally × Database). p.1) (same_value all.2) ∙ same_value (rw plain at first.2) in
    record {
      schema = ap (λ (d : Database). d.schema) now ∙ schema;
      empty = ap (λ (d : Database). d.trees (next_tree before)) now ∙ subst (λ s. first.0.trees (next_tree s) ≡ []) has made.empty;
      others = subst (λ (d : Database). KeepsRows before.tables old.now.trees d.trees) (sym now) (subst (λ (s : Schema). KeepsRows s.tables old.now.trees first.0.trees) has made.others);
      sound = w.sound;
    }

still_empty : (ts : List Table) (db next : Trees) → AllByRecursion (λ t. db t.tree ≡ []) ts → KeepsRows ts db next → AllByRecursion (λ t. next t.tree ≡ []) ts
still_empty [] db next empty kept = tt
still_empty (t ∷ ts) db next empty kept = (kept.0 ∙ empty.0, still_empty ts db next empty.1 kept.1)

module _ (count others count_next others_next : ℕ) (table : ℕ → Table) (text : List ℕ) (d : Defines (schema_of count others) (schema_of count_next others_next) (table 0) text)
    (last : take count_next all_tables ≡ take count all_tables ++ table (next_tree (schema_of count others)) ∷ []) (tree : (table (next_tree (schema_of count others))).tree ≡ next_tree (schema_of count others)) where
  makes : (old new : State) (r : Result ℕ Error) → IsTrue old.in_transaction → IsFresh count others old.now → ExecutesInside 0 text [] old new r
      → MatchResult r (λ _. Enlarges count_next others_next old new) (λ _. Stays old new)
  makes old new (Err e) inside was h = stays_inside text [] old new e h
  makes old new (Ok n) inside was h =
      let added = adds_table (schema_of count others) (schema_of count_next others_next) (table 0) text d old new n was.schema h.0 in
      let before = still_empty (take count all_tables) old.now.trees new.now.trees was.empty added.others in
      record {
        fresh = record {
          schema = added.schema;
          empty = subst (λ ts. AllByRecursion (λ t. new.now.trees t.tree ≡ []) ts) (sym last) (all-append _ (take count all_tables) _ before (subst (λ n. new.now.trees n ≡ []) (sym tree) added.empty, tt));
        };
        shown = subst (λ b. Shows old new new.now old.committed b) (sym inside) h.1;
      }

  -- a call inside a transaction that runs the text
  pub makes_table : {S : Type 0} (g : Ghosts S) (old new : Transaction S) (r : Result ℕ Error) → new.conn.ghost_name ≡ old.conn.ghost_name
      → (HasCleanDisk (state g new.conn.now) → IsTrue (state g old.conn.now).in_transaction → ExecutesInside 0 text [] (state g old.conn.now) (state g new.conn.now) r)
      → Survives (state g old.conn.now) (state g new.conn.now) (λ _. ⊥) → Runs g (MakesTable count others count_next others_next) old new r
  makes_table g old new r same ran survives = record {
    same_reference = same;
    does = λ clean inside was. makes (state g old.conn.now) (state g new.conn.now) r inside was (ran clean inside);
    survives = survives;
  }

pub register_is : Defines (schema_of 0 0) (schema_of 1 0) (register_at 0) register_text
unfolding understood everything
register_is = record { command = refl; whole = refl; plain = (refl, refl); defines = refl; leaves = refl; uncounted = refl }

pub cluster_is : Defines (schema_of 1 0) (schema_of 2 0) (cluster_at 0) cluster_text
unfolding understood everything
cluster_is = record { command = refl; whole = refl; plain = (refl, refl); defines = refl; leaves = refl; uncounted = refl }

pub suppliers_is : Defines (schema_of 2 0) (schema_of 3 2) (suppliers_at 0) suppliers_text
unfolding understood everything
suppliers_is = record { command = refl; whole = refl; plain = (refl, refl); defines = refl; leaves = refl; uncounted = refl }

pub nodes_is : Defines (schema_of 3 2) (schema_of 4 3) (nodes_at 0) nodes_text
unfolding understood everything
nodes_is = record { command = refl; whole = refl; plain = (refl, refl); defines = refl; leaves = refl; uncounted = refl }

pub variants_is : Defines (schema_of 4 3) (schema_of 5 4) (variants_at 0) variants_text
unfolding understood everything
variants_is = record { command = refl; whole = refl; plain = (refl, refl); defines = refl; leaves = refl; uncounted = refl }

pub grants_is : Defines (schema_of 5 4) (schema_of 6 5) (grants_at 0) grants_text
unfolding understood everything
grants_is = record { command = refl; whole = refl; plain = (refl, refl); defines = refl; leaves = refl; uncounted = refl }

pub frames_is : Defines (schema_of 6 5) (schema_of 7 6) (frames_at 0) frames_text
unfolding understood everything
frames_is = record { command = refl; whole = refl; plain = (refl, refl); defines = refl; leaves = refl; uncounted = refl }

pub placements_is : Defines (schema_of 7 6) (schema_of 8 7) (placements_at 0) placements_text
unfolding understood everything
placements_is = record { command = refl; whole = refl; plain = (refl, refl); defines = refl; leaves = refl; uncounted = refl }

pub signals_is : Defines (schema_of 8 7) (schema_of 9 8) (signals_at 0) signals_text
unfolding understood everything
signals_is = record { command = refl; whole = refl; plain = (refl, refl); defines = refl; leaves = refl; uncounted = refl }

pub imports_is : Defines (schema_of 9 8) (schema_of 10 9) (imports_at 0) imports_text
unfolding understood everything
imports_is = record { command = refl; whole = refl; plain = (refl, refl); defines = refl; leaves = refl; uncounted = refl }

pub dropped_is : Defines (schema_of 10 9) (schema_of 11 10) (dropped_at 0) dropped_text
unfolding understood everything
dropped_is = record { command = refl; whole = refl; plain = (refl, refl); defines = refl; leaves = refl; uncounted = refl }

-- ---- the index

record IsIndex : Type 0 where
  pub command : command_of (understood (schema_of 11 10) index_text) ≡ CreateIndex 5
  pub whole : statement_of index_text (understood (schema_of 11 10) index_text) ≡ index_text
  pub plain : IsPlain (understood (schema_of 11 10) index_text)
  pub made : Index
  pub defines : index_defined_by grants index_text ≡ Ok made
  pub leaves : indexed (schema_of 11 10) grants made ≡ old_schema layout_made.index None

index_is : IsIndex
unfolding understood everything
index_is = record { command = refl; whole = refl; plain = (refl, refl); made = grants_index 0; defines = refl; leaves = refl }

none_kept : {X : Type 0} (columns : X → Row) (read : Row → X) (rows : List Row) → rows ≡ [] → AreKept columns read rows
none_kept columns read rows none = subst (AreKept columns read) (sym none) (record { rise = tt; numbered = tt; typed = tt })

-- tables with no row
empty_tables : (db : Database) → db.schema ≡ old_schema (layout_of db.trees).index (layout_of db.trees).before → HasRoom (layout_of db.trees).index → HasRoom (layout_of db.trees).before → AllByRecursion (λ t. db.trees t.tree ≡ []) old_tables → HasOldTables db × (old_tables_in db.trees ≡ no_rows)
empty_tables db schema one two e = (
  record {
    schema = schema;
    first = one;
    second = two;
    register = none_kept of_register register_in (db.trees 0) e.0;
    cluster = none_kept of_cluster cluster_in (db.trees 1) e.1.0;
    suppliers = none_kept of_supplier supplier_in (db.trees 2) e.1.1.0;
    nodes = none_kept of_node node_in (db.trees 5) e.1.1.1.0;
    variants = none_kept of_variant variant_in (db.trees 7) e.1.1.1.1.0;
    grants = none_kept of_grant grant_in (db.trees 9) e.1.1.1.1.1.0;
    frames = none_kept of_frame frame_in (db.trees 11) e.1.1.1.1.1.1.0;
    placements = none_kept of_placement placement_in (db.trees 13) e.1.1.1.1.1.1.1.0;
    signals = none_kept of_signal signal_in (db.trees 15) e.1.1.1.1.1.1.1.1.0;
    imports = none_kept of_import import_in (db.trees 17) e.1.1.1.1.1.1.1.1.1.0;
    dropped = none_kept of_dropped dropped_in (db.trees 19) e.1.1.1.1.1.1.1.1.1.1.0;
  },
  λ i. record {
    register = map register_in (e.0 i);
    cluster = map cluster_in (e.1.0 i);
    suppliers = map supplier_in (e.1.1.0 i);
    nodes = map node_in (e.1.1.1.0 i);
    variants = map variant_in (e.1.1.1.1.0 i);
    grants = map grant_in (e.1.1.1.1.1.0 i);
    frames = map frame_in (e.1.1.1.1.1.1.0 i);
    placements = map placement_in (e.1.1.1.1.1.1.1.0 i);
    signals = map signal_in (e.1.1.1.1.1.1.1.1.0 i);
    imports = map import_in (e.1.1.1.1.1.1.1.1.1.0 i);
    dropped = map dropped_in (e.1.1.1.1.1.1.1.1.1.1.0 i);
    cluster2 = [];
  },
)

pub makes_old : (old new : State) (r : Result ℕ Error) → IsTrue old.in_transaction → IsFresh 11 10 old.now → ExecutesInside 0 index_text [] old new r → MatchResult r (λ _. IsOldMade old new) (λ _. Stays old new)
makes_old old new (Err e) inside was h = stays_inside index_text [] old new e h
makes_old old new (Ok count) inside was h =
    let schema = schema_of 11 10 in
    let w = runs_as index_text [] old new schema was.schema (CreateIndex 5) index_is.command index_is.plain count h.0 in
    let changed = subst (λ s. Does old.step_limit (mode_of old) [] (record { schema = s; trees = old.now.trees }) (statement_of index_text (understood schema index_text)) None (CreateIndex 5) (Ok (w.tally, new.now))) was.schema w.changed in
    let all = went (subst (λ t. Does old.step_limit (mode_of old) [] (record { schema = schema; trees = old.now.trees }) t None (CreateIndex 5) (Ok (w.tally, new.now))) index_is.whole changed) in
    let it = all.1 in
    let both : Ok it.index ≡ Ok index_is.made = sym it.defined ∙ index_is.defines in
    let same : it.index ≡ index_is.made = cc in
    let now : new.now ≡ all.0 = ap (λ (p : Tally × Database). p.1) (same_value all.2) in
    let empty = subst (λ (d : Database). AllByRecursion (λ t. d.trees t.tree ≡ []) old_tables) (sym now) (still_empty old_tables old.now.trees all.0.trees was.empty it.rows) in
    let is : new.now.schema ≡ old_schema layout_made.index None = ap (λ (d : Database). d.schema) now ∙ it.is ∙ ap (indexed schema grants) same ∙ index_is.leaves in
    let there = old_listed new.now.trees layout_made.index None (subst (λ s. IsSound s new.now.trees) is w.sound).lists.listed in
    let tables = empty_tables new.now (is ∙ (λ i. old_schema (sym there.0 i) (sym there.1 i))) (subst HasRoom (sym there.0) (lit≤ tt, lit≤ tt)) (subst HasRoom (sym there.1) tt) empty in
    record {
      has = tables.0;
      schema = is;
      placed = λ i. renewed_layout (there.0 i) (there.1 i);
      empty = tables.1;
      shown = subst (λ b. Shows old new new.now old.committed b) (sym inside) h.1;
    }

-- ---- the table that is made last

cluster2_is : (index stats : Option ℕ) → Defines (old_schema index stats) (register_schema (renewed_layout index stats)) (cluster2_at 0) cluster2_text
unfolding understood everything
cluster2_is None None = record { command = refl; whole = refl; plain = (refl, refl); defines = refl; leaves = refl; uncounted = refl }
cluster2_is None (Some other) = record { command = refl; whole = refl; plain = (refl, refl); defines = refl; leaves = refl; uncounted = refl }
cluster2_is (Some tree) None = record { command = refl; whole = refl; plain = (refl, refl); defines = refl; leaves = refl; uncounted = refl }
cluster2_is (Some tree) (Some other) = record { command = refl; whole = refl; plain = (refl, refl); defines = refl; leaves = refl; uncounted = refl }

-- it is behind the others
behind_all : (index stats : Option ℕ) → HasRoom index → HasRoom stats → IsBehind (renewed_layout index stats)
behind_all None None one two = ((lit≤ tt, lit≤ tt), tt)
behind_all None (Some other) one two = ((omega arith, omega (arith, two.1)), (two.0, omega arith))
behind_all (Some tree) None one two = ((omega arith, omega (arith, one.1)), tt)
behind_all (Some tree) (Some other) one two = ((omega arith, omega (arith, one.1, two.1)), (two.0, omega arith))

still_kept : {X : Type 0} (columns : X → Row) (read : Row → X) (before after : List Row) → after ≡ before → AreKept columns read before → AreKept columns read after
still_kept columns read before after is kept = subst (AreKept columns read) (sym is) kept

pub renews : (old new : State) (r : Result ℕ Error) → IsTrue old.in_transaction → HasOldTables old.now → ExecutesInside 0 cluster2_text [] old new r → MatchResult r (λ _. IsRenewed old new) (λ _. Stays old new)
renews old new (Err e) inside was h = stays_inside cluster2_text [] old new e h
renews old new (Ok count) inside was h =
    let here = layout_of old.now.trees in
    let l = renewed_layout here.index here.before in
    let added = adds_table (old_schema here.index here.before) (register_schema l) (cluster2_at 0) cluster2_text (cluster2_is here.index here.before) old new count was.schema h.0 in
    let placed : layout_of new.now.trees ≡ l = layout_listed new.now.trees l (subst (λ s. IsSound s new.now.trees) added.schema added.sound).lists.listed in
    let none : new.now.trees (layout_of new.now.trees).cluster2 ≡ [] = ap (λ (x : Layout). new.now.trees x.cluster2) placed ∙ added.empty in
    let k = added.others in
    let db = old.now.trees in
    let next = new.now.trees in
    record {
      has = record {
        schema = added.schema ∙ ap register_schema (sym placed);
        behind = subst IsBehind (sym placed) (behind_all here.index here.before was.first was.second);
        register = still_kept of_register register_in (db 0) (next 0) k.0 was.register;
        cluster = still_kept of_cluster cluster_in (db 1) (next 1) k.1.0 was.cluster;
        suppliers = still_kept of_supplier supplier_in (db 2) (next 2) k.1.1.0 was.suppliers;
        nodes = still_kept of_node node_in (db 5) (next 5) k.1.1.1.0 was.nodes;
        variants = still_kept of_variant variant_in (db 7) (next 7) k.1.1.1.1.0 was.variants;
        grants = still_kept of_grant grant_in (db 9) (next 9) k.1.1.1.1.1.0 was.grants;
        frames = still_kept of_frame frame_in (db 11) (next 11) k.1.1.1.1.1.1.0 was.frames;
        placements = still_kept of_placement placement_in (db 13) (next 13) k.1.1.1.1.1.1.1.0 was.placements;
        signals = still_kept of_signal signal_in (db 15) (next 15) k.1.1.1.1.1.1.1.1.0 was.signals;
        imports = still_kept of_import import_in (db 17) (next 17) k.1.1.1.1.1.1.1.1.1.0 was.imports;
        dropped = still_kept of_dropped dropped_in (db 19) (next 19) k.1.1.1.1.1.1.1.1.1.1.0 was.dropped;
        cluster2 = none_kept of_cluster2 cluster2_in (next (layout_of next).cluster2) none;
      };
      schema = added.schema;
      same = λ i. record {
        register = map register_in (k.0 i);
        cluster = map cluster_in (k.1.0 i);
        suppliers = map supplier_in (k.1.1.0 i);
        nodes = map node_in (k.1.1.1.0 i);
        variants = map variant_in (k.1.1.1.1.0 i);
        grants = map grant_in (k.1.1.1.1.1.0 i);
        frames = map frame_in (k.1.1.1.1.1.1.0 i);
        placements = map placement_in (k.1.1.1.1.1.1.1.0 i);
        signals = map signal_in (k.1.1.1.1.1.1.1.1.0 i);
        imports = map import_in (k.1.1.1.1.1.1.1.1.1.0 i);
        dropped = map dropped_in (k.1.1.1.1.1.1.1.1.1.1.0 i);
        cluster2 = map cluster2_in (none i);
      };
      shown = subst (λ b. Shows old new new.now old.committed b) (sym inside) h.1;
    }
