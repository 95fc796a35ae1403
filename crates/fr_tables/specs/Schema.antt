-- Schema: the tables with their columns, keys and rules, as SQLite reads them from the statements
-- that make them. The tables of the schema before lack the last one. The list of objects says where
-- the last table, the index and the table of ANALYZE stand.
use Rattle.std.specs.Prelude.{◌≡◌, ◌++◌, ◌-◌, ◌<◌, ℕ, zero, suc, IfSome, option_map, filter, Bool, true, false, if◌then◌else◌, unwrap_or, List, [], ◌∷◌, map, take, codes, pos, bytes_eq, Option, Some, None}
use Rattle.sqlite.specs.Collation.TheVariants.{Binary}
use Rattle.sqlite.specs.declared.types.Value.{Value}
use Rattle.sqlite.specs.declared.types.Value.TheVariants.{Null, Int, Text as Words}
use Rattle.sqlite.specs.Order.{Row, column as cell}
use Rattle.sqlite.specs.Tree.{Trees, rowid}
use Rattle.sqlite_trees.specs.Objects.{catalog_tree, number_in}
use Rattle.sqlite_catalog.specs.Listing.{is_table_row, is_index_row}
use Rattle.sqlite.specs.Table.{Table}
use Rattle.sqlite.specs.Schema.{Schema}
use Rattle.sqlite.specs.Change.{next_tree}
use Rattle.sqlite.specs.Kind.{Kind}
use Rattle.sqlite.specs.Kind.TheVariants.{Integer, Text, Blob, Any}
use Rattle.sqlite.specs.Term.{Term, lit, col, op2}
use Rattle.sqlite_sql.specs.declared.ops.BinaryOp.TheVariants.{Compare, And, Or}
use Rattle.sqlite_sql.specs.declared.ops.CompareOp.TheVariants.{Eq, Ge, Le}
use Rattle.sqlite_schema.specs.declared.schema.Column.{Column}
use Rattle.sqlite_schema.specs.declared.schema.Index.{Index}
use Rattle.sqlite_schema.specs.declared.schema.Reference.{Reference}
use Rattle.sqlite_schema.specs.declared.schema.Action.{Action}
use Rattle.sqlite_schema.specs.declared.schema.Action.TheVariants.{NoAction, Cascade}
use Rattle.sqlite_value.specs.Keys.{plain}

-- a column that is never NULL
abbrev pub column : List ℕ → Kind → Column
column name kind = record { name = name; kind = kind; is_strict = true; not_null = true; default = Null; collation = Binary }

abbrev pub text : List ℕ → Column
text name = column name Text

abbrev pub integer : List ℕ → Column
integer name = column name Integer

-- a text that may be NULL
abbrev pub maybe_text : List ℕ → Column
maybe_text name = record { name = name; kind = Text; is_strict = true; not_null = false; default = Null; collation = Binary }

-- a strict table; a place counts the columns from 1, and place 0 is the row's number
abbrev pub table : List ℕ → ℕ → List Column → Option ℕ → List ℕ → List (List ℕ) → List Term → List Reference → Table
table name tree columns key primary uniques checks references = record {
  name = name;
  tree = tree;
  columns = columns;
  key = key;
  primary = primary;
  uniques = uniques;
  orders = map (λ _. plain) uniques;
  checks = checks;
  references = references;
  computed = [];
  stamps = record { places = []; terms = []; formats = [] };
  is_counted = false;
}

-- a table whose only key is its first columns, so many of them
abbrev pub keyed : List ℕ → ℕ → List Column → List ℕ → List Term → List Reference → Table
keyed name tree columns primary checks references = table name tree columns None primary (primary ∷ []) checks references

-- a table of one row, which has the number 1
abbrev pub single : List ℕ → ℕ → List Column → Table
single name tree columns = table name tree (integer (codes "id") ∷ columns) (Some 0) (0 ∷ []) [] (op2 (Compare Eq Binary) (col 1 0) (lit (Int (pos 1))) ∷ []) []

-- a rule: the column at the place is 0 or 1
abbrev pub zero_or_one : ℕ → Term
zero_or_one place = op2 Or (op2 (Compare Eq Binary) (col 1 place) (lit (Int (pos 0)))) (op2 (Compare Eq Binary) (col 1 place) (lit (Int (pos 1))))

-- a rule: the column at the place is in this range
abbrev pub within : ℕ → ℕ → ℕ → Term
within low high place = op2 And (op2 (Compare Ge Binary) (col 1 place) (lit (Int (pos low)))) (op2 (Compare Le Binary) (col 1 place) (lit (Int (pos high))))

abbrev pub refers : List ℕ → List ℕ → List (List ℕ) → Action → Reference
refers columns parent parent_columns on_delete = record { columns = columns; parent = parent; parent_columns = parent_columns; on_delete = on_delete; on_update = NoAction; is_deferred = false }

-- a reference: the supplier and the node at these places are those of a node
abbrev pub to_node : List ℕ → Reference
to_node places = refers places (codes "nodes") (codes "supplier" ∷ codes "name" ∷ []) NoAction

-- a reference: the first three columns are a frame's key, and the row goes with the frame
abbrev pub by_frame : Reference
by_frame = refers (1 ∷ 2 ∷ 3 ∷ []) (codes "frames") (codes "variant" ∷ codes "supplier" ∷ codes "name" ∷ []) Cascade

abbrev pub register_at : ℕ → Table
register_at tree = single (codes "register") tree (integer (codes "schema") ∷ [])

abbrev pub cluster_at : ℕ → Table
cluster_at tree =
    single (codes "cluster") tree
    (integer (codes "static_slots") ∷ integer (codes "slot_macroticks") ∷ integer (codes "dynamic_macroticks") ∷ integer (codes "symbol_macroticks")
    ∷ integer (codes "idle_macroticks") ∷ integer (codes "macroticks_per_cycle") ∷ integer (codes "payload_words") ∷ text (codes "channels") ∷ text (codes "integrator") ∷ [])

-- the cluster's table with the count of cycles, which is 8 to 64
abbrev pub cluster2_at : ℕ → Table
cluster2_at tree =
    table (codes "cluster2") tree
    (integer (codes "id") ∷ integer (codes "static_slots") ∷ integer (codes "slot_macroticks") ∷ integer (codes "dynamic_macroticks") ∷ integer (codes "symbol_macroticks")
    ∷ integer (codes "idle_macroticks") ∷ integer (codes "macroticks_per_cycle") ∷ integer (codes "payload_words") ∷ text (codes "channels") ∷ text (codes "integrator") ∷ integer (codes "cycles") ∷ [])
    (Some 0) (0 ∷ []) [] (op2 (Compare Eq Binary) (col 1 0) (lit (Int (pos 1))) ∷ within 8 64 11 ∷ []) []

abbrev pub suppliers_at : ℕ → Table
suppliers_at tree = table (codes "suppliers") tree (text (codes "name") ∷ text (codes "key") ∷ []) None (1 ∷ []) ((1 ∷ []) ∷ (2 ∷ []) ∷ []) [] []

abbrev pub nodes_at : ℕ → Table
nodes_at tree = keyed (codes "nodes") tree (text (codes "supplier") ∷ text (codes "name") ∷ []) (1 ∷ 2 ∷ []) [] (refers (1 ∷ []) (codes "suppliers") (codes "name" ∷ []) NoAction ∷ [])

abbrev pub variants_at : ℕ → Table
variants_at tree =
    keyed (codes "variants") tree (text (codes "name") ∷ maybe_text (codes "parent") ∷ integer (codes "depth") ∷ integer (codes "released") ∷ integer (codes "overlay") ∷ []) (1 ∷ [])
    (within 1 16 3 ∷ zero_or_one 4 ∷ zero_or_one 5 ∷ []) []

abbrev pub grants_at : ℕ → Table
grants_at tree =
    keyed (codes "grants") tree (text (codes "variant") ∷ integer (codes "slot") ∷ text (codes "channel") ∷ text (codes "supplier") ∷ text (codes "node") ∷ []) (1 ∷ 2 ∷ 3 ∷ [])
    [] (to_node (4 ∷ 5 ∷ []) ∷ [])

abbrev pub frames_at : ℕ → Table
frames_at tree =
    keyed (codes "frames") tree (text (codes "variant") ∷ text (codes "supplier") ∷ text (codes "name") ∷ text (codes "node") ∷ []) (1 ∷ 2 ∷ 3 ∷ [])
    [] (to_node (2 ∷ 4 ∷ []) ∷ [])

abbrev pub placements_at : ℕ → Table
placements_at tree =
    keyed (codes "placements") tree
    (text (codes "variant") ∷ text (codes "supplier") ∷ text (codes "frame") ∷ integer (codes "slot") ∷ text (codes "channels") ∷ integer (codes "base") ∷ integer (codes "repetition") ∷ [])
    (1 ∷ 2 ∷ 3 ∷ 4 ∷ 5 ∷ 6 ∷ 7 ∷ []) [] (by_frame ∷ [])

abbrev pub signals_at : ℕ → Table
signals_at tree =
    keyed (codes "signals") tree
    (text (codes "variant") ∷ text (codes "supplier") ∷ text (codes "frame") ∷ text (codes "name") ∷ integer (codes "start") ∷ integer (codes "length") ∷ integer (codes "big") ∷ [])
    (1 ∷ 2 ∷ 3 ∷ 4 ∷ []) (zero_or_one 7 ∷ []) (by_frame ∷ [])

abbrev pub imports_at : ℕ → Table
imports_at tree =
    keyed (codes "imports") tree (text (codes "supplier") ∷ text (codes "label") ∷ text (codes "variant") ∷ column (codes "body") Blob ∷ integer (codes "rows") ∷ []) (1 ∷ 2 ∷ []) [] []

abbrev pub dropped_at : ℕ → Table
dropped_at tree = keyed (codes "dropped") tree (text (codes "variant") ∷ text (codes "supplier") ∷ text (codes "frame") ∷ []) (1 ∷ 2 ∷ 3 ∷ []) [] []

-- ---- a tree has each table's rows, and the trees behind it its automatic indexes

abbrev pub register : Table
register = register_at 0

abbrev pub cluster : Table
cluster = cluster_at 1

abbrev pub suppliers : Table
suppliers = suppliers_at 2

abbrev pub nodes : Table
nodes = nodes_at 5

abbrev pub variants : Table
variants = variants_at 7

abbrev pub grants : Table
grants = grants_at 9

abbrev pub frames : Table
frames = frames_at 11

abbrev pub placements : Table
placements = placements_at 13

abbrev pub signals : Table
signals = signals_at 15

abbrev pub imports : Table
imports = imports_at 17

abbrev pub dropped : Table
dropped = dropped_at 19

-- a column of the table that ANALYZE makes
abbrev pub loose : List ℕ → Column
loose name = record { name = name; kind = Any; is_strict = false; not_null = false; default = Null; collation = Binary }

abbrev pub stats_table : ℕ → Table
stats_table tree = table (codes "sqlite_stat1") tree (loose (codes "tbl") ∷ loose (codes "idx") ∷ loose (codes "stat") ∷ []) None [] [] [] []

abbrev pub stats_at : Option ℕ → List Table
stats_at None = []
stats_at (Some tree) = stats_table tree ∷ []

-- Where the objects stand that were made after these tables, since another SQLite may have moved or
-- made them: the tree of `cluster2`; that of the index, if there is one; and that of the table of
-- ANALYZE, before `cluster2` or behind it.
pub record Layout : Type 0 where
  pub cluster2 : ℕ
  pub index : Option ℕ
  pub before : Option ℕ
  pub behind : Option ℕ

-- the tree is one of the first four behind the tables of the schema before
abbrev pub IsNear : ℕ → Type 0
IsNear tree = (20 < tree) × (tree < 25)

-- `cluster2` stands there; the table of ANALYZE, if it stands before `cluster2`, is between the
-- other tables and it
abbrev pub IsBehind : Layout → Type 0
IsBehind l = IsNear l.cluster2 × IfSome l.before (λ tree. (20 < tree) × (tree < l.cluster2))

-- the tree, if there is one, is one of the first three there, so that `cluster2` will be one of the
-- four
abbrev pub HasRoom : Option ℕ → Type 0
HasRoom place = IfSome place (λ tree. (20 < tree) × (tree < 24))

-- the places as the tables are made: `cluster2` behind the index, as in a register that was of the
-- schema before
abbrev pub layout_made : Layout
layout_made = record { cluster2 = 22; index = Some 21; before = None; behind = None }

abbrev pub cluster2 : Table
cluster2 = cluster2_at layout_made.cluster2

abbrev pub old_tables : List Table
old_tables = register ∷ cluster ∷ suppliers ∷ nodes ∷ variants ∷ grants ∷ frames ∷ placements ∷ signals ∷ imports ∷ dropped ∷ []

-- the tables of the schema before, with these behind them
abbrev pub tables_and : List Table → List Table
tables_and more = register ∷ cluster ∷ suppliers ∷ nodes ∷ variants ∷ grants ∷ frames ∷ placements ∷ signals ∷ imports ∷ dropped ∷ more

abbrev pub behind_them : Layout → List Table
behind_them l = stats_at l.before ++ cluster2_at l.cluster2 ∷ stats_at l.behind

abbrev pub tables_at : Layout → List Table
tables_at l = tables_and (behind_them l)

abbrev pub all_tables : List Table
all_tables = tables_at layout_made

abbrev unique : List ℕ → ℕ → ℕ → List ℕ → Index
unique name tree table columns = record { name = name; tree = tree; table = table; columns = columns; order = plain; is_unique = true }

abbrev pub key_indexes : List Index
key_indexes =
    unique (codes "sqlite_autoindex_suppliers_1") 3 2 (1 ∷ []) ∷ unique (codes "sqlite_autoindex_suppliers_2") 4 2 (2 ∷ [])
    ∷ unique (codes "sqlite_autoindex_nodes_1") 6 5 (1 ∷ 2 ∷ []) ∷ unique (codes "sqlite_autoindex_variants_1") 8 7 (1 ∷ [])
    ∷ unique (codes "sqlite_autoindex_grants_1") 10 9 (1 ∷ 2 ∷ 3 ∷ []) ∷ unique (codes "sqlite_autoindex_frames_1") 12 11 (1 ∷ 2 ∷ 3 ∷ [])
    ∷ unique (codes "sqlite_autoindex_placements_1") 14 13 (1 ∷ 2 ∷ 3 ∷ 4 ∷ 5 ∷ 6 ∷ 7 ∷ []) ∷ unique (codes "sqlite_autoindex_signals_1") 16 15 (1 ∷ 2 ∷ 3 ∷ 4 ∷ [])
    ∷ unique (codes "sqlite_autoindex_imports_1") 18 17 (1 ∷ 2 ∷ []) ∷ unique (codes "sqlite_autoindex_dropped_1") 20 19 (1 ∷ 2 ∷ 3 ∷ []) ∷ []

-- the index by which a variant's grants to a supplier are found
abbrev pub grants_index : ℕ → Index
grants_index tree = record { name = codes "grants_by_supplier"; tree = tree; table = 9; columns = 1 ∷ 4 ∷ []; order = plain; is_unique = false }

-- the index in this tree, or no index, since no statement needs it
abbrev pub index_at : Option ℕ → List Index
index_at None = []
index_at (Some tree) = grants_index tree ∷ []

-- the first so many tables, with the first so many indexes
abbrev pub schema_of : ℕ → ℕ → Schema
schema_of count others = record { tables = take count all_tables; indexes = take others key_indexes; views = [] }

-- the schema before that of this version
abbrev pub old_schema : Option ℕ → Option ℕ → Schema
old_schema index stats = record { tables = tables_and (stats_at stats); indexes = key_indexes ++ index_at index; views = [] }

abbrev pub register_schema : Layout → Schema
register_schema l = record { tables = tables_at l; indexes = key_indexes ++ index_at l.index; views = [] }

-- the schema is that of this version, wherever `cluster2`, the index and the table of ANALYZE stand
pub record IsOurs (schema : Schema) : Type 0 where
  pub layout : Layout
  pub is : schema ≡ register_schema layout
  pub behind : IsBehind layout

-- the schema is the one before, wherever the index and the table of ANALYZE stand, if they are there
pub record IsOld (schema : Schema) : Type 0 where
  pub index : Option ℕ
  pub stats : Option ℕ
  pub is : schema ≡ old_schema index stats
  pub first : HasRoom index
  pub second : HasRoom stats

-- the places in a register of the schema before once `cluster2` is made: it stands behind all
-- others
abbrev pub renewed_layout : Option ℕ → Option ℕ → Layout
renewed_layout index stats = record { cluster2 = next_tree (old_schema index stats); index = index; before = stats; behind = None }

-- the last index in this tree, or none where no tree is given
abbrev pub moved_index : Option ℕ → Index → List Index
moved_index None last = []
moved_index (Some tree) last = record last { tree = tree } ∷ []

-- The last index is put into this tree, or taken out where no tree is given.
abbrev pub MovesIndex : Option ℕ → Schema → Schema → Type 0
MovesIndex tree old new = (before : List Index) (last : Index) → old.indexes ≡ before ++ last ∷ [] → new ≡ record old { indexes = before ++ moved_index tree last }

-- The last table is put into this tree, with the table of ANALYZE before it or behind it where a tree
-- is given for that.
abbrev pub MovesTable : ℕ → Option ℕ → Option ℕ → Schema → Schema → Type 0
MovesTable tree before behind old new =
    (front : List Table) (last : Table) → old.tables ≡ front ++ last ∷ [] → new ≡ record old { tables = front ++ (stats_at before ++ record last { tree = tree } ∷ stats_at behind) }

-- The table of ANALYZE is added in this tree, where one is given.
abbrev pub AddsStats : Option ℕ → Schema → Schema → Type 0
AddsStats tree old new = new ≡ record old { tables = old.tables ++ stats_at tree }

-- ---- what the list of objects says

abbrev pub is_word : List ℕ → Value → Bool
is_word word (Words said) = bytes_eq said word
is_word word _ = false

-- the row at a place of a list, if the list has it
abbrev pub row_at : ℕ → List Row → Option Row
row_at n [] = None
row_at zero (r ∷ rows) = Some r
row_at (suc n) (r ∷ rows) = row_at n rows

-- the tree of an object
abbrev pub tree_in : Row → ℕ
tree_in r = number_in (rowid r) - 1

abbrev pub is_stats : Option Row → Bool
is_stats None = false
is_stats (Some r) = is_word (codes "sqlite_stat1") (cell r 2)

-- the places by the rows of the list of objects behind the eleven tables
abbrev pub layout_by : Option ℕ → Option Row → Option Row → Option Row → Layout
layout_by index first second third =
    if is_stats first
    then record { cluster2 = unwrap_or (option_map tree_in second) 0; index = index; before = option_map tree_in first; behind = option_map tree_in third }
    else record { cluster2 = unwrap_or (option_map tree_in first) 0; index = index; before = None; behind = option_map tree_in second }

unfoldable pub layout_of : Trees → Layout
layout_of db =
    let listed = filter is_table_row (db catalog_tree) in
    layout_by (option_map tree_in (row_at 10 (filter is_index_row (db catalog_tree)))) (row_at 11 listed) (row_at 12 listed) (row_at 13 listed)
