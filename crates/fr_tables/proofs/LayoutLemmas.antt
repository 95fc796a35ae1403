-- Where `cluster2`, the index and the table of ANALYZE stand is what the list of objects says.
use Rattle.std.proofs.Common.{◌≡◌, ◌++◌, ◌+◌, ◌-◌, ℕ, zero, suc, pos, List, [], ◌∷◌, filter, Option, None, Some, option_map, arith, refl, sym, ap, subst, ◌∙◌}
use Rattle.std.specs.Bool.{⊤}
use Rattle.std.specs.List.{AllZip}
use Rattle.sqlite.specs.declared.types.Value.TheVariants.{Int}
use Rattle.sqlite.specs.Effect.{Database}
use Rattle.sqlite.specs.Order.{Row}
use Rattle.sqlite.specs.Table.{Table}
use Rattle.sqlite.specs.Schema.{Schema}
use Rattle.sqlite.specs.Tree.{Trees, rowid}
use Rattle.sqlite_trees.specs.Objects.{catalog_tree}
use Rattle.sqlite_schema.specs.declared.schema.Index.{Index}
use Rattle.sqlite_catalog.specs.Listing.{IsTableRow, IsIndexRow, AreListed, IsSound, is_table_row, is_index_row}
use Rattle.fr_tables.specs.Schema.{Layout, IsOurs, IsOld, MovesIndex, MovesTable, AddsStats, old_tables, moved_index, index_at, stats_at, stats_table, layout_made, key_indexes, tables_at, cluster2, cluster2_at, register_schema, old_schema, grants_index, layout_of, layout_by, row_at, tree_in}

-- ---- rows in their order

abbrev nth : {X : Type 0} → ℕ → List X → Option X
nth n [] = None
nth zero (x ∷ xs) = Some x
nth (suc n) (x ∷ xs) = nth n xs

-- what the row at a place says, if there is one
abbrev Finds : {B : Type 0} → (Row → B → Type 0) → Option Row → Option B → Type 0
Finds R None None = ⊤
Finds R None (Some y) = ⊥
Finds R (Some r) None = ⊥
Finds R (Some r) (Some y) = R r y

zip_at : {B : Type 0} (R : Row → B → Type 0) (rows : List Row) (ys : List B) (n : ℕ) → AllZip R rows ys → Finds R (row_at n rows) (nth n ys)
zip_at R [] [] n all = tt
zip_at R [] (y ∷ ys) n all = absurd all
zip_at R (r ∷ rows) [] n all = absurd all
zip_at R (r ∷ rows) (y ∷ ys) zero all = all.0
zip_at R (r ∷ rows) (y ∷ ys) (suc n) all = zip_at R rows ys n all.1

tree_is : (r : Row) (tree : ℕ) → rowid r ≡ Int (pos (tree + 1)) → tree_in r ≡ tree
tree_is r tree id = let back : (tree + 1) - 1 ≡ tree = omega arith in rw (id, back) refl

-- the tree of what stands there
trees_are : {B : Type 0} (R : Row → B → Type 0) (tree_of : B → ℕ) → ((r : Row) (y : B) → R r y → rowid r ≡ Int (pos (tree_of y + 1))) → (found : Option Row) (wanted : Option B) → Finds R found wanted
    → option_map tree_in found ≡ option_map tree_of wanted
trees_are R tree_of id None None h = refl
trees_are R tree_of id None (Some y) h = absurd h
trees_are R tree_of id (Some r) None h = absurd h
trees_are R tree_of id (Some r) (Some y) h = ap Some (tree_is r (tree_of y) (id r y h))

stats_tree : (tree : Option ℕ) → option_map (λ (t : Table). t.tree) (nth 0 (stats_at tree)) ≡ tree
stats_tree None = refl
stats_tree (Some tree) = refl

-- `cluster2` is the first behind the eleven, or the second
by_first : (index : Option ℕ) (first second third : Option Row) (tree : ℕ) (behind : Option ℕ) → Finds IsTableRow first (Some (cluster2_at tree)) → option_map tree_in second ≡ behind
    → layout_by index first second third ≡ record { cluster2 = tree; index = index; before = None; behind = behind }
by_first index None second third tree behind h is = absurd h
by_first index (Some r) second third tree behind h is = rw (h.described.name_is, tree_is r tree h.described.id, is) refl

by_second : (index : Option ℕ) (first second third : Option Row) (tree at : ℕ) (behind : Option ℕ) → Finds IsTableRow first (Some (stats_table at)) → Finds IsTableRow second (Some (cluster2_at tree))
    → option_map tree_in third ≡ behind → layout_by index first second third ≡ record { cluster2 = tree; index = index; before = Some at; behind = behind }
by_second index None second third tree at behind h k is = absurd h
by_second index (Some r) None third tree at behind h k is = absurd k
by_second index (Some r) (Some s) third tree at behind h k is = rw (h.described.name_is, tree_is r at h.described.id, tree_is s tree k.described.id, is) refl

-- the tree of the eleventh index
index_tree : (index : Option ℕ) → option_map (λ (i : Index). i.tree) (nth 10 (key_indexes ++ index_at index)) ≡ index
index_tree None = refl
index_tree (Some tree) = refl

module _ (db : Trees) where
  abbrev listed : List Row
  listed = filter is_table_row (db catalog_tree)

  abbrev indexed : List Row
  indexed = filter is_index_row (db catalog_tree)

  table_found : (schema : Schema) → AreListed (db catalog_tree) schema → (n : ℕ) → Finds IsTableRow (row_at n listed) (nth n schema.tables)
  table_found schema are n = zip_at IsTableRow listed schema.tables n are.tables

  tree_found : (schema : Schema) → AreListed (db catalog_tree) schema → (n : ℕ) → option_map tree_in (row_at n listed) ≡ option_map (λ (t : Table). t.tree) (nth n schema.tables)
  tree_found schema are n = trees_are IsTableRow (λ t. t.tree) (λ r t h. h.described.id) (row_at n listed) (nth n schema.tables) (table_found schema are n)

  index_found : (schema : Schema) → AreListed (db catalog_tree) schema → option_map tree_in (row_at 10 indexed) ≡ option_map (λ (i : Index). i.tree) (nth 10 schema.indexes)
  index_found schema are = trees_are (IsIndexRow schema.tables) (λ i. i.tree) (λ r i h. h.described.id) (row_at 10 indexed) (nth 10 schema.indexes) (zip_at (IsIndexRow schema.tables) indexed schema.indexes 10 are.indexes)

  placed : (tree : ℕ) (index before behind : Option ℕ) → AreListed (db catalog_tree) (register_schema (record { cluster2 = tree; index = index; before = before; behind = behind }))
      → layout_by index (row_at 11 listed) (row_at 12 listed) (row_at 13 listed) ≡ record { cluster2 = tree; index = index; before = before; behind = behind }
  placed tree index None behind are =
      let schema = register_schema (record { cluster2 = tree; index = index; before = None; behind = behind }) in
      by_first index (row_at 11 listed) (row_at 12 listed) (row_at 13 listed) tree behind (table_found schema are 11) (tree_found schema are 12 ∙ stats_tree behind)
  placed tree index (Some at) behind are =
      let schema = register_schema (record { cluster2 = tree; index = index; before = Some at; behind = behind }) in
      by_second index (row_at 11 listed) (row_at 12 listed) (row_at 13 listed) tree at behind (table_found schema are 11) (table_found schema are 12) (tree_found schema are 13 ∙ stats_tree behind)

  -- the list of objects of the schema of this version says where they stand
  pub layout_listed : (l : Layout) → AreListed (db catalog_tree) (register_schema l) → layout_of db ≡ l
  unfolding layout_of
  layout_listed l are =
      ap (λ index. layout_by index (row_at 11 listed) (row_at 12 listed) (row_at 13 listed)) (index_found (register_schema l) are ∙ index_tree l.index)
      ∙ placed l.cluster2 l.index l.before l.behind are

  old_placed : (index stats : Option ℕ) → AreListed (db catalog_tree) (old_schema index stats) → (at : Option ℕ) → let l = layout_by at (row_at 11 listed) (row_at 12 listed) (row_at 13 listed) in (l.index ≡ at) × (l.before ≡ stats)
  old_placed index None are at = none (row_at 11 listed) (row_at 12 listed) (row_at 13 listed) at (table_found (old_schema index None) are 11)
    where
      none : (first second third : Option Row) (at : Option ℕ) → Finds IsTableRow first None → let l = layout_by at first second third in (l.index ≡ at) × (l.before ≡ None)
      none None second third at h = (refl, refl)
      none (Some r) second third at h = absurd h
  old_placed index (Some tree) are at = some (row_at 11 listed) (row_at 12 listed) (row_at 13 listed) at (table_found (old_schema index (Some tree)) are 11)
    where
      some : (first second third : Option Row) (at : Option ℕ) → Finds IsTableRow first (Some (stats_table tree)) → let l = layout_by at first second third in (l.index ≡ at) × (l.before ≡ Some tree)
      some None second third at h = absurd h
      some (Some r) second third at h = rw (h.described.name_is, tree_is r tree h.described.id) (refl, refl)

  -- and that of the schema before where the index and the table of ANALYZE do
  pub old_listed : (index stats : Option ℕ) → AreListed (db catalog_tree) (old_schema index stats) → ((layout_of db).index ≡ index) × ((layout_of db).before ≡ stats)
  unfolding layout_of
  old_listed index stats are =
      let there = index_found (old_schema index stats) are ∙ index_tree index in
      subst (λ at. let l = layout_by at (row_at 11 listed) (row_at 12 listed) (row_at 13 listed) in (l.index ≡ index) × (l.before ≡ stats)) (sym there)
      (old_placed index stats are index)

-- so in a database that obeys the schema
pub ours_there : (db : Database) → IsSound db.schema db.trees → (o : IsOurs db.schema) → layout_of db.trees ≡ o.layout
ours_there db sound o = layout_listed db.trees o.layout (subst (λ s. IsSound s db.trees) o.is sound).lists.listed

pub old_there : (db : Database) → IsSound db.schema db.trees → (o : IsOld db.schema) → ((layout_of db.trees).index ≡ o.index) × ((layout_of db.trees).before ≡ o.stats)
old_there db sound o = old_listed db.trees o.index o.stats (subst (λ s. IsSound s db.trees) o.is sound).lists.listed

-- ---- the schema as it is made, with these in other trees

placed_index : (tree : ℕ) (index : Option ℕ) → moved_index index (grants_index tree) ≡ index_at index
placed_index tree None = refl
placed_index tree (Some at) = refl

pub placed_before : (made between next : Schema) (index stats : Option ℕ) → made ≡ old_schema layout_made.index None → MovesIndex index made between → AddsStats stats between next
    → next ≡ old_schema index stats
placed_before made between next index stats is moves adds =
    let moved = moves key_indexes (grants_index 21) (ap (λ (s : Schema). s.indexes) is) in
    let mid : between ≡ old_schema index None =
    moved ∙ ap (λ (s : Schema). record s { indexes = key_indexes ++ moved_index index (grants_index 21) }) is
    ∙ ap (λ others. record (old_schema index None) { indexes = key_indexes ++ others }) (placed_index 21 index) in
    adds ∙ ap (λ (s : Schema). record s { tables = s.tables ++ stats_at stats }) mid

pub placed_ours : (made between next : Schema) (l : Layout) → made ≡ register_schema layout_made → MovesIndex l.index made between → MovesTable l.cluster2 l.before l.behind between next
    → next ≡ register_schema l
placed_ours made between next l is moves last =
    let moved = moves key_indexes (grants_index 21) (ap (λ (s : Schema). s.indexes) is) in
    let mid : between ≡ register_schema (record layout_made { index = l.index }) =
    moved ∙ ap (λ (s : Schema). record s { indexes = key_indexes ++ moved_index l.index (grants_index 21) }) is
    ∙ ap (λ others. record (register_schema layout_made) { indexes = key_indexes ++ others }) (placed_index 21 l.index) in
    last old_tables cluster2 (ap (λ (s : Schema). s.tables) mid) ∙ ap (λ (s : Schema). record s { tables = tables_at l }) mid
