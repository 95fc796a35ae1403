-- The rows of a database that obeys the register's schema have the form of their tables.
use Rattle.std.proofs.Common.{◌≡◌, ◌∙◌, ℕ, ◌+◌, List, [], ◌∷◌, drop, get_or, Bool, true, false, not, ◌&&◌, ◌||◌, if◌then◌else◌, Option, IsTrue, inl, inr, Result, Ok, Err, IfOk, true≢false, arith, refl, sym, ap, subst}
use Rattle.std.specs.List.{AllByRecursion, list_all}
use Rattle.std.proofs.lemmas.List.{get_or-drop, drop-drop}
use Rattle.sqlite.specs.declared.types.Value.{Value}
use Rattle.sqlite.specs.declared.types.Value.TheVariants.{Null, Int, Real, Text, Blob}
use Rattle.sqlite.specs.Order.{Row, column}
use Rattle.sqlite.specs.Kind.{Kind}
use Rattle.sqlite.specs.Kind.TheVariants as kind
use Rattle.sqlite.specs.Tree.{Trees, IsTable, rowid}
use Rattle.sqlite.specs.Table.{Table}
use Rattle.sqlite.specs.Schema.{Schema}
use Rattle.sqlite.specs.Effect.{Database}
use Rattle.sqlite_sql.specs.Ops.{is_null}
use Rattle.sqlite_trees.specs.View.{View, IsShaped, IsOrdered, is_int}
use Rattle.sqlite_trees.specs.declared.store.Shape.TheVariants as shape
use Rattle.sqlite_trees.specs.Objects.{IsListed, catalog_tree}
use Rattle.sqlite_trees.proofs.ListLemmas.{all-append, all_weaker}
use Rattle.sqlite_catalog.proofs.LayoutLemmas.{laid_out, objects_rise}
use Rattle.std.proofs.lemmas.Bool.{cases_Bool}
use Rattle.sqlite_schema.specs.declared.schema.Column.{Column}
use Rattle.sqlite_schema.specs.declared.schema.Constraint.TheVariants.{Datatype, NotNull}
use Rattle.sqlite_schema.specs.Names.{is_key}
use Rattle.sqlite_schema.specs.Rules.{are_typed, are_present, has_computed, is_of, suits}
use Rattle.sqlite_catalog.specs.Listing.{IsSound}
use Rattle.fr_tables.specs.Schema.{register_schema, old_schema, register, cluster, suppliers, nodes, variants, grants, frames, placements, signals, imports, dropped, cluster2_at, tables_and, tables_at, behind_them, old_tables, layout_of, Layout, IsBehind, HasRoom, IsOurs, IsOld}
use Rattle.fr_tables.proofs.LayoutLemmas.{ours_there, old_there}
use Rattle.fr_tables.proofs.BehindLemmas.{last_of}
use Rattle.fr_tables.specs.Rows.{words, number, bytes, maybe_words, of_maybe, of_register, of_cluster, of_supplier, of_node, of_variant, of_grant, of_frame, of_placement, of_signal, of_import, of_dropped, register_in, cluster_in, supplier_in, node_in, variant_in, grant_in, frame_in, placement_in, signal_in, import_in, dropped_in, of_cluster2, cluster2_in}
use Rattle.fr_tables.specs.Tables.{AreKept, HasTables, HasOldTables, AreOrdered, AreOrderedBefore, AreRising}

both : (a b : Bool) → (a && b) ≡ true → (a ≡ true) × (b ≡ true)
both true b h = (refl, h)
both false b h = absurd cc

-- what a column of this kind says, where it may not be NULL, or may
abbrev read_as : Kind → Bool → Value → Value
read_as kind.Integer true v = Int (number v)
read_as kind.Text true v = Text (words v)
read_as kind.Text false v = of_maybe (maybe_words v)
read_as kind.Blob true v = Blob (bytes v)
read_as kind.Integer false v = v
read_as kind.Blob false v = v
read_as kind.Real b v = v
read_as kind.Any b v = v

read_same : (k : Kind) (b : Bool) (v : Value) → is_of k v ≡ true → (not b || not (is_null v)) ≡ true → v ≡ read_as k b v
read_same kind.Integer true Null typed present = absurd cc
read_same kind.Integer true (Int n) typed present = refl
read_same kind.Integer true (Real x) typed present = absurd cc
read_same kind.Integer true (Text t) typed present = absurd cc
read_same kind.Integer true (Blob b) typed present = absurd cc
read_same kind.Text true Null typed present = absurd cc
read_same kind.Text true (Int n) typed present = absurd cc
read_same kind.Text true (Real x) typed present = absurd cc
read_same kind.Text true (Text t) typed present = refl
read_same kind.Text true (Blob b) typed present = absurd cc
read_same kind.Text false Null typed present = refl
read_same kind.Text false (Int n) typed present = absurd cc
read_same kind.Text false (Real x) typed present = absurd cc
read_same kind.Text false (Text t) typed present = refl
read_same kind.Text false (Blob b) typed present = absurd cc
read_same kind.Blob true Null typed present = absurd cc
read_same kind.Blob true (Int n) typed present = absurd cc
read_same kind.Blob true (Real x) typed present = absurd cc
read_same kind.Blob true (Text t) typed present = absurd cc
read_same kind.Blob true (Blob b) typed present = refl
read_same kind.Integer false v typed present = refl
read_same kind.Blob false v typed present = refl
read_same kind.Real b v typed present = refl
read_same kind.Any b v typed present = refl

null_is : (v : Value) → is_null v ≡ true → v ≡ Null
null_is Null h = refl
null_is (Int n) h = absurd cc
null_is (Real x) h = absurd cc
null_is (Text t) h = absurd cc
null_is (Blob b) h = absurd cc

-- the column that the row's number stands for holds NULL
abbrev says : Bool → Column → Value → Value
says true c v = Null
says false c v = read_as c.kind c.not_null v

says_same : (key : Bool) (c : Column) (v : Value) → c.is_strict ≡ true → (if key then is_null v else suits c v) ≡ true → (key || not c.not_null || not (is_null v)) ≡ true → v ≡ says key c v
says_same true c v strict typed present = null_is v typed
says_same false c v strict typed present = read_same c.kind c.not_null v (rw strict at typed) present

-- the columns of a row, as each says
abbrev formed : Option ℕ → ℕ → List Column → Row → Row
formed key at [] row = []
formed key at (c ∷ cs) row = says (is_key key at) c (column row (at + 1)) ∷ formed key (at + 1) cs row

-- the last column holds a value in each row
abbrev ends_firm : Option ℕ → ℕ → List Column → Bool
ends_firm key at [] = true
ends_firm key at (c ∷ []) = not (is_key key at) && c.not_null
ends_firm key at (c ∷ d ∷ cs) = ends_firm key (at + 1) (d ∷ cs)

heads : (n : ℕ) (r : Row) (v : Value) (rest : Row) → drop n r ≡ v ∷ rest → column r n ≡ v
heads n r v rest is =
    let same : n ≡ n + 0 = omega arith in
    ap (λ k. get_or r k Null) same ∙ sym (get_or-drop n r 0 Null) ∙ ap (λ l. get_or l 0 Null) is

past : (n : ℕ) (r : Row) → drop n r ≡ [] → column r n ≡ Null
past n r is =
    let same : n ≡ n + 0 = omega arith in
    ap (λ k. get_or r k Null) same ∙ sym (get_or-drop n r 0 Null) ∙ ap (λ l. get_or l 0 Null) is

lacks : (b nn : Bool) (v : Value) → v ≡ Null → (not b && nn) ≡ true → (b || not nn || not (is_null v)) ≡ true → ⊥
lacks true nn v is firm h = absurd cc
lacks false true v is firm h = absurd (true≢false (sym (rw is at h)))
lacks false false v is firm h = absurd cc

-- no row lacks columns
none_lacking : (key : Option ℕ) (at : ℕ) (c : Column) (cs : List Column) (row : Row) → drop (at + 1) row ≡ [] → ends_firm key at (c ∷ cs) ≡ true → are_present key at (c ∷ cs) row ≡ true → ⊥
none_lacking key at c [] row is firm h =
    lacks (is_key key at) c.not_null (column row (at + 1)) (past (at + 1) row is) firm (both _ _ h).0
none_lacking key at c (d ∷ cs) row is firm h = none_lacking key (at + 1) d cs row (further (at + 1) row is) firm (both (is_key key at || not c.not_null || not (is_null (column row (at + 1)))) _ h).1
  where
    further : (n : ℕ) (row : Row) → drop n row ≡ [] → drop (n + 1) row ≡ []
    further n row is = sym (drop-drop 1 n row) ∙ ap (drop 1) is

-- the rest of a row says no more than its columns
rest_formed : (key : Option ℕ) (at : ℕ) (cs : List Column) (row vs : Row) → drop (at + 1) row ≡ vs → list_all (λ (c : Column). c.is_strict) cs ≡ true → ends_firm key at cs ≡ true
    → are_typed key at cs vs ≡ true → are_present key at cs row ≡ true → vs ≡ formed key at cs row
rest_formed key at [] row [] is strict firm typed present = refl
rest_formed key at [] row (v ∷ vs) is strict firm typed present = absurd cc
rest_formed key at (c ∷ cs) row [] is strict firm typed present = absurd (none_lacking key at c cs row is firm present)
rest_formed key at (c ∷ cs) row (v ∷ vs) is strict firm typed present =
    let first = heads (at + 1) row v vs is in
    let t = both (if is_key key at then is_null v else suits c v) _ typed in
    let p = both (is_key key at || not c.not_null || not (is_null (column row (at + 1)))) _ present in
    let all = both c.is_strict _ strict in
    let same : v ≡ says (is_key key at) c v = says_same (is_key key at) c v all.0 t.0 (rw first at p.0) in
    let rest = rest_formed key (at + 1) cs row vs (next (at + 1) row v vs is) all.1 (later key at c cs firm) t.1 p.1 in
    rw first (λ i. same i ∷ rest i)
  where
    next : (n : ℕ) (row : Row) (v : Value) (vs : Row) → drop n row ≡ v ∷ vs → drop (n + 1) row ≡ vs
    next n row v vs is = sym (drop-drop 1 n row) ∙ ap (drop 1) is

    later : (key : Option ℕ) (at : ℕ) (c : Column) (cs : List Column) → ends_firm key at (c ∷ cs) ≡ true → ends_firm key (at + 1) cs ≡ true
    later key at c [] h = refl
    later key at c (d ∷ cs) h = h

-- ---- the tables

abbrev AreTyped : Table → Row → Type 0
AreTyped t row = (are_typed t.key 0 t.columns (drop 1 row) && has_computed t row) ≡ true

abbrev ArePresent : Table → Row → Type 0
ArePresent t row = are_present t.key 0 t.columns row ≡ true

-- a row of a table is its number and its columns, each as it says
row_formed : (t : Table) → list_all (λ (c : Column). c.is_strict) t.columns ≡ true → ends_firm t.key 0 t.columns ≡ true → (row : Row) → IsTrue (is_int (rowid row)) → AreTyped t row → ArePresent t row
    → row ≡ rowid row ∷ formed t.key 0 t.columns row
row_formed t strict firm [] int typed present = absurd cc
row_formed t strict firm (id ∷ vs) int typed present =
    ap (λ r. id ∷ r) (rest_formed t.key 0 t.columns (id ∷ vs) vs refl strict firm (both (are_typed t.key 0 t.columns vs) (has_computed t (id ∷ vs)) typed).0 present)

module _ {X : Type 0} (columns : X → Row) (read : Row → X) (t : Table) (says_value : (row : Row) → formed t.key 0 t.columns row ≡ columns (read row))
    (strict : list_all (λ (c : Column). c.is_strict) t.columns ≡ true) (firm : ends_firm t.key 0 t.columns ≡ true) where
  all_typed : (rows : List Row) → AllByRecursion (λ r. IsTrue (is_int (rowid r))) rows → AllByRecursion (AreTyped t) rows → AllByRecursion (ArePresent t) rows
      → AllByRecursion (λ r. r ≡ rowid r ∷ columns (read r)) rows
  all_typed [] int typed present = tt
  all_typed (r ∷ rows) int typed present = (row_formed t strict firm r int.0 typed.0 present.0 ∙ ap (λ vs. rowid r ∷ vs) (says_value r), all_typed rows int.1 typed.1 present.1)

  kept : (rows : List Row) → IsTable rows × AllByRecursion (λ r. IsTrue (is_int (rowid r))) rows → AllByRecursion (AreTyped t) rows → AllByRecursion (ArePresent t) rows → AreKept columns read rows
  kept rows ordered typed present = record { rise = ordered.0; numbered = ordered.1; typed = all_typed rows ordered.1 typed present }

-- trees that obey the schema before, in order, are its tables
typed_before : (db : Trees) → HasRoom (layout_of db).index → HasRoom (layout_of db).before → IsSound (old_schema (layout_of db).index (layout_of db).before) db → AreOrderedBefore db → HasOldTables (record { schema = old_schema (layout_of db).index (layout_of db).before; trees = db })
typed_before db one two sound o =
    let t = sound.obeys.rules Datatype in
    let p = sound.obeys.rules NotNull in
    record {
      schema = refl;
      first = one;
      second = two;
      register = kept of_register register_in register (λ row. refl) refl refl (db 0) o.0 t.0 p.0;
      cluster = kept of_cluster cluster_in cluster (λ row. refl) refl refl (db 1) o.1.0 t.1.0 p.1.0;
      suppliers = kept of_supplier supplier_in suppliers (λ row. refl) refl refl (db 2) o.1.1.0 t.1.1.0 p.1.1.0;
      nodes = kept of_node node_in nodes (λ row. refl) refl refl (db 5) o.1.1.1.0 t.1.1.1.0 p.1.1.1.0;
      variants = kept of_variant variant_in variants (λ row. refl) refl refl (db 7) o.1.1.1.1.0 t.1.1.1.1.0 p.1.1.1.1.0;
      grants = kept of_grant grant_in grants (λ row. refl) refl refl (db 9) o.1.1.1.1.1.0 t.1.1.1.1.1.0 p.1.1.1.1.1.0;
      frames = kept of_frame frame_in frames (λ row. refl) refl refl (db 11) o.1.1.1.1.1.1.0 t.1.1.1.1.1.1.0 p.1.1.1.1.1.1.0;
      placements = kept of_placement placement_in placements (λ row. refl) refl refl (db 13) o.1.1.1.1.1.1.1.0 t.1.1.1.1.1.1.1.0 p.1.1.1.1.1.1.1.0;
      signals = kept of_signal signal_in signals (λ row. refl) refl refl (db 15) o.1.1.1.1.1.1.1.1.0 t.1.1.1.1.1.1.1.1.0 p.1.1.1.1.1.1.1.1.0;
      imports = kept of_import import_in imports (λ row. refl) refl refl (db 17) o.1.1.1.1.1.1.1.1.1.0 t.1.1.1.1.1.1.1.1.1.0 p.1.1.1.1.1.1.1.1.1.0;
      dropped = kept of_dropped dropped_in dropped (λ row. refl) refl refl (db 19) o.1.1.1.1.1.1.1.1.1.1.0 t.1.1.1.1.1.1.1.1.1.1.0 p.1.1.1.1.1.1.1.1.1.1.0;
    }

pub has_before : (db : Database) → IsSound db.schema db.trees → IsOld db.schema → AreOrderedBefore db.trees → HasOldTables db
has_before db sound old ordered =
    let there = old_there db sound old in
    let l = layout_of db.trees in
    let schema : db.schema ≡ old_schema l.index l.before = old.is ∙ (λ i. old_schema (sym there.0 i) (sym there.1 i)) in
    let same : record { schema = old_schema l.index l.before; trees = db.trees } ≡ db = λ i. record { schema = sym schema i; trees = db.trees } in
    subst HasOldTables same
    (typed_before db.trees (subst HasRoom (sym there.0) old.first) (subst HasRoom (sym there.1) old.second) (subst (λ s. IsSound s db.trees) schema sound) ordered)

-- trees that obey the register's schema, in order, are its tables
typed_tables : (db : Trees) → IsBehind (layout_of db) → IsSound (register_schema (layout_of db)) db → AreOrdered db → HasTables (record { schema = register_schema (layout_of db); trees = db })
typed_tables db behind sound o =
    let t = sound.obeys.rules Datatype in
    let p = sound.obeys.rules NotNull in
    record {
      schema = refl;
      behind = behind;
      register = kept of_register register_in register (λ row. refl) refl refl (db 0) o.0 t.0 p.0;
      cluster = kept of_cluster cluster_in cluster (λ row. refl) refl refl (db 1) o.1.0 t.1.0 p.1.0;
      suppliers = kept of_supplier supplier_in suppliers (λ row. refl) refl refl (db 2) o.1.1.0 t.1.1.0 p.1.1.0;
      nodes = kept of_node node_in nodes (λ row. refl) refl refl (db 5) o.1.1.1.0 t.1.1.1.0 p.1.1.1.0;
      variants = kept of_variant variant_in variants (λ row. refl) refl refl (db 7) o.1.1.1.1.0 t.1.1.1.1.0 p.1.1.1.1.0;
      grants = kept of_grant grant_in grants (λ row. refl) refl refl (db 9) o.1.1.1.1.1.0 t.1.1.1.1.1.0 p.1.1.1.1.1.0;
      frames = kept of_frame frame_in frames (λ row. refl) refl refl (db 11) o.1.1.1.1.1.1.0 t.1.1.1.1.1.1.0 p.1.1.1.1.1.1.0;
      placements = kept of_placement placement_in placements (λ row. refl) refl refl (db 13) o.1.1.1.1.1.1.1.0 t.1.1.1.1.1.1.1.0 p.1.1.1.1.1.1.1.0;
      signals = kept of_signal signal_in signals (λ row. refl) refl refl (db 15) o.1.1.1.1.1.1.1.1.0 t.1.1.1.1.1.1.1.1.0 p.1.1.1.1.1.1.1.1.0;
      imports = kept of_import import_in imports (λ row. refl) refl refl (db 17) o.1.1.1.1.1.1.1.1.1.0 t.1.1.1.1.1.1.1.1.1.0 p.1.1.1.1.1.1.1.1.1.0;
      dropped = kept of_dropped dropped_in dropped (λ row. refl) refl refl (db 19) o.1.1.1.1.1.1.1.1.1.1.0 t.1.1.1.1.1.1.1.1.1.1.0 p.1.1.1.1.1.1.1.1.1.1.0;
      cluster2 = kept of_cluster2 cluster2_in (cluster2_at (layout_of db).cluster2) (λ row. refl) refl refl (db (layout_of db).cluster2) o.1.1.1.1.1.1.1.1.1.1.1.0 (last_of _ (layout_of db) t.1.1.1.1.1.1.1.1.1.1.1) (last_of _ (layout_of db) p.1.1.1.1.1.1.1.1.1.1.1);
    }

pub has_tables : (db : Database) → IsSound db.schema db.trees → IsOurs db.schema → AreOrdered db.trees → HasTables db
has_tables db sound ours ordered =
    let there = ours_there db sound ours in
    let schema : db.schema ≡ register_schema (layout_of db.trees) = ours.is ∙ ap register_schema (sym there) in
    let same : record { schema = register_schema (layout_of db.trees); trees = db.trees } ≡ db = λ i. record { schema = sym schema i; trees = db.trees } in
    subst HasTables same (typed_tables db.trees (subst IsBehind (sym there) ours.behind) (subst (λ s. IsSound s db.trees) schema sound) ordered)

-- and tables are in order
pub in_order : (db : Database) → HasTables db → AreOrdered db.trees
in_order db h = ((h.register.rise, h.register.numbered), ((h.cluster.rise, h.cluster.numbered), ((h.suppliers.rise, h.suppliers.numbered), ((h.nodes.rise, h.nodes.numbered), ((h.variants.rise, h.variants.numbered), ((h.grants.rise, h.grants.numbered), ((h.frames.rise, h.frames.numbered), ((h.placements.rise, h.placements.numbered), ((h.signals.rise, h.signals.numbered), ((h.imports.rise, h.imports.numbered), ((h.dropped.rise, h.dropped.numbered), ((h.cluster2.rise, h.cluster2.numbered), tt))))))))))))

-- of tables that are in order those are that are a register's
abbrev Rising : Trees → Table → Type 0
Rising db t = IsTable (db t.tree) × AllByRecursion (λ r. IsTrue (is_int (rowid r))) (db t.tree)

pub eleven_rise : (more : List Table) (db : Trees) → AreRising (tables_and more) db → AreRising old_tables db
eleven_rise more db k = (k.0, (k.1.0, (k.1.1.0, (k.1.1.1.0, (k.1.1.1.1.0, (k.1.1.1.1.1.0, (k.1.1.1.1.1.1.0, (k.1.1.1.1.1.1.1.0, (k.1.1.1.1.1.1.1.1.0, (k.1.1.1.1.1.1.1.1.1.0, (k.1.1.1.1.1.1.1.1.1.1.0, tt)))))))))))

pub ours_rise : (l : Layout) (db : Trees) → AreRising (tables_at l) db → AreRising (tables_and (cluster2_at l.cluster2 ∷ [])) db
ours_rise l db k = all-append (Rising db) old_tables (cluster2_at l.cluster2 ∷ []) (eleven_rise (behind_them l) db k) (last_of (Rising db) l k.1.1.1.1.1.1.1.1.1.1.1, tt)

-- the tables of a sound store are in order, whatever its schema is
pub ordered_in : (schema : Schema) (v : View) → IsOrdered v.shape v.trees → IsListed (v.trees catalog_tree) v.shape v.reals → IsSound schema v.trees → AreRising schema.tables v.trees
ordered_in schema v ordered listed sound =
    let laid = laid_out listed (objects_rise v listed ordered) sound.lists.listed in
    all_weaker (λ (t : Table). v.shape t.tree ≡ shape.Table) (λ t. IsShaped shape.Table (v.trees t.tree)) (λ t is. subst (λ s. IsShaped s (v.trees t.tree)) is (ordered t.tree)) schema.tables laid.tables

pub all_ok : {A E : Type 0} (r : Result A E) (P Q R T : A → Type 0) → ((a : A) → P a → Q a → R a → T a) → IfOk r P → IfOk r Q → IfOk r R → IfOk r T
all_ok (Ok a) P Q R T f p q r = f a p q r
all_ok (Err e) P Q R T f p q r = tt

-- a store that is not broken is open
pub open_if_sound : (v : View) → (v.is_open ≡ false → IsTrue v.is_broken) → v.is_broken ≡ false → IsTrue v.is_open
open_if_sound v shut sound = elim (cases_Bool v.is_open) [ inl up ↦ rw up refl | inr down ↦ absurd (let broken = shut down in true≢false (sym broken ∙ sound)) ]
