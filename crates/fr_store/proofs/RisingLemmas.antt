-- Trees that files recover to are in order, whatever their schema is.
use Rattle.std.proofs.Common.{◌≡◌, ◌∙◌, ℕ, List, [], ◌∷◌, inl, inr, sym, ap, subst}
use Rattle.std.proofs.Math.Logic.{∥∥₁_elim}
use Rattle.std.specs.List.{AllZip}
use Rattle.sqlite.specs.Table.{Table}
use Rattle.sqlite.specs.Schema.{Schema}
use Rattle.sqlite.specs.Tree.{Trees}
use Rattle.sqlite.specs.Order.{Row}
use Rattle.sqlite.specs.Files.{AreFoundIn}
use Rattle.sqlite_wal.specs.Recovery.{Image}
use Rattle.sqlite_pool.specs.File.{in_use, version_in}
use Rattle.sqlite_trees.specs.View.{IsShaped, IsOrdered}
use Rattle.sqlite_trees.specs.Props.{IsShaped-prop, AllByRecursion-prop}
use Rattle.sqlite_trees.specs.declared.store.Shape.{Shape}
use Rattle.sqlite_trees.specs.declared.store.Shape.TheVariants as shape
use Rattle.sqlite_trees.specs.Objects.{IsListed, catalog_tree}
use Rattle.sqlite_trees.proofs.ListLemmas.{all_weaker}
use Rattle.sqlite_catalog.proofs.LayoutLemmas.{laid_out}
use Rattle.sqlite_catalog.specs.Listing.{IsSound, AreListed, IsTableRow}
use Rattle.sqlite_store.specs.Listing.{all_shapes, all_reals, listed_from}
use Rattle.sqlite_store.specs.Listed.{catalog_rows, is_listed}
use Rattle.sqlite_store.proofs.ListingLemmas.{all_ordered}
use Rattle.sqlite.specs.Effect.{Database, IsDatabase}
use Rattle.fr_tables.specs.Schema.{register_schema, layout_of, stats_at, IsOurs, IsOld}
use Rattle.fr_tables.specs.Tables.{AreRising, AreOrdered, AreOrderedBefore}
use Rattle.fr_tables.proofs.LayoutLemmas.{ours_there}
use Rattle.fr_tables.proofs.TypedLemmas.{ours_rise, eleven_rise}

AreRising-prop : (ts : List Table) (db : Trees) → IsProp (AreRising ts db)
AreRising-prop ts db = AllByRecursion-prop _ (λ t. IsShaped-prop shape.Table (db t.tree)) ts

-- the tables of a schema that the trees list
ordered_from : (schema : Schema) (shapes : ℕ → Shape) (reals : ℕ → ℕ) (db : Trees) → IsOrdered shapes db → IsListed (db catalog_tree) shapes reals → IsSound schema db → AreRising schema.tables db
ordered_from schema shapes reals db ordered listed sound =
    let laid = laid_out listed (subst (λ s. IsShaped s (db catalog_tree)) listed.itself.0 (ordered catalog_tree)) sound.lists.listed in
    all_weaker (λ (t : Table). shapes t.tree ≡ shape.Table) (λ t. IsShaped shape.Table (db t.tree)) (λ t is. subst (λ s. IsShaped s (db t.tree)) is (ordered t.tree)) schema.tables laid.tables

-- where nothing is listed there is no table
none_rise : (ts : List Table) (db : Trees) → AllZip IsTableRow [] ts → AreRising ts db
none_rise [] db none = tt
none_rise (t ∷ ts) db none = absurd none

bare : (schema : Schema) (db : Trees) (objects : List Row) → objects ≡ [] → AreListed objects schema → AreRising schema.tables db
bare schema db objects empty are = none_rise schema.tables db ((subst (λ rows. AreListed rows schema) empty are).tables)

pub found_rise : (image : Image) (schema : Schema) (db : Trees) → AreFoundIn image db → IsSound schema db → AreRising schema.tables db
found_rise image schema db (inl (size, pages, wanted, adopts, ours, is)) sound =
    ∥∥₁_elim ours (AreRising-prop schema.tables db) (λ file.
    let ordered : IsOrdered (all_shapes wanted) db = subst (IsOrdered (all_shapes wanted)) (sym is) (all_ordered file.file.db (version_in pages)) in
    let rows : db catalog_tree ≡ listed_from 0 wanted = ap (λ (t : Trees). t catalog_tree) is ∙ catalog_rows size wanted (in_use size pages) in
    ordered_from schema (all_shapes wanted) (all_reals wanted) db ordered (subst (λ (objects : List Row). IsListed objects (all_shapes wanted) (all_reals wanted)) (sym rows) (is_listed wanted)) sound)
found_rise image schema db (inr (nothing, empty)) sound = bare schema db (db catalog_tree) empty.1 sound.lists.listed

-- so are those of this schema, and of the one before
pub found_ordered : (image : Image) (db : Database) → IsDatabase db → AreFoundIn image db.trees → IsOurs db.schema → AreOrdered db.trees
found_ordered image db sound found ours =
    let is : db.schema ≡ register_schema (layout_of db.trees) = ours.is ∙ ap register_schema (sym (ours_there db sound ours)) in
    ours_rise (layout_of db.trees) db.trees (subst (λ (s : Schema). AreRising s.tables db.trees) is (found_rise image db.schema db.trees found sound))

pub found_ordered_before : (image : Image) (db : Database) → IsDatabase db → AreFoundIn image db.trees → IsOld db.schema → AreOrderedBefore db.trees
found_ordered_before image db sound found old =
    eleven_rise (stats_at old.stats) db.trees (subst (λ (s : Schema). AreRising s.tables db.trees) old.is (found_rise image db.schema db.trees found sound))
