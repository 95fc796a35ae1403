-- Reading: what a call reads of the book for which the tables stand: the variants, a supplier's
-- nodes, the holder of a slot, and an import that is kept. Which variants a register can have,
-- whoever wrote its rows.
use Rattle.std.specs.Prelude.{◌≡◌, ◌≤◌, ℕ, pos, List, length, map, All, Option, Some, None, Result, Ok, IfErr, IfOk, nat_abs}
use Rattle.std.specs.Ordering.{int_eq}
use Rattle.sqlite.specs.Order.{Row, column}
use Rattle.sqlite.specs.Held.{state}
use Rattle.sqlite.specs.State.{State, HasCleanDisk}
use Rattle.sqlite_trees.specs.declared.store.Store.{Ghosts}
use Rattle.fr_base.specs.Tables.{get}
use Rattle.fr_base.specs.Cluster.{Cluster}
use Rattle.fr_base.specs.Book as book
use Rattle.fr_base.specs.Book.{Book, Variant}
use Rattle.fr_base.specs.declared.channel.Channel.{Channel}
use Rattle.fr_base.specs.declared.limits.TheConstants.{MAX_VARIANTS}
use Rattle.fr_base.specs.declared.name.Name.{Name}
use Rattle.fr_world.specs.Common.{depth_after}
use Rattle.fr_base.specs.declared.answer.VariantRow.{VariantRow}
use Rattle.fr_tables.specs.Rows.{words, number, bytes, maybe_words}
use Rattle.fr_tables.specs.Tables.{Tables, HasTables}
use Rattle.fr_tables.specs.Changes.{Stays, Spares, AreListed, tables_of}
use Rattle.fr_tables.specs.Statements.{shows_variant, every, variants_cmp}
use Rattle.fr_store.specs.StandsFor.{StandsFor}
use Rattle.fr_store.specs.declared.fault.StoreFault.{StoreFault}
use Rattle.fr_store.specs.declared.fault.StoreFault.TheVariants.{Unavailable}
use Rattle.fr_store.specs.declared.store.Store.{Store}
use Rattle.fr_store.specs.declared.slot_holder.Holder.{Holder}

-- the tables that the connection sees stand for a cluster and a book
pub record Stands (s : State) (c : Cluster) (b : Book) : Type 0 where
  pub has : HasTables s.now
  pub for : StandsFor (tables_of s) c b

-- A call answers this of the book for which the tables stand, or it fails.
abbrev pub Tells : {X E : Type 0} → State → State → Result X E → (Cluster → Book → X → Type 0) → Type 0
Tells old new r says = HasCleanDisk new → (c : Cluster) (b : Book) → Stands old c b → IfOk r (says c b)

-- A call that reads leaves the tables as they are, or the transaction is undone.
abbrev pub Leaves : State → State → Type 0
Leaves old new = HasCleanDisk new → HasTables old.now → Stays old new

-- A call only reads a store, and tells this of its book. The config stays. The only refusal is
-- `Unavailable`. A crash leaves nothing of the call, and no fault is forgotten.
pub record OnlyTells {S X : Type 0} (g : Ghosts S) (says : Cluster → Book → X → Type 0) (old new : Store S) (r : Result X StoreFault) : Type 0 where
  pub told : Tells (state g old.conn) (state g new.conn) r says
  pub config : new.config ≡ old.config
  pub refused : IfErr r (λ fault. fault ≡ Unavailable)
  pub stays : Leaves (state g old.conn) (state g new.conn)
  pub spares : Spares (state g old.conn) (state g new.conn)

-- ---- what a row says

abbrev pub name_shown : Row → Name
name_shown r = words (column r 0)

abbrev pub holder_shown : Row → Holder
holder_shown r = record { supplier = words (column r 0); node = words (column r 1) }

abbrev pub variant_shown : Row → VariantRow
variant_shown r = record {
  variant = words (column r 0);
  parent = maybe_words (column r 1);
  depth = nat_abs (number (column r 2));
  released = int_eq (number (column r 3)) (pos 1);
}

abbrev pub import_shown : Row → book.Kept
import_shown r = record { variant = words (column r 0); body = bytes (column r 1); rows = nat_abs (number (column r 2)) }

-- ---- what is asked of the book

abbrev pub as_holder : Holder → book.Holder
as_holder h = record { supplier = h.supplier; node = h.node }

-- who holds the slot and channel in the variant, if the variant is there
abbrev pub held_in : Option Variant → ℕ × Channel → Option book.Holder
held_in None at = None
held_in (Some x) at = get x.grants at

abbrev pub holder_in : Book → Name → ℕ × Channel → Option book.Holder
holder_in b v at = held_in (get b.variants v) at

-- ---- which variants a register can have, whoever wrote its rows

-- the variant is as deep as one that is opened from its parent, or from no parent
abbrev pub WasOpened : List VariantRow → VariantRow → Type 0
WasOpened variants row = depth_after variants row.parent ≡ Ok row.depth

-- there are no more variants than a register may have, and each has no parent, or another of
-- them
pub record AreOpened (variants : List VariantRow) : Type 0 where
  pub limit : length variants ≤ MAX_VARIANTS
  pub each : All (WasOpened variants) variants

-- a register can have the variants that the tables tell
abbrev pub TellsOpened : Tables → Type 0
TellsOpened t = (rows : List Row) × AreListed shows_variant every variants_cmp t.variants rows × AreOpened (map variant_shown rows)
