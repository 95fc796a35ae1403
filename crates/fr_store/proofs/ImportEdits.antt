-- What the tables stand for after an import is kept.
use Rattle.std.proofs.Common.{◌≡◌, ℕ, pos, None, List, sym, subst}
use Rattle.sqlite.specs.State.{State}
use Rattle.fr_base.specs.Tables.{get}
use Rattle.fr_base.specs.Keys.{owned}
use Rattle.fr_base.specs.Cluster.{Cluster}
use Rattle.fr_base.specs.Book.{Kept, Book}
use Rattle.fr_base.specs.declared.name.Name.{Name}
use Rattle.fr_world.specs.BookEdits.{applied}
use Rattle.fr_world.specs.declared.edit.Edit.{Edit}
use Rattle.fr_world.specs.declared.edit.Edit.TheVariants.{KeepImport}
use Rattle.fr_tables.specs.Rows.{ImportRow}
use Rattle.fr_tables.specs.Tables.{Tables}
use Rattle.fr_tables.specs.Changes.{Changes, tables_of}
use Rattle.fr_tables.specs.Statements.{with_import}
use Rattle.fr_store.specs.StandsFor.{StandsFor, HoldsRows, import_row}
use Rattle.fr_store.specs.Reading.{Stands}
use Rattle.fr_store.proofs.EntryLemmas.{added_row}

module _ (s label v : Name) (body : List ℕ) (rows : ℕ) where
  abbrev kept : Kept
  kept = record { variant = v; body = body; rows = rows }

  abbrev row : ImportRow
  row = record { supplier = s; label = label; variant = v; body = body; rows = pos rows }

  abbrev keeping : Edit
  keeping = KeepImport s label v body rows

  keep_import : (t : Tables) (count : ℕ) (b : Book) → HoldsRows t count b → get b.imports (s, label) ≡ None → HoldsRows (with_import row t) count (applied b keeping)
  unfolding applied
  keep_import t count b h new = record {
    suppliers = h.suppliers;
    nodes = h.nodes;
    imports = added_row owned b.imports (s, label) kept new import_row t.imports h.imports;
    stored = h.stored;
    variants = h.variants;
    grants = h.grants;
    frames = h.frames;
    placements = h.placements;
    signals = h.signals;
    dropped = h.dropped;
    each = h.each;
  }

  pub import_kept : (old state : State) → Changes (with_import row) old state → (c : Cluster) (b : Book) → Stands old c b → get b.imports (s, label) ≡ None
      → Stands state c (applied b keeping)
  import_kept old state h c b stands new = record { has = h.has; for = subst (λ t. StandsFor t c (applied b keeping)) (sym h.now) (record { heads = stands.for.heads; rows = keep_import (tables_of old) c.params.cycles b stands.for.rows new }) }
