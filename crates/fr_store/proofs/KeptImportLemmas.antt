-- The imports that are kept, as the queries show them.
use Rattle.std.proofs.Common.{◌≡◌, ℕ, Bool, true, false, ◌&&◌, None, Some, Option, List, map, filter, length, Less, refl, sym, ap, ap₂, ◌∙◌, subst, option_map, slice_get, true≢false, bytes_eq}
use Rattle.std.specs.Ordering.{is_eq}
use Rattle.std.specs.Cmp.{tied_itself}
use Rattle.std.proofs.lemmas.Bool.{and_parts}
use Rattle.std.proofs.lemmas.List.{length-map}
use Rattle.std.proofs.lemmas.List.Sorted.{length_permutation}
use Rattle.std.proofs.lemmas.Slice.Eq.{bytes_eq-Decides}
use Rattle.sqlite.specs.Order.{Row}
use Rattle.sqlite_trees.specs.Tree.{IsAscending}
use Rattle.sqlite_keyed.proofs.ListLemmas.{filter-map, IsPermutation-filter}
use Rattle.fr_base.specs.Tables.{get, len, only}
use Rattle.fr_base.specs.Keys.{owned}
use Rattle.fr_base.specs.Book as book
use Rattle.fr_base.specs.Book.{Book, own}
use Rattle.fr_base.specs.declared.name.Name.{Name}
use Rattle.fr_base.proofs.SoundRows.{same_text-is}
use Rattle.fr_world.specs.ImportLabels.{kept_of}
use Rattle.fr_world.specs.declared.kept_import.KeptImport.{KeptImport}
use Rattle.fr_tables.specs.Rows.{ImportRow}
use Rattle.fr_tables.specs.Tables.{Tables}
use Rattle.fr_tables.specs.Changes.{AreListed}
use Rattle.fr_tables.specs.Statements.{is_import, is_import_of, shows_import, shows_label, labels_cmp, any_order}
use Rattle.fr_store.specs.StandsFor.{HoldsRows, import_row}
use Rattle.fr_store.specs.Reading.{import_shown}
use Rattle.fr_store.proofs.HolderLemmas.{any_order_total}
use Rattle.fr_store.proofs.OrderLemmas.{are_listed}
use Rattle.fr_store.proofs.SectionLemmas.{only_row, row_at}

module _ (t : Tables) (count : ℕ) (b : Book) (stands : HoldsRows t count b) (s : Name) where
  abbrev Entry : Type 0
  Entry = (Name × Name) × book.Kept

  -- ---- one

  module _ (l : Name) where
    abbrev is_it : Entry → Bool
    is_it e = bytes_eq e.0.0 s && bytes_eq e.0.1 l

    others : (e : Entry) → is_eq (owned.compare (s, l) e.0) ≡ false → is_it e ≡ false
    others e apart = by_test (is_it e) refl
      where
        by_test : (b : Bool) → is_it e ≡ b → b ≡ false
        by_test false is = refl
        by_test true is =
            let here = and_parts _ _ is in
            let same : (s, l) ≡ e.0 = λ i. (sym (same_text-is e.0.0 s here.0) i, sym (same_text-is e.0.1 l here.1) i) in
            absurd (true≢false (sym (ap is_eq (ap (owned.compare (s, l)) (sym same) ∙ tied_itself owned.total (s, l))) ∙ apart))

    itself : (k : book.Kept) → is_it ((s, l), k) ≡ true
    itself k = ap₂ ◌&&◌ ((bytes_eq-Decides s s).1 refl) ((bytes_eq-Decides l l).1 refl)

    one_row : filter (is_import s l) (map import_row b.imports.rows) ≡ map import_row (row_at (s, l) (get b.imports (s, l)))
    one_row = filter-map (is_import s l) import_row b.imports.rows ∙ ap (map import_row) (only_row owned is_it (s, l) others itself b.imports)

    one_rises : (o : Option book.Kept) → IsAscending (λ x y. any_order {X = ImportRow} x y ≡ Less) (map import_row (row_at (s, l) o))
    one_rises None = tt
    one_rises (Some k) = (tt, tt)

    told_by : (o : Option book.Kept) → option_map import_shown (slice_get (map shows_import (map import_row (row_at (s, l) o))) 0) ≡ o
    told_by None = refl
    told_by (Some k) = refl

    pub import_told : (rows : List Row) (found : Option KeptImport) → AreListed shows_import (is_import s l) any_order t.imports rows
        → option_map kept_of found ≡ option_map import_shown (slice_get rows 0)
        → option_map kept_of found ≡ get b.imports (s, l)
    import_told rows found listed read =
        let is = are_listed shows_import (is_import s l) any_order any_order_total (map import_row b.imports.rows) t.imports rows stands.imports
        (subst (IsAscending (λ x y. any_order x y ≡ Less)) (sym one_row) (one_rises (get b.imports (s, l)))) listed ∙ ap (map shows_import) one_row in
        read ∙ ap (λ rs. option_map import_shown (slice_get rs 0)) is ∙ told_by (get b.imports (s, l))

  -- ---- all of a supplier

  pub imports_told : (rows : List Row) → AreListed shows_label (is_import_of s) labels_cmp t.imports rows → length rows ≡ len (own s b.imports)
  unfolding len only
  imports_told rows listed =
      ap length listed.shown ∙ length-map listed.found shows_label ∙ length_permutation _ _ listed.same
      ∙ length_permutation _ _ (IsPermutation-filter (is_import_of s) _ _ stands.imports)
      ∙ ap length (filter-map (is_import_of s) import_row b.imports.rows) ∙ length-map (filter (λ e. bytes_eq e.0.0 s) b.imports.rows) import_row
