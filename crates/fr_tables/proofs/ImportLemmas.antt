-- What the statements on imports do.
use Rattle.std.proofs.Common.{ℕ, List, [], ◌∷◌, codes, refl}
use Rattle.sqlite.specs.declared.types.Value.TheVariants.{Null, Text}
use Rattle.sqlite.specs.Term.{lit, col}
use Rattle.sqlite.specs.Listing.{understood}
use Rattle.sqlite_value.proofs.OrderLemmas.{value_cmp-Text, then-Equal}
use Rattle.sqlite_tied.specs.Compute.{everything}
use Rattle.sqlite_tied.proofs.RuleLemmas.{and_true}
use Rattle.fr_tables.specs.Rows.{ImportRow, of_import}
use Rattle.fr_tables.specs.Changes.{Changes}
use Rattle.fr_tables.specs.Statements.{with_import, is_import, is_import_of, shows_import, shows_label, labels_cmp, any_order}
use Rattle.fr_tables.proofs.Compared.{equals, rising, equal_texts, cast_null, cast_integer}
use Rattle.fr_tables.proofs.InsertLemmas.{Puts, puts}
use Rattle.fr_tables.proofs.TableOf.{Does}
use Rattle.fr_tables.proofs.TheTables.{import_table}
use Rattle.fr_tables.proofs.FindLemmas.{Selects}

abbrev insert_text : List ℕ
insert_text = codes "INSERT INTO imports (supplier, label, variant, body, rows) VALUES (?1, ?2, ?3, ?4, ?5)"

insert_is : (i : ImportRow) → Puts import_table insert_text (of_import i) i
unfolding understood everything
insert_is i l = record { terms = lit Null ∷ col 0 0 ∷ col 0 1 ∷ col 0 2 ∷ col 0 3 ∷ col 0 4 ∷ []; width = 6; is = refl; plain = (refl, refl); gives = refl; stores = rw (cast_null, cast_integer i.rows) }

pub inserts : (i : ImportRow) → Does insert_text (of_import i) (Changes (with_import i))
inserts i = puts import_table i (insert_is i)

abbrev pub select_text : List ℕ
select_text = codes "SELECT variant, body, rows FROM imports WHERE supplier = ?1 AND label = ?2"

pub by_label : (supplier : List ℕ) (label : List ℕ) → Selects import_table shows_import (is_import supplier label) any_order select_text (Text supplier ∷ Text label ∷ [])
unfolding understood everything
by_label supplier label l behind = record {
  tests = equals 1 0 ∷ equals 2 1 ∷ [];
  order = [];
  project = col 1 3 ∷ col 1 4 ∷ col 1 5 ∷ [];
  is = record { names = codes "variant" ∷ codes "body" ∷ codes "rows" ∷ []; is = refl; unlisted = refl; plain = (refl, refl) };
  tested = λ p. rw (equal_texts p.1.supplier supplier, equal_texts p.1.label label, and_true);
  compared = λ a b. refl;
  projected = λ p. refl;
}

abbrev pub labels_text : List ℕ
labels_text = codes "SELECT label FROM imports WHERE supplier = ?1 ORDER BY label"

pub by_supplier : (supplier : List ℕ) → Selects import_table shows_label (is_import_of supplier) labels_cmp labels_text (Text supplier ∷ [])
unfolding understood everything
by_supplier supplier l behind = record {
  tests = equals 1 0 ∷ [];
  order = rising 2 ∷ [];
  project = col 1 2 ∷ [];
  is = record { names = codes "label" ∷ []; is = refl; unlisted = refl; plain = (refl, refl) };
  tested = λ p. rw (equal_texts p.1.supplier supplier, and_true);
  compared = λ a b. rw (value_cmp-Text a.1.label b.1.label, then-Equal);
  projected = λ p. refl;
}
