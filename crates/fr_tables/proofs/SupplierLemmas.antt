-- What the statements on suppliers do.
use Rattle.std.proofs.Common.{ℕ, List, [], ◌∷◌, codes, refl}
use Rattle.sqlite.specs.declared.types.Value.TheVariants.{Null, Text}
use Rattle.sqlite.specs.Term.{lit, col}
use Rattle.sqlite.specs.Listing.{understood}
use Rattle.sqlite_value.proofs.OrderLemmas.{value_cmp-Text, then-Equal}
use Rattle.sqlite_tied.specs.Compute.{everything}
use Rattle.sqlite_tied.proofs.RuleLemmas.{and_true}
use Rattle.fr_tables.specs.Rows.{SupplierRow, of_supplier}
use Rattle.fr_tables.specs.Changes.{Changes}
use Rattle.fr_tables.specs.Statements.{with_supplier, with_key, is_supplier, keyed_row, shows_supplier, suppliers_cmp, every}
use Rattle.fr_tables.proofs.Compared.{equals, rising, equal_texts, cast_null, cast_integer}
use Rattle.fr_tables.proofs.InsertLemmas.{Puts, puts}
use Rattle.fr_tables.proofs.RenewLemmas.{Renews, renews}
use Rattle.fr_tables.proofs.TableOf.{Does}
use Rattle.fr_tables.proofs.TheTables.{supplier_table}
use Rattle.fr_tables.proofs.FindLemmas.{Selects}

abbrev insert_text : List ℕ
insert_text = codes "INSERT INTO suppliers (name, key) VALUES (?1, ?2)"

insert_is : (s : SupplierRow) → Puts supplier_table insert_text (of_supplier s) s
unfolding understood everything
insert_is s l = record { terms = lit Null ∷ col 0 0 ∷ col 0 1 ∷ []; width = 3; is = refl; plain = (refl, refl); gives = refl; stores = rw cast_null }

pub inserts : (s : SupplierRow) → Does insert_text (of_supplier s) (Changes (with_supplier s))
inserts s = puts supplier_table s (insert_is s)

-- ---- another key

abbrev key_text : List ℕ
key_text = codes "UPDATE suppliers SET key = ?2 WHERE name = ?1"

key_is : (name key : List ℕ) → Renews supplier_table key_text (Text name ∷ Text key ∷ []) (is_supplier name) (keyed_row key)
unfolding understood everything
key_is name key = record {
  tests = equals 1 0 ∷ [];
  terms = col 1 1 ∷ col 0 1 ∷ [];
  is = λ l. record { is = refl; plain = (refl, refl) };
  tested = λ p. rw (equal_texts p.1.name name, and_true);
  gives = λ l n s. rw (cast_integer n);
}

pub keys : (name key : List ℕ) → Does key_text (Text name ∷ Text key ∷ []) (Changes (with_key name key))
keys name key = renews supplier_table (key_is name key)

-- ---- what is asked

abbrev pub select_text : List ℕ
select_text = codes "SELECT name, key FROM suppliers ORDER BY name"

pub by_name : Selects supplier_table shows_supplier (every) suppliers_cmp select_text ([])
unfolding understood everything
by_name l behind = record {
  tests = [];
  order = rising 1 ∷ [];
  project = col 1 1 ∷ col 1 2 ∷ [];
  is = record { names = codes "name" ∷ codes "key" ∷ []; is = refl; unlisted = refl; plain = (refl, refl) };
  tested = λ p. refl;
  compared = λ a b. rw (value_cmp-Text a.1.name b.1.name, then-Equal);
  projected = λ p. refl;
}
