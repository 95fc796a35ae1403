-- What the statements on nodes do.
use Rattle.std.proofs.Common.{ℕ, List, [], ◌∷◌, codes, refl}
use Rattle.sqlite.specs.declared.types.Value.TheVariants.{Null, Text}
use Rattle.sqlite.specs.Term.{lit, col}
use Rattle.sqlite.specs.Listing.{understood}
use Rattle.sqlite_value.proofs.OrderLemmas.{value_cmp-Text, then-Equal}
use Rattle.sqlite_tied.specs.Compute.{everything}
use Rattle.sqlite_tied.proofs.RuleLemmas.{and_true}
use Rattle.fr_tables.specs.Rows.{NodeRow, of_node}
use Rattle.fr_tables.specs.Changes.{Changes}
use Rattle.fr_tables.specs.Statements.{with_node, is_node_of, shows_node, nodes_cmp}
use Rattle.fr_tables.proofs.Compared.{equals, rising, equal_texts, cast_null}
use Rattle.fr_tables.proofs.InsertLemmas.{Puts, puts}
use Rattle.fr_tables.proofs.TableOf.{Does}
use Rattle.fr_tables.proofs.TheTables.{node_table}
use Rattle.fr_tables.proofs.FindLemmas.{Selects}

abbrev insert_text : List ℕ
insert_text = codes "INSERT INTO nodes (supplier, name) VALUES (?1, ?2)"

insert_is : (n : NodeRow) → Puts node_table insert_text (of_node n) n
unfolding understood everything
insert_is n l = record { terms = lit Null ∷ col 0 0 ∷ col 0 1 ∷ []; width = 3; is = refl; plain = (refl, refl); gives = refl; stores = rw cast_null }

pub inserts : (n : NodeRow) → Does insert_text (of_node n) (Changes (with_node n))
inserts n = puts node_table n (insert_is n)

-- ---- the supplier's nodes

abbrev pub select_text : List ℕ
select_text = codes "SELECT name FROM nodes WHERE supplier = ?1 ORDER BY name"

pub by_supplier : (supplier : List ℕ) → Selects node_table shows_node (is_node_of supplier) nodes_cmp select_text (Text supplier ∷ [])
unfolding understood everything
by_supplier supplier l behind = record {
  tests = equals 1 0 ∷ [];
  order = rising 2 ∷ [];
  project = col 1 2 ∷ [];
  is = record { names = codes "name" ∷ []; is = refl; unlisted = refl; plain = (refl, refl) };
  tested = λ p. rw (equal_texts p.1.supplier supplier, and_true);
  compared = λ a b. rw (value_cmp-Text a.1.name b.1.name, then-Equal);
  projected = λ p. refl;
}
