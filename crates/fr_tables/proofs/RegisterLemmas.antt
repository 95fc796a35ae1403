-- What the statements on the register's row do.
use Rattle.std.proofs.Common.{ℕ, ℤ, Option, List, [], ◌∷◌, codes, refl}
use Rattle.sqlite.specs.declared.types.Value.TheVariants.{Null, Int}
use Rattle.sqlite.specs.Order.{Row}
use Rattle.sqlite.specs.Schema.{Schema}
use Rattle.sqlite.specs.Term.{lit, col}
use Rattle.sqlite.specs.Listing.{understood}
use Rattle.sqlite_tied.specs.Compute.{everything}
use Rattle.fr_tables.specs.Schema.{register_schema, old_schema}
use Rattle.fr_tables.specs.Rows.{RegisterRow, of_register}
use Rattle.fr_tables.specs.Changes.{Changes}
use Rattle.fr_tables.specs.Statements.{with_number, with_register, shows_register, every, any_order}
use Rattle.fr_tables.proofs.Compared.{cast_null, cast_integer}
use Rattle.fr_tables.proofs.InsertLemmas.{Puts, puts}
use Rattle.fr_tables.proofs.RenewLemmas.{Renews, renews}
use Rattle.fr_tables.proofs.TableOf.{Does}
use Rattle.fr_tables.proofs.TheTables.{register_table}
use Rattle.fr_tables.proofs.ReadLemmas.{Reads}
use Rattle.fr_tables.proofs.FindLemmas.{Queries, Selects}

abbrev insert_text : List ℕ
insert_text = codes "INSERT INTO register (schema) VALUES (?1)"

-- the parameters
abbrev pub given : RegisterRow → Row
given g = Int g.schema ∷ []

insert_is : (g : RegisterRow) → Puts register_table insert_text (given g) g
unfolding understood everything
insert_is g l = record { terms = lit Null ∷ lit Null ∷ col 0 0 ∷ []; width = 3; is = refl; plain = (refl, refl); gives = refl; stores = rw (cast_null, cast_integer g.schema) }

pub inserts : (g : RegisterRow) → Does insert_text (given g) (Changes (with_register g))
inserts g = puts register_table g (insert_is g)

-- ---- another number

abbrev update_text : List ℕ
update_text = codes "UPDATE register SET schema = ?1"

update_is : (n : ℤ) → Renews register_table update_text (Int n ∷ []) every (λ r. record { schema = n })
unfolding understood everything
update_is n = record {
  tests = [];
  terms = lit Null ∷ col 0 0 ∷ [];
  is = λ l. record { is = refl; plain = (refl, refl) };
  tested = λ p. refl;
  gives = λ l m r. rw (cast_null, cast_integer m, cast_integer n);
}

pub updates : (n : ℤ) → Does update_text (Int n ∷ []) (Changes (with_number n))
updates n = renews register_table (update_is n)

abbrev pub select_text : List ℕ
select_text = codes "SELECT schema FROM register"

-- where the text reads the table so, it is a query of its row
of_its_row : (schema : Schema) → Reads schema select_text 0 [] [] (col 1 2 ∷ []) → Queries schema of_register shows_register every any_order 0 select_text []
unfolding everything
of_its_row schema is = record { tests = []; order = []; project = col 1 2 ∷ []; is = is; tested = λ p. refl; compared = λ a b. refl; projected = λ p. refl }

pub its_row : Selects register_table shows_register every any_order select_text []
unfolding understood everything
its_row l behind = of_its_row (register_schema l) (record { names = codes "schema" ∷ []; is = refl; unlisted = refl; plain = (refl, refl) })

-- so in the schema before
pub row_before : (index stats : Option ℕ) → Queries (old_schema index stats) of_register shows_register every any_order 0 select_text []
unfolding understood everything
row_before index stats = of_its_row (old_schema index stats) (record { names = codes "schema" ∷ []; is = refl; unlisted = refl; plain = (refl, refl) })
