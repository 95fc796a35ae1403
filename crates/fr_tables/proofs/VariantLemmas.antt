-- What the statements on variants do.
use Rattle.std.proofs.Common.{◌≡◌, ℕ, ℤ, pos, List, [], ◌∷◌, codes, Some, None, refl}
use Rattle.std.specs.Prelude.{Option, option_copied}
use denote.Ref.{Bor}
use Rattle.sqlite.specs.Values.{or_null, bound_value}
use Rattle.sqlite.specs.Cast.{cast}
use Rattle.sqlite.specs.Kind.TheVariants as kind
use Rattle.sqlite.specs.declared.types.Value.TheVariants.{Null, Int, Text}
use Rattle.sqlite.specs.Order.{Row}
use Rattle.sqlite.specs.Term.{Term, lit, col}
use Rattle.sqlite.specs.Listing.{understood}
use Rattle.sqlite_value.proofs.OrderLemmas.{value_cmp-Text, then-Equal}
use Rattle.sqlite_tied.specs.Compute.{everything}
use Rattle.sqlite_tied.proofs.RuleLemmas.{and_true}
use Rattle.fr_tables.specs.Rows.{VariantRow, of_maybe}
use Rattle.fr_tables.specs.Changes.{Changes}
use Rattle.fr_tables.specs.Statements.{with_variant, with_released, is_variant, released_row, shows_variant, variants_cmp, every, any_order}
use Rattle.fr_tables.proofs.Compared.{equals, rising, equal_texts, cast_null, cast_integer}
use Rattle.fr_tables.proofs.InsertLemmas.{Puts, puts}
use Rattle.fr_tables.proofs.RenewLemmas.{Renews, renews}
use Rattle.fr_tables.proofs.TableOf.{Does}
use Rattle.fr_tables.proofs.TheTables.{variant_table}
use Rattle.fr_tables.proofs.FindLemmas.{Selects}

abbrev insert_text : List ℕ
insert_text = codes "INSERT INTO variants (name, parent, depth, released, overlay) VALUES (?1, ?2, ?3, 0, ?4)"

abbrev opened : List ℕ → Option (List ℕ) → ℤ → ℤ → VariantRow
opened name parent depth overlay = record { name = name; parent = parent; depth = depth; released = pos 0; overlay = overlay }

abbrev terms : List Term
terms = lit Null ∷ col 0 0 ∷ col 0 1 ∷ col 0 2 ∷ lit (Int (pos 0)) ∷ col 0 3 ∷ []

abbrev pub given : List ℕ → Option (List ℕ) → ℤ → ℤ → Row
given name parent depth overlay = Text name ∷ of_maybe parent ∷ Int depth ∷ Int overlay ∷ []

-- one case for each of the column that may be NULL
insert_is : (name : List ℕ) (parent : Option (List ℕ)) (depth overlay : ℤ) → Puts variant_table insert_text (given name parent depth overlay) (opened name parent depth overlay)
unfolding understood everything
insert_is name None depth overlay l = record { terms = terms; width = 6; is = refl; plain = (refl, refl); gives = refl; stores = rw (cast_null, cast_integer depth, cast_integer (pos 0), cast_integer overlay) }
insert_is name (Some parent) depth overlay l = record { terms = terms; width = 6; is = refl; plain = (refl, refl); gives = refl; stores = rw (cast_null, cast_integer depth, cast_integer (pos 0), cast_integer overlay) }

pub inserts : (name : List ℕ) (parent : Option (List ℕ)) (depth overlay : ℤ) → Does insert_text (given name parent depth overlay) (Changes (with_variant (opened name parent depth overlay)))
inserts name parent depth overlay = puts variant_table (opened name parent depth overlay) (insert_is name parent depth overlay)

-- a parent that is passed, as it is bound
pub bound_maybe : (o : Option (Bor (List ℕ))) → bound_value (or_null (λ s. Text s.now) o) ≡ of_maybe (option_copied o)
bound_maybe None = refl
bound_maybe (Some s) = refl

-- ---- the release

abbrev release_text : List ℕ
release_text = codes "UPDATE variants SET released = 1 WHERE name = ?1"

abbrev named : List Term
named = equals 1 0 ∷ []

cast_maybe : (o : Option (List ℕ)) → cast kind.Text (of_maybe o) ≡ of_maybe o
cast_maybe None = refl
cast_maybe (Some t) = refl

release_is : (name : List ℕ) → Renews variant_table release_text (Text name ∷ []) (is_variant name) released_row
unfolding understood everything
release_is name = record {
  tests = named;
  terms = col 1 1 ∷ col 1 2 ∷ col 1 3 ∷ lit (Int (pos 1)) ∷ col 1 5 ∷ [];
  is = λ l. record { is = refl; plain = (refl, refl) };
  tested = λ p. rw (equal_texts p.1.name name, and_true);
  gives = λ l n v. rw (cast_integer n, cast_integer v.depth, cast_integer (pos 1), cast_integer v.overlay, cast_maybe v.parent);
}

pub releases : (name : List ℕ) → Does release_text (Text name ∷ []) (Changes (with_released name))
releases name = renews variant_table (release_is name)

-- ---- what is asked

abbrev pub select_text : List ℕ
select_text = codes "SELECT name, parent, depth, released, overlay FROM variants ORDER BY name"

abbrev names : List (List ℕ)
names = codes "name" ∷ codes "parent" ∷ codes "depth" ∷ codes "released" ∷ codes "overlay" ∷ []

pub by_order : Selects variant_table shows_variant every variants_cmp select_text []
unfolding understood everything
by_order l behind = record {
  tests = [];
  order = rising 1 ∷ [];
  project = col 1 1 ∷ col 1 2 ∷ col 1 3 ∷ col 1 4 ∷ col 1 5 ∷ [];
  is = record { names = names; is = refl; unlisted = refl; plain = (refl, refl) };
  tested = λ p. refl;
  compared = λ a b. rw (value_cmp-Text a.1.name b.1.name, then-Equal);
  projected = λ p. refl;
}

abbrev pub one_text : List ℕ
one_text = codes "SELECT name, parent, depth, released, overlay FROM variants WHERE name = ?1"

pub by_name : (name : List ℕ) → Selects variant_table shows_variant (is_variant name) any_order one_text (Text name ∷ [])
unfolding understood everything
by_name name l behind = record {
  tests = named;
  order = [];
  project = col 1 1 ∷ col 1 2 ∷ col 1 3 ∷ col 1 4 ∷ col 1 5 ∷ [];
  is = record { names = names; is = refl; unlisted = refl; plain = (refl, refl) };
  tested = λ p. rw (equal_texts p.1.name name, and_true);
  compared = λ a b. refl;
  projected = λ p. refl;
}
