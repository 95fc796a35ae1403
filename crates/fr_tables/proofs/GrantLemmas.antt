-- What the statements on grants do.
use Rattle.std.proofs.Common.{ℕ, ℤ, List, [], ◌∷◌, codes, bytes_eq, refl}
use Rattle.sqlite.specs.declared.types.Value.TheVariants.{Null, Int, Text}
use Rattle.sqlite.specs.Term.{Term, lit, col}
use Rattle.sqlite.specs.Listing.{understood}
use Rattle.sqlite.specs.Collation.TheVariants.{Binary}
use Rattle.sqlite_tied.specs.Compute.{everything}
use Rattle.sqlite_tied.proofs.RuleLemmas.{and_true}
use Rattle.fr_tables.specs.Rows.{GrantRow, of_grant}
use Rattle.fr_tables.specs.Changes.{Changes, Copies}
use Rattle.fr_tables.specs.Statements.{with_grant, without_grant, with_grants, grant_for, grants_for, is_grant_of, is_grant_at, shows_grant, shows_holder, any_order}
use Rattle.fr_tables.proofs.Compared.{equals, equal_texts, equal_integers, cast_null, cast_integer}
use Rattle.fr_tables.proofs.InsertLemmas.{Puts, puts}
use Rattle.fr_tables.proofs.RemoveLemmas.{Removes, removes}
use Rattle.fr_tables.proofs.CopyLemmas.{CopiesBy, makes_copies}
use Rattle.fr_tables.proofs.BehindLemmas.{works_same}
use Rattle.fr_tables.proofs.TableOf.{Does}
use Rattle.fr_tables.proofs.TheTables.{grant_table}
use Rattle.fr_tables.proofs.FindLemmas.{Selects}

abbrev insert_text : List ℕ
insert_text = codes "INSERT INTO grants (variant, slot, channel, supplier, node) VALUES (?1, ?2, ?3, ?4, ?5)"

insert_is : (g : GrantRow) → Puts grant_table insert_text (of_grant g) g
unfolding understood everything
insert_is g l = record { terms = lit Null ∷ col 0 0 ∷ col 0 1 ∷ col 0 2 ∷ col 0 3 ∷ col 0 4 ∷ []; width = 6; is = refl; plain = (refl, refl); gives = refl; stores = rw (cast_null, cast_integer g.slot) }

pub inserts : (g : GrantRow) → Does insert_text (of_grant g) (Changes (with_grant g))
inserts g = puts grant_table g (insert_is g)

-- ---- the end of a grant

abbrev at_place : List Term
at_place = equals 1 0 ∷ equals 2 1 ∷ equals 3 2 ∷ []

abbrev delete_text : List ℕ
delete_text = codes "DELETE FROM grants WHERE variant = ?1 AND slot = ?2 AND channel = ?3"

delete_is : (variant : List ℕ) (slot : ℤ) (channel : List ℕ) → Removes grant_table delete_text (Text variant ∷ Int slot ∷ Text channel ∷ []) (is_grant_at variant slot channel)
unfolding understood everything
delete_is variant slot channel = record {
  tests = at_place;
  is = λ l. record { is = refl; plain = (refl, refl) };
  idle = λ l olds. works_same l 0 9 olds [];
  tested = λ p. rw (equal_texts p.1.variant variant, equal_integers p.1.slot slot, equal_texts p.1.channel channel, and_true);
}

pub deletes : (variant : List ℕ) (slot : ℤ) (channel : List ℕ) → Does delete_text (Text variant ∷ Int slot ∷ Text channel ∷ []) (Changes (without_grant variant slot channel))
deletes variant slot channel = removes grant_table (delete_is variant slot channel)

-- ---- the copies for another variant

abbrev copy_text : List ℕ
copy_text = codes "INSERT INTO grants (variant, slot, channel, supplier, node) SELECT ?2, slot, channel, supplier, node FROM grants WHERE variant = ?1"

copy_is : (parent child : List ℕ) → CopiesBy grant_table copy_text (Text parent ∷ Text child ∷ []) (λ g. bytes_eq g.variant parent) (grant_for child)
unfolding understood everything
copy_is parent child = record {
  tests = equals 1 0 ∷ [];
  project = lit Null ∷ col 0 1 ∷ col 1 2 ∷ col 1 3 ∷ col 1 4 ∷ col 1 5 ∷ [];
  is = λ l. record { by = Binary ∷ Binary ∷ Binary ∷ Binary ∷ Binary ∷ Binary ∷ []; is = refl; plain = (refl, refl); bare = refl };
  tested = λ p. rw (equal_texts p.1.variant parent, and_true);
  gives = λ l p. rw (cast_null, cast_integer p.1.slot);
}

pub copies : (parent child : List ℕ) → Does copy_text (Text parent ∷ Text child ∷ []) (Copies (grants_for parent child) with_grants)
copies parent child = makes_copies grant_table (copy_is parent child)

-- ---- what is asked

abbrev pub select_text : List ℕ
select_text = codes "SELECT slot, channel, node FROM grants WHERE variant = ?1 AND supplier = ?2"

pub by_supplier : (variant supplier : List ℕ) → Selects grant_table shows_grant (is_grant_of variant supplier) any_order select_text (Text variant ∷ Text supplier ∷ [])
unfolding understood everything
by_supplier variant supplier l behind = record {
  tests = equals 1 0 ∷ equals 4 1 ∷ [];
  order = [];
  project = col 1 2 ∷ col 1 3 ∷ col 1 5 ∷ [];
  is = record { names = codes "slot" ∷ codes "channel" ∷ codes "node" ∷ []; is = refl; unlisted = refl; plain = (refl, refl) };
  tested = λ p. rw (equal_texts p.1.variant variant, equal_texts p.1.supplier supplier, and_true);
  compared = λ a b. refl;
  projected = λ p. refl;
}

abbrev pub holder_text : List ℕ
holder_text = codes "SELECT supplier, node FROM grants WHERE variant = ?1 AND slot = ?2 AND channel = ?3"

pub by_place : (variant : List ℕ) (slot : ℤ) (channel : List ℕ) → Selects grant_table shows_holder (is_grant_at variant slot channel) any_order holder_text (Text variant ∷ Int slot ∷ Text channel ∷ [])
unfolding understood everything
by_place variant slot channel l behind = record {
  tests = at_place;
  order = [];
  project = col 1 4 ∷ col 1 5 ∷ [];
  is = record { names = codes "supplier" ∷ codes "node" ∷ []; is = refl; unlisted = refl; plain = (refl, refl) };
  tested = λ p. rw (equal_texts p.1.variant variant, equal_integers p.1.slot slot, equal_texts p.1.channel channel, and_true);
  compared = λ a b. refl;
  projected = λ p. refl;
}
