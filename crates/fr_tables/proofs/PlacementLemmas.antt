-- What the statements on placements do.
use Rattle.std.proofs.Common.{ℕ, List, [], ◌∷◌, codes, refl}
use Rattle.sqlite.specs.declared.types.Value.TheVariants.{Null, Text}
use Rattle.sqlite.specs.Term.{lit, col}
use Rattle.sqlite.specs.Listing.{understood}
use Rattle.sqlite.specs.Collation.TheVariants.{Binary}
use Rattle.sqlite_value.proofs.OrderLemmas.{value_cmp-Int, value_cmp-Text, then-Equal}
use Rattle.sqlite_tied.specs.Compute.{everything}
use Rattle.sqlite_tied.proofs.RuleLemmas.{and_true}
use Rattle.fr_tables.specs.Rows.{PlacementRow, of_placement}
use Rattle.fr_tables.specs.Changes.{Changes, Copies}
use Rattle.fr_tables.specs.declared.frame_key.FrameKey.{FrameKey}
use Rattle.fr_tables.specs.Statements.{with_placement, without_placement, with_placements, placement_for, placement_copies, is_placement, is_placement_of, is_placed_by, shows_placement, placements_cmp}
use Rattle.fr_tables.proofs.Compared.{equals, rising, equal_texts, equal_integers, cast_null, cast_integer}
use Rattle.fr_tables.proofs.InsertLemmas.{Puts, puts}
use Rattle.fr_tables.proofs.RemoveLemmas.{Removes, removes}
use Rattle.fr_tables.proofs.CopyLemmas.{CopiesBy, makes_copies}
use Rattle.fr_tables.proofs.BehindLemmas.{works_same}
use Rattle.fr_tables.proofs.TableOf.{Does}
use Rattle.fr_tables.proofs.TheTables.{placement_table}
use Rattle.fr_tables.proofs.FindLemmas.{Selects}

abbrev insert_text : List ℕ
insert_text = codes "INSERT INTO placements (variant, supplier, frame, slot, channels, base, repetition) VALUES (?1, ?2, ?3, ?4, ?5, ?6, ?7)"

insert_is : (p : PlacementRow) → Puts placement_table insert_text (of_placement p) p
unfolding understood everything
insert_is p l = record { terms = lit Null ∷ col 0 0 ∷ col 0 1 ∷ col 0 2 ∷ col 0 3 ∷ col 0 4 ∷ col 0 5 ∷ col 0 6 ∷ []; width = 8; is = refl; plain = (refl, refl); gives = refl; stores = rw (cast_null, cast_integer p.slot, cast_integer p.base, cast_integer p.repetition) }

pub inserts : (p : PlacementRow) → Does insert_text (of_placement p) (Changes (with_placement p))
inserts p = puts placement_table p (insert_is p)

abbrev delete_text : List ℕ
delete_text = codes "DELETE FROM placements WHERE variant = ?1 AND supplier = ?2 AND frame = ?3 AND slot = ?4 AND channels = ?5 AND base = ?6 AND repetition = ?7"

delete_is : (q : PlacementRow) → Removes placement_table delete_text (of_placement q) (is_placement q)
unfolding understood everything
delete_is q = record {
  tests = equals 1 0 ∷ equals 2 1 ∷ equals 3 2 ∷ equals 4 3 ∷ equals 5 4 ∷ equals 6 5 ∷ equals 7 6 ∷ [];
  is = λ l. record { is = refl; plain = (refl, refl) };
  idle = λ l olds. works_same l 0 13 olds [];
  tested = λ p. rw (equal_texts p.1.variant q.variant, equal_texts p.1.supplier q.supplier, equal_texts p.1.frame q.frame, equal_integers p.1.slot q.slot, equal_texts p.1.channels q.channels, equal_integers p.1.base q.base, equal_integers p.1.repetition q.repetition, and_true);
}

pub deletes : (q : PlacementRow) → Does delete_text (of_placement q) (Changes (without_placement q))
deletes q = removes placement_table (delete_is q)

abbrev copy_one_text : List ℕ
copy_one_text = codes "INSERT INTO placements (variant, supplier, frame, slot, channels, base, repetition) SELECT ?2, supplier, frame, slot, channels, base, repetition FROM placements WHERE variant = ?1 AND supplier = ?3 AND frame = ?4"

copy_one_is : (from : List ℕ) (to : FrameKey)
    → CopiesBy placement_table copy_one_text (Text from ∷ Text to.variant ∷ Text to.supplier ∷ Text to.frame ∷ []) (is_placement_of (record to { variant = from })) (placement_for to.variant)
unfolding understood everything
copy_one_is from to = record {
  tests = equals 1 0 ∷ equals 2 2 ∷ equals 3 3 ∷ [];
  project = lit Null ∷ col 0 1 ∷ col 1 2 ∷ col 1 3 ∷ col 1 4 ∷ col 1 5 ∷ col 1 6 ∷ col 1 7 ∷ [];
  is = λ l. record { by = Binary ∷ Binary ∷ Binary ∷ Binary ∷ Binary ∷ Binary ∷ Binary ∷ Binary ∷ []; is = refl; plain = (refl, refl); bare = refl };
  tested = λ p. rw (equal_texts p.1.variant from, equal_texts p.1.supplier to.supplier, equal_texts p.1.frame to.frame, and_true);
  gives = λ l p. rw (cast_null, cast_integer p.1.slot, cast_integer p.1.base, cast_integer p.1.repetition);
}

pub copies_one : (from : List ℕ) (to : FrameKey) → Does copy_one_text (Text from ∷ Text to.variant ∷ Text to.supplier ∷ Text to.frame ∷ []) (Copies (placement_copies from to) with_placements)
copies_one from to = makes_copies placement_table (copy_one_is from to)

abbrev pub select_text : List ℕ
select_text = codes "SELECT frame, slot, channels, base, repetition FROM placements WHERE variant = ?1 AND supplier = ?2 ORDER BY frame, slot, channels, base, repetition"

pub by_supplier : (variant : List ℕ) (supplier : List ℕ) → Selects placement_table shows_placement (is_placed_by variant supplier) placements_cmp select_text (Text variant ∷ Text supplier ∷ [])
unfolding understood everything
by_supplier variant supplier l behind = record {
  tests = equals 1 0 ∷ equals 2 1 ∷ [];
  order = rising 3 ∷ rising 4 ∷ rising 5 ∷ rising 6 ∷ rising 7 ∷ [];
  project = col 1 3 ∷ col 1 4 ∷ col 1 5 ∷ col 1 6 ∷ col 1 7 ∷ [];
  is = record { names = codes "frame" ∷ codes "slot" ∷ codes "channels" ∷ codes "base" ∷ codes "repetition" ∷ []; is = refl; unlisted = refl; plain = (refl, refl) };
  tested = λ p. rw (equal_texts p.1.variant variant, equal_texts p.1.supplier supplier, and_true);
  compared = λ a b. rw (value_cmp-Text a.1.frame b.1.frame, value_cmp-Int a.1.slot b.1.slot, value_cmp-Text a.1.channels b.1.channels, value_cmp-Int a.1.base b.1.base, value_cmp-Int a.1.repetition b.1.repetition, then-Equal);
  projected = λ p. refl;
}
