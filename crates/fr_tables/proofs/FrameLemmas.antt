-- What the statements on frames do, but for their deletion.
use Rattle.std.proofs.Common.{ℕ, List, [], ◌∷◌, codes, refl}
use Rattle.sqlite.specs.declared.types.Value.TheVariants.{Null, Text}
use Rattle.sqlite.specs.Term.{lit, col}
use Rattle.sqlite.specs.Listing.{understood}
use Rattle.sqlite.specs.Collation.TheVariants.{Binary}
use Rattle.sqlite_value.proofs.OrderLemmas.{value_cmp-Text, then-Equal}
use Rattle.sqlite_tied.specs.Compute.{everything}
use Rattle.sqlite_tied.proofs.RuleLemmas.{and_true}
use Rattle.fr_tables.specs.Rows.{FrameRow, of_frame}
use Rattle.fr_tables.specs.Changes.{Changes, Copies}
use Rattle.fr_tables.specs.declared.frame_key.FrameKey.{FrameKey}
use Rattle.fr_tables.specs.Statements.{with_frame, with_frames, frame_for, frame_copies, is_frame, is_frame_of, shows_frame, frames_cmp, any_order}
use Rattle.fr_tables.proofs.Compared.{equals, rising, equal_texts, cast_null}
use Rattle.fr_tables.proofs.InsertLemmas.{Puts, puts}
use Rattle.fr_tables.proofs.CopyLemmas.{CopiesBy, makes_copies}
use Rattle.fr_tables.proofs.TableOf.{Does}
use Rattle.fr_tables.proofs.TheTables.{frame_table}
use Rattle.fr_tables.proofs.FindLemmas.{Selects}

abbrev insert_text : List ℕ
insert_text = codes "INSERT INTO frames (variant, supplier, name, node) VALUES (?1, ?2, ?3, ?4)"

insert_is : (f : FrameRow) → Puts frame_table insert_text (of_frame f) f
unfolding understood everything
insert_is f l = record { terms = lit Null ∷ col 0 0 ∷ col 0 1 ∷ col 0 2 ∷ col 0 3 ∷ []; width = 5; is = refl; plain = (refl, refl); gives = refl; stores = rw cast_null }

pub inserts : (f : FrameRow) → Does insert_text (of_frame f) (Changes (with_frame f))
inserts f = puts frame_table f (insert_is f)

abbrev copy_one_text : List ℕ
copy_one_text = codes "INSERT INTO frames (variant, supplier, name, node) SELECT ?2, supplier, name, node FROM frames WHERE variant = ?1 AND supplier = ?3 AND name = ?4"

copy_one_is : (from : List ℕ) (to : FrameKey)
    → CopiesBy frame_table copy_one_text (Text from ∷ Text to.variant ∷ Text to.supplier ∷ Text to.frame ∷ []) (is_frame (record to { variant = from })) (frame_for to.variant)
unfolding understood everything
copy_one_is from to = record {
  tests = equals 1 0 ∷ equals 2 2 ∷ equals 3 3 ∷ [];
  project = lit Null ∷ col 0 1 ∷ col 1 2 ∷ col 1 3 ∷ col 1 4 ∷ [];
  is = λ l. record { by = Binary ∷ Binary ∷ Binary ∷ Binary ∷ Binary ∷ []; is = refl; plain = (refl, refl); bare = refl };
  tested = λ p. rw (equal_texts p.1.variant from, equal_texts p.1.supplier to.supplier, equal_texts p.1.name to.frame, and_true);
  gives = λ l p. rw cast_null;
}

pub copies_one : (from : List ℕ) (to : FrameKey) → Does copy_one_text (Text from ∷ Text to.variant ∷ Text to.supplier ∷ Text to.frame ∷ []) (Copies (frame_copies from to) with_frames)
copies_one from to = makes_copies frame_table (copy_one_is from to)

abbrev pub select_text : List ℕ
select_text = codes "SELECT name, node FROM frames WHERE variant = ?1 AND supplier = ?2 ORDER BY name"

pub by_supplier : (variant : List ℕ) (supplier : List ℕ) → Selects frame_table shows_frame (is_frame_of variant supplier) frames_cmp select_text (Text variant ∷ Text supplier ∷ [])
unfolding understood everything
by_supplier variant supplier l behind = record {
  tests = equals 1 0 ∷ equals 2 1 ∷ [];
  order = rising 3 ∷ [];
  project = col 1 3 ∷ col 1 4 ∷ [];
  is = record { names = codes "name" ∷ codes "node" ∷ []; is = refl; unlisted = refl; plain = (refl, refl) };
  tested = λ p. rw (equal_texts p.1.variant variant, equal_texts p.1.supplier supplier, and_true);
  compared = λ a b. rw (value_cmp-Text a.1.name b.1.name, then-Equal);
  projected = λ p. refl;
}

abbrev pub one_text : List ℕ
one_text = codes "SELECT name, node FROM frames WHERE variant = ?1 AND supplier = ?2 AND name = ?3"

pub by_key : (key : FrameKey) → Selects frame_table shows_frame (is_frame key) any_order one_text (Text key.variant ∷ Text key.supplier ∷ Text key.frame ∷ [])
unfolding understood everything
by_key key l behind = record {
  tests = equals 1 0 ∷ equals 2 1 ∷ equals 3 2 ∷ [];
  order = [];
  project = col 1 3 ∷ col 1 4 ∷ [];
  is = record { names = codes "name" ∷ codes "node" ∷ []; is = refl; unlisted = refl; plain = (refl, refl) };
  tested = λ p. rw (equal_texts p.1.variant key.variant, equal_texts p.1.supplier key.supplier, equal_texts p.1.name key.frame, and_true);
  compared = λ a b. refl;
  projected = λ p. refl;
}
