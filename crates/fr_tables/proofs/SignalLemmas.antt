-- What the statements on signals do.
use Rattle.std.proofs.Common.{ℕ, List, [], ◌∷◌, codes, refl}
use Rattle.sqlite.specs.declared.types.Value.TheVariants.{Null, Text}
use Rattle.sqlite.specs.Term.{lit, col}
use Rattle.sqlite.specs.Listing.{understood}
use Rattle.sqlite.specs.Collation.TheVariants.{Binary}
use Rattle.sqlite_value.proofs.OrderLemmas.{value_cmp-Text, then-Equal}
use Rattle.sqlite_tied.specs.Compute.{everything}
use Rattle.sqlite_tied.proofs.RuleLemmas.{and_true}
use Rattle.fr_tables.specs.Rows.{SignalRow, of_signal}
use Rattle.fr_tables.specs.Changes.{Changes, Copies}
use Rattle.fr_tables.specs.declared.frame_key.FrameKey.{FrameKey}
use Rattle.fr_tables.specs.Statements.{with_signal, without_signal, with_signals, signal_for, signal_copies, is_signal, is_signal_of, is_signalled_by, shows_signal, signals_cmp}
use Rattle.fr_tables.proofs.Compared.{equals, rising, equal_texts, cast_null, cast_integer}
use Rattle.fr_tables.proofs.InsertLemmas.{Puts, puts}
use Rattle.fr_tables.proofs.RemoveLemmas.{Removes, removes}
use Rattle.fr_tables.proofs.CopyLemmas.{CopiesBy, makes_copies}
use Rattle.fr_tables.proofs.BehindLemmas.{works_same}
use Rattle.fr_tables.proofs.TableOf.{Does}
use Rattle.fr_tables.proofs.TheTables.{signal_table}
use Rattle.fr_tables.proofs.FindLemmas.{Selects}

abbrev insert_text : List ℕ
insert_text = codes "INSERT INTO signals (variant, supplier, frame, name, start, length, big) VALUES (?1, ?2, ?3, ?4, ?5, ?6, ?7)"

insert_is : (s : SignalRow) → Puts signal_table insert_text (of_signal s) s
unfolding understood everything
insert_is s l = record { terms = lit Null ∷ col 0 0 ∷ col 0 1 ∷ col 0 2 ∷ col 0 3 ∷ col 0 4 ∷ col 0 5 ∷ col 0 6 ∷ []; width = 8; is = refl; plain = (refl, refl); gives = refl; stores = rw (cast_null, cast_integer s.start, cast_integer s.length, cast_integer s.big) }

pub inserts : (s : SignalRow) → Does insert_text (of_signal s) (Changes (with_signal s))
inserts s = puts signal_table s (insert_is s)

abbrev delete_text : List ℕ
delete_text = codes "DELETE FROM signals WHERE variant = ?1 AND supplier = ?2 AND frame = ?3 AND name = ?4"

delete_is : (key : FrameKey) (name : List ℕ) → Removes signal_table delete_text (Text key.variant ∷ Text key.supplier ∷ Text key.frame ∷ Text name ∷ []) (is_signal key name)
unfolding understood everything
delete_is key name = record {
  tests = equals 1 0 ∷ equals 2 1 ∷ equals 3 2 ∷ equals 4 3 ∷ [];
  is = λ l. record { is = refl; plain = (refl, refl) };
  idle = λ l olds. works_same l 0 15 olds [];
  tested = λ p. rw (equal_texts p.1.variant key.variant, equal_texts p.1.supplier key.supplier, equal_texts p.1.frame key.frame, equal_texts p.1.name name, and_true);
}

pub deletes : (key : FrameKey) (name : List ℕ) → Does delete_text (Text key.variant ∷ Text key.supplier ∷ Text key.frame ∷ Text name ∷ []) (Changes (without_signal key name))
deletes key name = removes signal_table (delete_is key name)

abbrev copy_one_text : List ℕ
copy_one_text = codes "INSERT INTO signals (variant, supplier, frame, name, start, length, big) SELECT ?2, supplier, frame, name, start, length, big FROM signals WHERE variant = ?1 AND supplier = ?3 AND frame = ?4"

copy_one_is : (from : List ℕ) (to : FrameKey)
    → CopiesBy signal_table copy_one_text (Text from ∷ Text to.variant ∷ Text to.supplier ∷ Text to.frame ∷ []) (is_signal_of (record to { variant = from })) (signal_for to.variant)
unfolding understood everything
copy_one_is from to = record {
  tests = equals 1 0 ∷ equals 2 2 ∷ equals 3 3 ∷ [];
  project = lit Null ∷ col 0 1 ∷ col 1 2 ∷ col 1 3 ∷ col 1 4 ∷ col 1 5 ∷ col 1 6 ∷ col 1 7 ∷ [];
  is = λ l. record { by = Binary ∷ Binary ∷ Binary ∷ Binary ∷ Binary ∷ Binary ∷ Binary ∷ Binary ∷ []; is = refl; plain = (refl, refl); bare = refl };
  tested = λ p. rw (equal_texts p.1.variant from, equal_texts p.1.supplier to.supplier, equal_texts p.1.frame to.frame, and_true);
  gives = λ l p. rw (cast_null, cast_integer p.1.start, cast_integer p.1.length, cast_integer p.1.big);
}

pub copies_one : (from : List ℕ) (to : FrameKey) → Does copy_one_text (Text from ∷ Text to.variant ∷ Text to.supplier ∷ Text to.frame ∷ []) (Copies (signal_copies from to) with_signals)
copies_one from to = makes_copies signal_table (copy_one_is from to)

abbrev pub select_text : List ℕ
select_text = codes "SELECT frame, name, start, length, big FROM signals WHERE variant = ?1 AND supplier = ?2 ORDER BY frame, name"

pub by_supplier : (variant : List ℕ) (supplier : List ℕ) → Selects signal_table shows_signal (is_signalled_by variant supplier) signals_cmp select_text (Text variant ∷ Text supplier ∷ [])
unfolding understood everything
by_supplier variant supplier l behind = record {
  tests = equals 1 0 ∷ equals 2 1 ∷ [];
  order = rising 3 ∷ rising 4 ∷ [];
  project = col 1 3 ∷ col 1 4 ∷ col 1 5 ∷ col 1 6 ∷ col 1 7 ∷ [];
  is = record { names = codes "frame" ∷ codes "name" ∷ codes "start" ∷ codes "length" ∷ codes "big" ∷ []; is = refl; unlisted = refl; plain = (refl, refl) };
  tested = λ p. rw (equal_texts p.1.variant variant, equal_texts p.1.supplier supplier, and_true);
  compared = λ a b. rw (value_cmp-Text a.1.frame b.1.frame, value_cmp-Text a.1.name b.1.name, then-Equal);
  projected = λ p. refl;
}
