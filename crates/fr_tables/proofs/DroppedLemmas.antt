-- What the statements on dropped frames do.
use Rattle.std.proofs.Common.{ℕ, List, [], ◌∷◌, codes, refl}
use Rattle.sqlite.specs.declared.types.Value.TheVariants.{Text}
use Rattle.sqlite.specs.Term.{col}
use Rattle.sqlite.specs.Listing.{understood}
use Rattle.sqlite_value.proofs.OrderLemmas.{value_cmp-Text, then-Equal}
use Rattle.sqlite_tied.specs.Compute.{everything}
use Rattle.sqlite_tied.proofs.RuleLemmas.{and_true}
use Rattle.fr_tables.specs.Statements.{is_dropped_by, shows_dropped, dropped_cmp}
use Rattle.fr_tables.proofs.Compared.{equals, rising, equal_texts}
use Rattle.fr_tables.proofs.TheTables.{dropped_table}
use Rattle.fr_tables.proofs.FindLemmas.{Selects}

abbrev pub select_text : List ℕ
select_text = codes "SELECT frame FROM dropped WHERE variant = ?1 AND supplier = ?2 ORDER BY frame"

pub by_supplier : (variant : List ℕ) (supplier : List ℕ) → Selects dropped_table shows_dropped (is_dropped_by variant supplier) dropped_cmp select_text (Text variant ∷ Text supplier ∷ [])
unfolding understood everything
by_supplier variant supplier l behind = record {
  tests = equals 1 0 ∷ equals 2 1 ∷ [];
  order = rising 3 ∷ [];
  project = col 1 3 ∷ [];
  is = record { names = codes "frame" ∷ []; is = refl; unlisted = refl; plain = (refl, refl) };
  tested = λ p. rw (equal_texts p.1.variant variant, equal_texts p.1.supplier supplier, and_true);
  compared = λ a b. rw (value_cmp-Text a.1.frame b.1.frame, then-Equal);
  projected = λ p. refl;
}
