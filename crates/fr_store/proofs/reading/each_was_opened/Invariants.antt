use Rattle.std.proofs.Common.{ℕ, ◌<◌, get_or}
use Rattle.fr_base.specs.declared.answer.VariantRow.{VariantRow}
use Rattle.fr_store.specs.Reading.{WasOpened}
use Rattle.fr_store.proofs.reading.each_was_opened.Given as goal

abbrev pub invariant-loop-row : goal.invariant-loop-row
invariant-loop-row l = (d : VariantRow) (k : ℕ) → k < l.row-index → WasOpened l.variants (get_or l.variants k d)
