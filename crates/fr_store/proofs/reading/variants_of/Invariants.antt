use Rattle.std.proofs.Common.{◌≡◌, map, take}
use Rattle.fr_store.specs.Reading.{variant_shown}
use Rattle.fr_store.proofs.reading.variants_of.Given as goal

abbrev pub invariant-loop-row : goal.invariant-loop-row
invariant-loop-row l = l.found.items ≡ map variant_shown (take l.row-index l.rows)
