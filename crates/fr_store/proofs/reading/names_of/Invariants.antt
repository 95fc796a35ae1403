use Rattle.std.proofs.Common.{◌≡◌, map, take}
use Rattle.fr_store.specs.Reading.{name_shown}
use Rattle.fr_store.proofs.reading.names_of.Given as goal

abbrev pub invariant-loop-row : goal.invariant-loop-row
invariant-loop-row l = l.names.items ≡ map name_shown (take l.row-index l.rows)
