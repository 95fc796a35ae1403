use Rattle.std.proofs.Common.{◌≡◌, ◌||◌, take}
use Rattle.std.specs.List.{list_any}
use Rattle.fr_base.specs.declared.name.Name.{Name}
use Rattle.fr_store.specs.Flat.{has_name}
use Rattle.fr_store.proofs.ViewLemmas.{is_named}
use Rattle.fr_store.proofs.applying.shown.with.Given as goal

abbrev pub invariant-loop-row : goal.invariant-loop-row
invariant-loop-row l = (n : Name) → has_name n l.names.keys ≡ (list_any (is_named n) (take l.row-index l.rows) || has_name n l.fn.names.keys)
