use Rattle.std.proofs.Common.{◌≡◌, map, take}
use Rattle.fr_base.specs.KeyChanges.{keyed}
use Rattle.fr_base.proofs.config.copy_with_key.Given as goal

abbrev pub invariant-loop-supplier : goal.invariant-loop-supplier
invariant-loop-supplier l = l.suppliers ≡ map (keyed l.name l.key) (take l.supplier-index l.list)
