use Rattle.std.proofs.Common.{◌≡◌, take}
use Rattle.fr_base.proofs.config.copy_suppliers.Given as goal

abbrev pub invariant-loop-supplier : goal.invariant-loop-supplier
invariant-loop-supplier l = l.suppliers ≡ take l.supplier-index l.list
