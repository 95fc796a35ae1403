use Rattle.std.proofs.Common.{◌≡◌, map, take}
use Rattle.fr_picture.proofs.plan_reader.names.Given as goal

-- those up to here
abbrev pub invariant-loop-supplier : goal.invariant-loop-supplier
invariant-loop-supplier l = l.names.items ≡ map (λ s. s.name) (take l.supplier-index l.suppliers)
