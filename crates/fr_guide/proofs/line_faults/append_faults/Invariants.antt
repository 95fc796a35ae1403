use Rattle.std.proofs.Common.{◌≡◌, ◌++◌, take}
use Rattle.std.specs.Prelude.{string_bytes}
use Rattle.std.specs.List.{flat_map}
use Rattle.fr_guide.proofs.line_faults.append_faults.Given as goal
use Rattle.fr_guide.specs.Faults.{fault_line}

-- the faults up to here, behind what was there
abbrev pub invariant-loop-fault : goal.invariant-loop-fault
invariant-loop-fault l = l.text.items ≡ l.fn.text.items ++ flat_map (λ fault. fault_line l.told.line (string_bytes fault)) (take l.fault-index l.told.faults.items)
