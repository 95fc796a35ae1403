-- Something is told exactly where there is a fault up to here.
use Rattle.std.proofs.Common.{◌≡◌, take}
use Rattle.fr_guide.specs.Faults.{are_none}
use Rattle.fr_guide.proofs.requests.fields.field_faults.Given as goal

abbrev pub invariant-loop-fault : goal.invariant-loop-fault
invariant-loop-fault l = are_none l.told.items ≡ are_none (take l.fault-index l.faults)
