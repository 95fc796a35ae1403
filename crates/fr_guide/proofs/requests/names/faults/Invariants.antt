use Rattle.std.proofs.Common.{◌≡◌, map, take}
use Rattle.fr_guide.proofs.requests.names.faults.Given as goal
use Rattle.fr_guide.specs.Faults.{are_none}
use Rattle.fr_guide.specs.Requests.{have_forms}

-- there is a fault exactly where one of the texts up to here does not have its form
abbrev pub invariant-loop-formed : goal.invariant-loop-formed
invariant-loop-formed l = are_none l.faults.items ≡ have_forms (map (λ it. (it.form, it.text.now)) (take l.formed-index l.texts))
