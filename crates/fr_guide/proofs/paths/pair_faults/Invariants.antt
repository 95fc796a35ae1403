use Rattle.std.proofs.Common.{◌≡◌, take}
use Rattle.std.specs.List.{list_all}
use Rattle.fr_guide.proofs.paths.pair_faults.Given as goal
use Rattle.fr_guide.specs.Faults.{are_none}
use Rattle.fr_guide.specs.Paths.{is_fine_part}

-- there is a fault exactly where one of the texts up to here is not what its part says
abbrev pub invariant-loop-part : goal.invariant-loop-part
invariant-loop-part l = are_none l.faults.items ≡ list_all (λ both. is_fine_part (both.0.now, both.1.now)) (take l.part-index l.pairs)
