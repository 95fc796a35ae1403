-- Of the pairs those of the placements that are left are still to be taken out.
use Rattle.std.proofs.Common.{◌≡◌}
use Rattle.fr_base.specs.declared.name.Name.{Name}
use Rattle.fr_base.specs.declared.placement.Placement.{Placement}
use Rattle.fr_world.proofs.PlacedLaws.{rest_taken}
use Rattle.fr_world.proofs.amend.end_each.Given as goal

abbrev pub invariant-loop-placement : goal.invariant-loop-placement
invariant-loop-placement l = (f : Name) (q : Placement) → rest_taken f q l.name l.cells l.placement-iterator ≡ rest_taken f q l.name l.initial.cells l.frame.placements.keys
