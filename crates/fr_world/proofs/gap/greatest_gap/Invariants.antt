use Rattle.std.specs.List.Sorted.{IsPermutation}
use Rattle.fr_world.proofs.WalkLaws.{AreRising, Sees}
use Rattle.fr_world.proofs.gap.greatest_gap.Given as goal

abbrev pub invariant-loop-cycle : goal.invariant-loop-cycle
invariant-loop-cycle l = record {
  moved : IsPermutation l.placements l.by_slot;
  rising : AreRising l.params l.by_slot;
  sees : Sees l.params l.by_slot l.cycle 0 l.moments;
}

abbrev pub invariant-loop-placement : goal.invariant-loop-placement
invariant-loop-placement l = Sees l.params l.placement-items l.cycle l.placement-index l.moments
