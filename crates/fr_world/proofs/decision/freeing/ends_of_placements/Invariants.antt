use Rattle.std.proofs.Common.{◌≡◌, ◌++◌, map}
use Rattle.fr_base.specs.declared.request.FrameChange.TheVariants.{Unplace}
use Rattle.fr_world.proofs.decision.freeing.ends_of_placements.Given as goal

-- the ends of the placements before
abbrev pub invariant-loop-placement : goal.invariant-loop-placement
invariant-loop-placement l = l.ends.items ++ map Unplace l.placement-iterator ≡ map Unplace l.frame.placements.keys
