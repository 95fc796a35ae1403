use Rattle.std.proofs.Common.{◌≡◌, ◌++◌, map}
use Rattle.fr_world.proofs.proposal.push_frame.Given as goal

-- what the placements so far fill, and those that are left
abbrev pub invariant-loop-place : goal.invariant-loop-place
invariant-loop-place l = l.cells ++ map (λ q. (l.name, q)) l.place-iterator ≡ l.fn.cells ++ map (λ q. (l.name, q)) l.frame.placements.keys
