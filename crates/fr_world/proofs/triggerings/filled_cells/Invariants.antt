use Rattle.std.proofs.Common.{◌≡◌, map, take}
use Rattle.fr_world.specs.Sendings.{sender_in}
use Rattle.fr_world.proofs.DecideFilling.{named}
use Rattle.fr_world.proofs.triggerings.filled_cells.Given as goal

-- the cells of the placements before
abbrev pub invariant-loop-one : goal.invariant-loop-one
invariant-loop-one l = l.cells ≡ map (λ p. named (sender_in l.senders p, p.placement)) (take l.one-index l.triggerings)
