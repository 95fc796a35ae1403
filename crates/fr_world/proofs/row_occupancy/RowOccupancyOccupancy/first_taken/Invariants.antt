-- What was found is the first taken cell among the rows so far.
use Rattle.std.proofs.Common.{◌≡◌, map, take}
use Rattle.fr_world.proofs.TakenLaws.{taken_among}
use Rattle.fr_world.proofs.row_occupancy.RowOccupancyOccupancy.first_taken.Given as goal

abbrev pub invariant-loop-row : goal.invariant-loop-row
invariant-loop-row l = l.found ≡ taken_among (map (λ r. (r.frame, r.placement)) (take l.row-index l.self.rows.items)) l.placement
