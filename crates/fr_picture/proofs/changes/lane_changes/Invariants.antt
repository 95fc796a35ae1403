use Rattle.std.proofs.Common.{◌≡◌, filter, take}
use Rattle.fr_picture.specs.Changes.{is_in_lane}
use Rattle.fr_picture.proofs.changes.lane_changes.Given as goal

-- those of the lane up to here
abbrev pub invariant-loop-row : goal.invariant-loop-row
invariant-loop-row l = l.drawn.items ≡ filter (λ d. is_in_lane l.number d.row) (take l.row-index l.rows)
