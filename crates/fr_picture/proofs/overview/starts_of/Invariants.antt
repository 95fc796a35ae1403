use Rattle.std.proofs.Common.{◌≡◌, take}
use Rattle.std.specs.List.{flat_map}
use Rattle.fr_picture.specs.Overviews.{start_of}
use Rattle.fr_picture.proofs.overview.starts_of.Given as goal

-- those of the lanes up to here
abbrev pub invariant-loop-lane : goal.invariant-loop-lane
invariant-loop-lane l = l.starts.items ≡ flat_map (λ lane. start_of lane.place.opens) (take l.lane-index l.lanes)
