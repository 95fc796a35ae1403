use Rattle.std.proofs.Common.{◌≡◌, ◌++◌, take}
use Rattle.std.specs.List.{enumerate_from, flat_map}
use Rattle.std.specs.String.{string_bytes}
use Rattle.fr_picture.specs.Changes.{lane_changes}
use Rattle.fr_picture.specs.LaneTexts.{lane_text}
use Rattle.fr_picture.proofs.lanes.push_lanes.Given as goal

-- the text of those up to here
abbrev pub invariant-loop-place : goal.invariant-loop-place
invariant-loop-place l = string_bytes l.out ≡ string_bytes l.initial.out
    ++ flat_map (λ p. lane_text l.plan l.scale l.index (lane_changes l.slots p.0) p.1) (enumerate_from 0 (take l.place l.lanes))
