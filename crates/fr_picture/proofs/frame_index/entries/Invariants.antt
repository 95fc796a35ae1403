use Rattle.std.proofs.Common.{◌≡◌, map, take}
use Rattle.std.specs.List.{enumerate_from}
use Rattle.fr_picture.specs.FrameIndexes.{entry_of}
use Rattle.fr_picture.proofs.frame_index.entries.Given as goal

-- those up to here
abbrev pub invariant-loop-place : goal.invariant-loop-place
invariant-loop-place l = l.index.items ≡ map (λ p. entry_of p.0 p.1) (enumerate_from 1 (take l.place l.frames))
