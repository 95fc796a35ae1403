use Rattle.std.proofs.Common.{◌≡◌, ◌++◌, take}
use Rattle.std.specs.List.{enumerate_from, flat_map}
use Rattle.std.specs.String.{string_bytes}
use Rattle.fr_picture.specs.FrameTables.{frame_text}
use Rattle.fr_picture.proofs.frame_table.push_frames.Given as goal

-- the text of those up to here
abbrev pub invariant-loop-place : goal.invariant-loop-place
invariant-loop-place l = string_bytes l.out ≡ string_bytes l.initial.out ++ flat_map (λ p. frame_text p.0 p.1) (enumerate_from 1 (take l.place l.frames))
