use Rattle.std.proofs.Common.{◌≡◌, map, take}
use Rattle.std.specs.List.{All}
use Rattle.fr_picture.specs.Strips.{HasItsBits}
use Rattle.fr_picture.proofs.drawn_frames.draw_rows.Given as goal

abbrev pub invariant-loop-row : goal.invariant-loop-row
invariant-loop-row l = (map (λ s. s.signal) l.signals ≡ map (λ r. r.signal) (take l.row-index l.rows)) × All HasItsBits l.signals
