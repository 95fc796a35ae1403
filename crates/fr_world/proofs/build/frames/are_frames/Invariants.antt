-- All frames are a page's where those that are left are.
use Rattle.fr_world.specs.Building.{IsKeptFrame}
use Rattle.fr_world.specs.Pages.{frame_data, own_rows_of, rows_data}
use Rattle.fr_world.proofs.BuildFrames.{IsLeft}
use Rattle.fr_world.proofs.build.frames.are_frames.Given as goal

abbrev pub invariant-loop-frame : goal.invariant-loop-frame
invariant-loop-frame l =
    (goal.iterator-loop-frame).can_next l.frame-iterator ×
    (goal.iterator-loop-frame).is_finite l.frame-iterator ×
    IsLeft (λ f. IsKeptFrame (own_rows_of (rows_data l.rows)) (frame_data f)) l.rows.frames.entries l.frame-iterator
