use Rattle.std.proofs.Common.{◌≡◌, ◌++◌, [], ◌∷◌}
use Rattle.fr_base.specs.Queries.{frame_row, frames_of}
use Rattle.fr_world.specs.Pages.{own_rows_of}
use Rattle.fr_office.proofs.PageRows.{frames_shown}
use Rattle.fr_office.proofs.queries.frames.RowsFrameRowGathered.take.Given as goal

-- the rows so far, and those of the frames that are left
abbrev pub invariant-loop-name : goal.invariant-loop-name
invariant-loop-name l = l.self ++ frames_shown (λ e. frame_row e ∷ []) l.supplier l.name-iterator ≡ l.fn.self ++ frames_of (own_rows_of l.page).frames
