use Rattle.std.proofs.Common.{◌≡◌, ◌++◌, [], ◌∷◌, All}
use Rattle.fr_base.specs.Queries.{gap_row, gaps_of}
use Rattle.fr_world.specs.Pages.{IsPageFrame, frame_data, frame_of, own_rows_of}
use Rattle.fr_office.proofs.PageRows.{frames_shown}
use Rattle.fr_office.proofs.queries.gaps.push_gaps.Given as goal

-- the rows so far, and those of the frames that are left, whose gaps can be told
abbrev pub invariant-loop-name : goal.invariant-loop-name
invariant-loop-name l = record {
  shown : l.rows ++ frames_shown (λ e. gap_row l.params e ∷ []) l.supplier l.name-iterator ≡ l.fn.rows ++ gaps_of l.page.params (own_rows_of l.page).frames;
  fitting : All (λ e. IsPageFrame (own_rows_of l.page) (frame_of (frame_data e.1))) l.name-iterator;
}
