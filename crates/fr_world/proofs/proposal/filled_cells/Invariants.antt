use Rattle.std.proofs.Common.{◌≡◌, ◌++◌}
use Rattle.fr_base.specs.Proposals.{filled_places}
use Rattle.fr_base.specs.RefusedWishes.{frames_beside}
use Rattle.fr_world.specs.Counts.{is_freed}
use Rattle.fr_world.specs.Pages.{own_rows_of}
use Rattle.fr_world.proofs.FreedRows.{filled_entries}
use Rattle.fr_world.proofs.proposal.filled_cells.Given as goal

-- what the frames so far fill, and those that are left
abbrev pub invariant-loop-name : goal.invariant-loop-name
invariant-loop-name l = l.cells ++ filled_entries (is_freed l.replace l.reads) l.name-iterator ≡ filled_places (frames_beside (own_rows_of l.page) l.replace l.reads)
