use Rattle.std.proofs.Common.{◌≡◌, ◌++◌, drop}
use Rattle.fr_base.specs.Keys.{owned}
use Rattle.fr_base.specs.RefusedWishes.{Counted, counted_frames, frames_beside, judge}
use Rattle.fr_base.specs.Tables.{Table}
use Rattle.fr_world.specs.Counts.{ShowCounts, is_freed}
use Rattle.fr_world.specs.Pages.{own_rows_of}
use Rattle.fr_world.proofs.proposal.refused.judged.Given as goal

-- what counts behind the wishes so far, and what becomes of those that are left
abbrev pub invariant-loop-read : goal.invariant-loop-read
invariant-loop-read l =
    (counted : Table owned Counted) × ShowCounts l.page (is_freed l.replace l.reads) l.counts counted
    × (l.judged.items ++ judge (own_rows_of l.page) counted (drop l.read-index l.reads) ≡ judge (own_rows_of l.page) (counted_frames (frames_beside (own_rows_of l.page) l.replace l.reads)) l.reads)
