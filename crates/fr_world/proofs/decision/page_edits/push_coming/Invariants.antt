use Rattle.std.proofs.Common.{◌≡◌, ◌++◌}
use Rattle.fr_world.specs.PageEdits.{coming}
use Rattle.fr_world.specs.Pages.{own_rows_of}
use Rattle.fr_world.proofs.ClearingLaws.{entry_rows}
use Rattle.fr_world.proofs.decision.page_edits.push_coming.Given as goal

-- the edits of the frames before were appended, and those of the others are left
abbrev pub invariant-loop-name : goal.invariant-loop-name
invariant-loop-name l =
    l.edits.items ++ coming l.page.supplier l.page.variant (own_rows_of l.other).frames (entry_rows l.page.supplier l.name-iterator)
    ≡ l.fn.edits.items ++ coming l.page.supplier l.page.variant (own_rows_of l.other).frames (own_rows_of l.page).frames.rows
