use Rattle.std.proofs.Common.{◌≡◌, ◌++◌, take}
use Rattle.fr_world.specs.PageEdits.{frame_edits}
use Rattle.fr_world.proofs.decision.page_edits.push_edits.Given as goal

-- the edits of the changes before were appended
abbrev pub invariant-loop-change : goal.invariant-loop-change
invariant-loop-change l = l.edits.items ≡ l.fn.edits.items ++ frame_edits l.page.supplier l.page.variant l.frame (take l.change-index l.changes)
