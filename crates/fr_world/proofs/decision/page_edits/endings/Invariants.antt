use Rattle.std.proofs.Common.{◌≡◌, map, take}
use Rattle.fr_world.specs.PageEdits.{ending}
use Rattle.fr_world.proofs.decision.page_edits.endings.Given as goal

-- the ends of the changes before
abbrev pub invariant-loop-change : goal.invariant-loop-change
invariant-loop-change l = l.ends.items ≡ map ending (take l.change-index l.changes)
