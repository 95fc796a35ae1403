use Rattle.std.proofs.Common.{◌≡◌, ◌++◌, not, map, filter}
use Rattle.fr_base.specs.declared.request.FrameChange.TheVariants.{Place}
use Rattle.fr_world.specs.PageEdits.{has_place, lent_frame}
use Rattle.fr_world.proofs.decision.page_edits.push_placements.Given as goal

-- those of the placements before were appended, and those of the others are left
abbrev pub invariant-loop-placement : goal.invariant-loop-placement
invariant-loop-placement l =
    l.changes.items ++ map Place (filter (λ q. not (has_place (lent_frame l.other) q)) l.placement-iterator)
    ≡ l.fn.changes.items ++ map Place (filter (λ q. not (has_place (lent_frame l.other) q)) l.frame.placements.keys)
