use Rattle.std.proofs.Common.{◌≡◌, drop}
use Rattle.fr_world.specs.Drafts.{draft_data}
use Rattle.fr_world.specs.Pages.{own_rows_of}
use Rattle.fr_world.specs.ReplacementDecisions.{AreAdmitted, with_changes}
use Rattle.fr_world.proofs.decision.draft.Draft.make_all.Given as goal

-- The changes so far led to the draft, from which those that are left lead on, and whose page admits them.
abbrev pub invariant-loop-change : goal.invariant-loop-change
invariant-loop-change l =
    (with_changes (draft_data l.fn.self) l.fn.frame l.changes ≡ with_changes (draft_data l.self) l.fn.frame (drop l.change-index l.changes))
    × AreAdmitted (own_rows_of l.self.page) l.fn.frame (drop l.change-index l.changes)
