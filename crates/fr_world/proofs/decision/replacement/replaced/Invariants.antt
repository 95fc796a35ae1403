use Rattle.std.proofs.Common.{◌≡◌, drop}
use Rattle.fr_world.specs.Drafts.{draft_data}
use Rattle.fr_world.specs.ReplacementDecisions.{begun, replace_rows}
use Rattle.fr_world.specs.RowDecisions.{draft_of}
use Rattle.fr_world.proofs.decision.replacement.replaced.Given as goal

-- The rows so far led to the draft, from which those that are left lead on.
abbrev pub invariant-loop-read : goal.invariant-loop-read
invariant-loop-read l =
    (replace_rows (begun (draft_of l.fn.page) l.fn.whole l.rows) l.rows ≡ replace_rows (draft_data l.draft) (drop l.read-index l.rows)) × (l.draft.page.params ≡ l.fn.page.params)
