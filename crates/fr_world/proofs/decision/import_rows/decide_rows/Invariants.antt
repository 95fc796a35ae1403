-- The rows so far led to the draft, from which those that are left lead on.
use Rattle.std.proofs.Common.{◌≡◌, drop}
use Rattle.fr_world.specs.Drafts.{draft_data}
use Rattle.fr_world.specs.RowDecisions.{draft_of, make_rows}
use Rattle.fr_world.proofs.decision.import_rows.decide_rows.Given as goal

abbrev pub invariant-loop-read : goal.invariant-loop-read
invariant-loop-read l =
    (make_rows (draft_of l.fn.page) l.rows ≡ make_rows (draft_data l.draft) (drop l.read-index l.rows)) × (l.draft.page.params ≡ l.fn.page.params)
