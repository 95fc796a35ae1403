use Rattle.std.proofs.Common.{◌≡◌, drop}
use Rattle.fr_world.specs.Drafts.{draft_data}
use Rattle.fr_world.specs.ReplacementDecisions.{free_rows}
use Rattle.fr_world.proofs.decision.replacement.free_all.Given as goal

-- The rows so far led to the draft, from which those that are left lead on.
abbrev pub invariant-loop-read : goal.invariant-loop-read
invariant-loop-read l = free_rows (draft_data l.fn.draft) l.rows ≡ free_rows (draft_data l.draft) (drop l.read-index l.rows)
