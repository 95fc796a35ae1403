use Rattle.std.proofs.Common.{◌≡◌, drop}
use Rattle.fr_world.specs.Drafts.{draft_data}
use Rattle.fr_world.specs.ReplacementDecisions.{clear_frames}
use Rattle.fr_world.proofs.decision.clearing.clear_all.Given as goal

-- The names so far led to the draft, from which those that are left lead on.
abbrev pub invariant-loop-name : goal.invariant-loop-name
invariant-loop-name l =
    clear_frames (draft_data l.fn.draft) l.kind l.rows l.name-items ≡ clear_frames (draft_data l.draft) l.kind l.rows (drop l.name-index l.name-items)
