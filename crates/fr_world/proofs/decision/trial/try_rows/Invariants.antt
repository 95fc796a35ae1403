use Rattle.std.proofs.Common.{◌≡◌, ◌++◌, drop}
use Rattle.fr_world.specs.Drafts.{draft_data}
use Rattle.fr_world.specs.Trials.{fates_of, trial}
use Rattle.fr_world.proofs.decision.trial.try_rows.Given as goal

-- What became of the rows so far, and what becomes of those that are left on the draft to which they led.
abbrev pub invariant-loop-read : goal.invariant-loop-read
invariant-loop-read l =
    (l.fates ++ fates_of l.how (draft_data l.draft) (drop l.read-index l.rows) ≡ trial l.fn.how l.fn.page l.fn.header l.fn.rows) × (l.draft.page.params ≡ l.fn.page.params)
