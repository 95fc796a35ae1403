use Rattle.std.proofs.Common.{◌≢◌, inl, inr, rules, tests}
use Rattle.fr_base.specs.declared.refusal.Refusal.TheVariants.{Unavailable}
use Rattle.fr_world.specs.Drafts.{draft_data}
use Rattle.fr_world.proofs.ReplacementRows.{replace-refused, replace-made, replace-row_refused}
use Rattle.fr_world.proofs.decision.replacement.replace_read.Goals as goal

pub returns-in-Err-clause-fault : goal.returns-in-Err-clause-fault
returns-in-Err-clause-fault c = replace-refused (draft_data c.args.draft.now) c.args.read.now c.in-Err.refusal c.in-Err.is

pub returns-in-Ok-replace_row-clause-ok : goal.returns-in-Ok-replace_row-clause-ok
returns-in-Ok-replace_row-clause-ok c =
    replace-made (draft_data c.args.draft.now) c.args.read.now c.in-Ok.row (draft_data c.replace_row.new.self) c.in-Ok.is c.in-Ok-replace_row.ensures.ok

pub returns-in-Err-2-clause-fault : goal.returns-in-Err-2-clause-fault
returns-in-Err-2-clause-fault c =
    let refusal = c.in-Err-replace_row.refusal in
    let other : refusal ≢ Unavailable = search (rules, tests) in
    replace-row_refused (draft_data c.args.draft.now) c.args.read.now c.in-Ok.row refusal c.in-Ok.is
    (elim c.in-Err-replace_row.ensures.err [ inl lacked ↦ absurd (other lacked) | inr is ↦ is ])
