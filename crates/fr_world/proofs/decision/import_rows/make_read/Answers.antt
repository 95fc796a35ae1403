use Rattle.std.proofs.Common.{◌≢◌, inl, inr, rules, tests}
use Rattle.fr_base.specs.declared.refusal.Refusal.TheVariants.{Unavailable}
use Rattle.fr_world.specs.Drafts.{draft_data}
use Rattle.fr_world.proofs.DraftRows.{read-refused, read-made, row-refused}
use Rattle.fr_world.proofs.decision.import_rows.make_read.Goals as goal

pub returns-in-Err-clause-fault : goal.returns-in-Err-clause-fault
returns-in-Err-clause-fault c = read-refused (draft_data c.args.draft.now) c.args.read.now c.in-Err.refusal c.in-Err.is

pub returns-in-Ok-make_row-clause-ok : goal.returns-in-Ok-make_row-clause-ok
returns-in-Ok-make_row-clause-ok c =
    read-made (draft_data c.args.draft.now) c.args.read.now c.in-Ok.row (draft_data c.make_row.new.self) c.in-Ok.is c.in-Ok-make_row.ensures.ok

pub returns-in-Err-2-clause-fault : goal.returns-in-Err-2-clause-fault
returns-in-Err-2-clause-fault c =
    let refusal = c.in-Err-make_row.refusal in
    let other : refusal ≢ Unavailable = search (rules, tests) in
    row-refused (draft_data c.args.draft.now) c.args.read.now c.in-Ok.row refusal c.in-Ok.is
    (elim c.in-Err-make_row.ensures.err [ inl lacked ↦ absurd (other lacked) | inr is ↦ is ])
