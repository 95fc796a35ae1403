use Rattle.std.proofs.Common.{◌∙◌, sym}
use Rattle.fr_world.specs.Drafts.{draft_data}
use Rattle.fr_world.proofs.TrialRows.{refused-fate, made-fate}
use Rattle.fr_world.proofs.decision.trial.fate_of.Goals as goal
use Rattle.fr_world.proofs.decision.trial.fate_of.Goals.{in-Ok+in_ok-refusal-in-Ok, in-Err}

pub returns : goal.returns
returns c =
    let d = draft_data c.args.draft.now in
    elim c.match-read.branch [
      | in-Ok+in_ok-refusal-in-Ok w ↦
          made-fate d c.args.how c.args.read.now w.in-Ok.row (draft_data w.refusal_of.new.draft) w.in_ok-refusal-in-Ok.refusal w.in-Ok.is w.in_ok-refusal-in-Ok.ensures
          ∙ (λ i. (draft_data (sym w.draft-is i), record { line = c.args.read.now.line; refusal = sym w.refusal-is i }))
      | in-Err w ↦
          refused-fate d c.args.how c.args.read.now w.in-Err.refusal w.in-Err.is
          ∙ (λ i. (draft_data (sym w.draft-is i), record { line = c.args.read.now.line; refusal = sym w.refusal-is i }))
    ]
