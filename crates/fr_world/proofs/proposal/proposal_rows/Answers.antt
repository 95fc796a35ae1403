use Rattle.std.proofs.Common.{◌∙◌, ◌++◌, [], ◌∷◌, ap}
use Rattle.fr_base.specs.Proposals.{proposal_row}
use Rattle.fr_world.proofs.LoadLaws.{map-next}
use Rattle.fr_world.proofs.proposal.proposal_rows.Goals as goal

pub loop-read-preserved : goal.loop-read-preserved
unfolding proposal_row
loop-read-preserved c =
    let read = c.read-item.result in
    map-next (proposal_row c.args.given.now) c.args.reads.now c.loop-read.read-index read read [] c.loop-read.rows _ c.loop-read-test.true c.read-item.is c.loop-read.invariant
    (c.in_ok-push.ensures.ok ∙ (λ i. c.loop-read.rows ++ record { line = read.line; proposed = c.proposed-proposed.ensures i } ∷ []))
