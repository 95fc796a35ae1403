use Rattle.std.proofs.Common.{◌≡◌, map, take}
use Rattle.fr_base.specs.Proposals.{proposal_row}
use Rattle.fr_world.proofs.proposal.proposal_rows.Given as goal

-- those before
abbrev pub invariant-loop-read : goal.invariant-loop-read
invariant-loop-read l = l.rows ≡ map (proposal_row l.given) (take l.read-index l.reads)
