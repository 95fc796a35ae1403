use Rattle.std.proofs.Common.{◌≡◌, [], ap, sym, ◌∙◌, rules}
use Rattle.std.specs.Prelude.{◌==◌, ◌&&◌, length}
use Rattle.fr_cli.specs.Outcomes.{are_placed}
use Rattle.fr_cli.proofs.streams.outcome.is_complete.Goals as goal

pub returns-then-is_empty : goal.returns-then-is_empty
returns-then-is_empty c =
    let proposal = c.args.proposal.now in
    let none : proposal.lacks ≡ [] = search rules in
    let placed : c.are_placed.result ≡ are_placed proposal.rows = search rules in
    placed ∙ sym (ap (λ lacks. (length lacks == 0) && are_placed proposal.rows) none)
