use Rattle.std.proofs.Common.{◌≡◌, ◌++◌, take}
use Rattle.std.specs.List.{filter_map}
use Rattle.fr_text.specs.ProposalFiles.{record_of}
use Rattle.fr_text.specs.Styles.{plain_lines}
use Rattle.fr_text.proofs.report.proposal.push_placed.Given as goal

-- the lines of the rows up to here
abbrev pub invariant-loop-row : goal.invariant-loop-row
invariant-loop-row l = l.out.items ≡ l.initial.out.items ++ plain_lines (filter_map (λ row. record_of row.proposed) (take l.row-index l.rows))
