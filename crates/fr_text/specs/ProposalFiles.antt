-- Proposal's file: what a supplier imports, or replaces with, of a proposal, and what the proposal says beside it.
use Rattle.std.specs.Prelude.{ℕ, false, List, [], ◌∷◌, ◌++◌, map, Option, Some, None, is_err, Result, Ok, Err, if◌then◌else◌}
use Rattle.std.specs.List.{filter_map}
use Rattle.fr_base.specs.declared.import.Header.TheVariants.{Placements}
use Rattle.fr_base.specs.declared.proposal.Proposal.{Proposal}
use Rattle.fr_base.specs.declared.proposal.ProposalRow.{ProposalRow}
use Rattle.fr_base.specs.declared.proposal.ProposedPlacement.{ProposedPlacement}
use Rattle.fr_base.specs.declared.refusal.Refusal.{Refusal}
use Rattle.fr_text.specs.Report.{header_line, lack_line, proposal_line, proposed_record}

-- the record for a wish, if a placement is proposed for it
abbrev pub record_of : Result ProposedPlacement Refusal → Option (List ℕ)
record_of (Ok placed) = Some (proposed_record placed)
record_of (Err refusal) = None

-- the header of placements, and the records
unfoldable pub file_lines : Proposal → List (List ℕ)
file_lines proposal = header_line false Placements ∷ filter_map (λ row. record_of row.proposed) proposal.rows

-- the line of a wish for which no placement is proposed
abbrev pub refused_line : ProposalRow → Option (List ℕ)
refused_line row = if is_err row.proposed then Some (proposal_line row) else None

-- the lines of wishes for which none is proposed, and of the lacks
unfoldable pub other_lines : Proposal → List (List ℕ)
other_lines proposal = filter_map refused_line proposal.rows ++ map lack_line proposal.lacks
