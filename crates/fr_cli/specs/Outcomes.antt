-- Outcome: how a job ends by its answer, and what is printed of that.
use Rattle.std.specs.Prelude.{◌++◌, ◌==◌, ◌&&◌, ℕ, List, [], Bool, not, length, is_some, if◌then◌else◌, codes}
use Rattle.std.specs.List.{list_all, list_any}
use Rattle.std.specs.Result.{is_ok}
use Rattle.fr_base.specs.declared.answer.Answer.{Answer}
use Rattle.fr_base.specs.declared.answer.Answer.TheVariants.{Refused, RefusedRow, Report}
use Rattle.fr_base.specs.declared.answer.FateRow.{FateRow}
use Rattle.fr_base.specs.declared.answer.ReportRows.{ReportRows}
use Rattle.fr_base.specs.declared.answer.ReportRows.TheVariants.{Fates, Proposal as Proposed}
use Rattle.fr_base.specs.declared.proposal.Proposal.{Proposal}
use Rattle.fr_base.specs.declared.proposal.ProposalRow.{ProposalRow}
use Rattle.fr_text.specs.AnswerText.{report_of, text_of}
use Rattle.fr_text.specs.ProposalFiles.{file_lines, other_lines}
use Rattle.fr_text.specs.Styles.{plain_lines}
use Rattle.fr_cli.specs.declared.streams.outcome.Outcome.{Outcome}
use Rattle.fr_cli.specs.declared.streams.outcome.Outcome.TheVariants as outcome

-- whether one of these rows would be refused
abbrev pub has_refused_row : List FateRow → Bool
has_refused_row rows = list_any (λ row. is_some row.refusal) rows

-- whether each of these wishes has a placement
abbrev pub are_placed : List ProposalRow → Bool
are_placed rows = list_all (λ row. is_ok row.proposed) rows

-- whether each wish has a placement, and so no node lacks a slot
abbrev pub is_complete : Proposal → Bool
is_complete proposal = (length proposal.lacks == 0) && are_placed proposal.rows

-- what is reported is done, but for rows of a file of which one would be refused, and wishes of which one has no placement
abbrev pub outcome_of_rows : ReportRows → Outcome
outcome_of_rows (Fates rows) = if has_refused_row rows then outcome.RefusedRows else outcome.Done
outcome_of_rows (Proposed replaces proposal) = if is_complete proposal then outcome.Done else outcome.UnplacedWishes
outcome_of_rows rows = outcome.Done

abbrev pub outcome_of : Answer → Outcome
outcome_of (Refused refusal) = outcome.Refused
outcome_of (RefusedRow line refusal) = outcome.Refused
outcome_of (Report for_all rows) = outcome_of_rows rows
outcome_of answer = outcome.Done

-- the answer on a line of its own
abbrev pub line_of : Answer → List ℕ
line_of answer = text_of answer ++ codes "\n"

-- the file with which a supplier takes a proposal; where that is to replace and not each wish has a placement there is none, since it could not
-- name each frame
abbrev pub file_of : Bool → Proposal → List ℕ
file_of replaces proposal = if replaces && not (is_complete proposal) then [] else plain_lines (file_lines proposal)

-- what is printed of a report: its lines, and of a proposal its file
abbrev pub printed_of_rows : Bool → ReportRows → List ℕ
printed_of_rows for_all (Proposed replaces proposal) = file_of replaces proposal
printed_of_rows for_all rows = report_of (Report for_all rows)

-- what is printed of an answer: that of a report, or else the answer's line
abbrev pub printed_of : Answer → List ℕ
printed_of (Report for_all rows) = printed_of_rows for_all rows
printed_of answer = line_of answer

-- what a proposal says beside its file
abbrev pub beside_file : ReportRows → List ℕ
beside_file (Proposed replaces proposal) = plain_lines (other_lines proposal)
beside_file rows = []

-- what is said of an answer beside what is printed of it: of a proposal which wishes have no placement, and what is lacking
abbrev pub said_of : Answer → List ℕ
said_of (Report for_all rows) = beside_file rows
said_of answer = []
