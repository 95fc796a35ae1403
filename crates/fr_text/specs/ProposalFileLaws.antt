-- Law of a proposal's file: it is read as an import's file. Its rows are exactly the placements that are proposed, in the order of the wishes, none is
-- refused, and the file is within the limits of an import.
use Rattle.std.specs.Prelude.{◌≡◌, ℕ, ◌≤◌, List, map, length, Option, Some, None, Result, Ok, Err, IsTrue}
use Rattle.std.specs.List.{AllByRecursion, filter_map}
use Rattle.fr_base.specs.ImportRows.{rows_of_body}
use Rattle.fr_base.specs.Names.{is_name}
use Rattle.fr_base.specs.Parameters.{check_params}
use Rattle.fr_base.specs.Sound.{FitsCluster}
use Rattle.fr_base.specs.declared.import.Row.{Row}
use Rattle.fr_base.specs.declared.import.Row.TheVariants.{Place}
use Rattle.fr_base.specs.declared.limits.TheConstants.{MAX_IMPORT_BYTES, MAX_ROWS}
use Rattle.fr_base.specs.declared.params.Params.{Params}
use Rattle.fr_base.specs.declared.proposal.Proposal.{Proposal}
use Rattle.fr_base.specs.declared.proposal.ProposedPlacement.{ProposedPlacement}
use Rattle.fr_base.specs.declared.refusal.Refusal.{Refusal}
use Rattle.fr_text.specs.ExportLaws.{read_from}
use Rattle.fr_text.specs.ProposalFiles.{file_lines}
use Rattle.fr_text.specs.Styles.{plain_lines}

-- the placement that is proposed, if one is
abbrev pub placed_of : Result ProposedPlacement Refusal → Option ProposedPlacement
placed_of (Ok placed) = Some placed
placed_of (Err refusal) = None

-- the placements that are proposed, in the order of the wishes
abbrev pub placements_of : Proposal → List ProposedPlacement
placements_of proposal = filter_map (λ row. placed_of row.proposed) proposal.rows

-- the row by which a placement is imported
abbrev pub row_of_placed : ProposedPlacement → Row
row_of_placed placed = Place placed.frame placed.node placed.placement

-- The placement may stand in the cluster, its frame and its node have names.
abbrev pub MayStand : Params → ProposedPlacement → Type 0
MayStand p placed = IsTrue (is_name placed.frame) × IsTrue (is_name placed.node) × FitsCluster p placed.placement

-- the file with which a supplier takes a proposal
abbrev pub file_text_of : Proposal → List ℕ
file_text_of proposal = plain_lines (file_lines proposal)

-- Of at most 512 placements that may stand in the cluster the import reader reads exactly these, and the file has no more bytes than an import's file may
-- have.
abbrev pub ProposedIsReadBack : Type 0
ProposedIsReadBack = (p : Params) (proposal : Proposal) → check_params p ≡ Ok p → AllByRecursion (MayStand p) (placements_of proposal) → length (placements_of proposal) ≤ MAX_ROWS
    → (rows_of_body p (file_text_of proposal) ≡ read_from 2 (map row_of_placed (placements_of proposal))) × (length (file_text_of proposal) ≤ MAX_IMPORT_BYTES)
