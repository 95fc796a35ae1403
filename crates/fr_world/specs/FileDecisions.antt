-- Decision on a file: what a delivered file comes to on a page, by what it is delivered for. Its rows
-- act, up to the first that is refused by its own text, and come to edits or to a refused row; or the
-- fate of each of its rows is told.
use Rattle.std.specs.Prelude.{◌≡◌, Bool, true, false, List, [], Option, Result, Ok}
use Rattle.std.specs.List.{list_any}
use Rattle.fr_base.specs.ImportRows.{up_to_refused}
use Rattle.fr_base.specs.Step.{RefusedAt, whole_of}
use Rattle.fr_base.specs.declared.delivery.Manner.{Manner}
use Rattle.fr_base.specs.declared.delivery.Purpose.{Purpose}
use Rattle.fr_base.specs.declared.delivery.Purpose.TheVariants.{Import, Proposal, Replacement, Trial}
use Rattle.fr_base.specs.declared.import.Header.{Header}
use Rattle.fr_base.specs.declared.import.RowRead.{RowRead}
use Rattle.fr_world.specs.Drafts.{IsOfSame}
use Rattle.fr_world.specs.Edits.{Leads, releases}
use Rattle.fr_world.specs.Pages.{PageData, own_rows_of}
use Rattle.fr_world.specs.ReplacementDecisions.{replacement_decision}
use Rattle.fr_world.specs.RowDecisions.{rows_decision}
use Rattle.fr_world.specs.Trials.{trial}
use Rattle.fr_world.specs.declared.decision.draft.Draft.{Draft}
use Rattle.fr_world.specs.declared.decision.file.FileDecision.{FileDecision}
use Rattle.fr_world.specs.declared.decision.file.FileDecision.TheVariants.{Acts, Told}
use Rattle.fr_world.specs.declared.edit.Edit.{Edit}

abbrev pub is_trial : {N : Type 0} → Purpose N → Bool
is_trial (Trial manner) = true
is_trial _ = false

-- whether a proposal is asked for: then the file has wishes, and no rows
abbrev pub is_proposal : {N : Type 0} → Purpose N → Bool
is_proposal (Proposal replace) = true
is_proposal _ = false

-- the edits that the rows of a file with this header are decided to, or the first refused row; those of a trial come to none
abbrev pub file_edits : {N : Type 0} → Purpose N → PageData → Option Header → List RowRead → Result (List Edit) RefusedAt
file_edits (Import label) page header reads = rows_decision page (up_to_refused reads)
file_edits (Replacement whole) page header reads = replacement_decision page (whole_of whole header) (up_to_refused reads)
file_edits (Trial manner) page header reads = Ok []
file_edits (Proposal replace) page header reads = Ok []

-- The rows act. The edits are those that they are decided to, and lead from the page to the draft's. A
-- replacement that leaves the page as it was makes none.
pub record IsActed {N : Type 0} (how : Purpose N) (page : PageData) (header : Option Header) (reads : List RowRead) (draft : Draft) : Type 0 where
  pub acts : is_trial how ≡ false
  pub edits : file_edits how page header reads ≡ Ok draft.edits.items
  pub leads : Leads page.variant (own_rows_of page) draft.edits.items (own_rows_of draft.page)
  pub same : IsOfSame page draft.page
  pub still : list_any releases draft.edits.items ≡ false
  pub none : (whole : Bool) → how ≡ Replacement whole → own_rows_of draft.page ≡ own_rows_of page → draft.edits.items ≡ []

-- The rows act, or the fate of each is told.
abbrev pub IsDecided : {N : Type 0} → Purpose N → PageData → Option Header → List RowRead → FileDecision → Type 0
IsDecided how page header reads (Acts draft) = IsActed how page header reads draft
IsDecided how page header reads (Told fates) = (manner : Manner) × (how ≡ Trial manner) × (fates ≡ trial manner page header reads)
