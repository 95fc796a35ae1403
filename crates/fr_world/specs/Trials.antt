-- Trial: the fate of each row of a file on a page. Each row is decided on the rows that those
-- before it left, and a refused row leaves them as they were.
use Rattle.std.specs.Prelude.{◌≡◌, List, [], ◌∷◌, Option, Some, None, Result, Ok, Err}
use Rattle.fr_base.specs.Refusing.{◌>>=◌}
use Rattle.fr_base.specs.ImportRows.{up_to_refused}
use Rattle.fr_base.specs.Step.{fate_of, whole_of}
use Rattle.fr_base.specs.declared.answer.FateRow.{FateRow}
use Rattle.fr_base.specs.declared.import.Header.{Header}
use Rattle.fr_base.specs.declared.import.Row.{Row}
use Rattle.fr_base.specs.declared.import.RowRead.{RowRead}
use Rattle.fr_base.specs.declared.refusal.Refusal.{Refusal}
use Rattle.fr_base.specs.declared.delivery.Manner.{Manner}
use Rattle.fr_base.specs.declared.delivery.Manner.TheVariants as manner
use Rattle.fr_world.specs.Pages.{PageData}
use Rattle.fr_world.specs.ReplacementDecisions.{begun, replace_row}
use Rattle.fr_world.specs.RowDecisions.{DraftData, draft_of, make_row}

-- what a row of a file does, as an import or as a replacement
abbrev pub try_row : Manner → DraftData → Row → Result DraftData Refusal
try_row (manner.Replace whole) d row = replace_row d row
try_row manner.Import d row = make_row d row

-- The draft after a row is what the row made of the one before, or the same where a refusal says
-- why.
abbrev pub IsMade : DraftData → DraftData → Result DraftData Refusal → Option Refusal → Type 0
IsMade old new made None = made ≡ Ok new
IsMade old new made (Some refusal) = (made ≡ Err refusal) × (new ≡ old)

-- the fate of a row as it was read, and the draft after it
unfoldable pub read_fate : Manner → DraftData → RowRead → DraftData × FateRow
read_fate how d read = fate_of d read.line (read.row >>= try_row how d)

-- the fates of the rows in turn
unfoldable pub fates_of : Manner → DraftData → List RowRead → List FateRow
fates_of how d [] = []
fates_of how d (read ∷ rest) = (read_fate how d read).1 ∷ fates_of how (read_fate how d read).0 rest

-- the page on which the first row is decided; for a replacement the frames were freed that the rows
-- name which come before the first row that its own text refuses, or all where it is whole
abbrev pub tried : Manner → DraftData → Option Header → List RowRead → DraftData
tried (manner.Replace whole) d header reads = begun d (whole_of whole header) (up_to_refused reads)
tried manner.Import d header reads = d

-- the fates of the rows of a file with this header on a page
unfoldable pub trial : Manner → PageData → Option Header → List RowRead → List FateRow
trial how page header reads = fates_of how (tried how (draft_of page) header reads) reads
