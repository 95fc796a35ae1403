-- Export's laws: what a supplier is sent of an export is read as an import's file. Its rows are
-- exactly the records, none is refused, and the file is within the limits of an import. So, sent
-- back, it changes nothing; nor does a part that has all records, sent back as a whole. All parts,
-- imported elsewhere, bring the supplier's frames along.
use Rattle.std.specs.Prelude.{◌≡◌, ◌≢◌, ℕ, suc, ◌+◌, ◌≤◌, List, [], ◌∷◌, ◌++◌, map, length, true, false, Some, None, Ok, IsTrue, IsFalse, All, AllPairs}
use Rattle.fr_base.specs.Alone.{answers_to, book_after}
use Rattle.fr_base.specs.Book.{Variant, Book, own, own_grants}
use Rattle.fr_base.specs.Cluster.{Cluster}
use Rattle.fr_base.specs.ExportedLaws.{File, IsBroughtAlong, exported_rows, import_of}
use Rattle.fr_base.specs.ImportRows.{rows_of_body}
use Rattle.fr_base.specs.Names.{is_name}
use Rattle.fr_base.specs.Queries.{found}
use Rattle.fr_base.specs.Sound.{IsSound}
use Rattle.fr_base.specs.Step.{knows, step}
use Rattle.fr_base.specs.Tables.{empty, get, len}
use Rattle.fr_base.specs.declared.limits.TheConstants.{MAX_IMPORTS, MAX_IMPORT_BYTES, MAX_ROWS}
use Rattle.fr_base.specs.declared.name.Name.{Name}
use Rattle.fr_base.specs.declared.actor.Actor.TheVariants.{Supplier}
use Rattle.fr_base.specs.declared.answer.Answer.TheVariants.{Imported, Replaced, Report}
use Rattle.fr_base.specs.declared.answer.ReportRows.{ReportRows}
use Rattle.fr_base.specs.declared.import.Header.{Header}
use Rattle.fr_base.specs.declared.import.Header.TheVariants.{Frames, Placements, Signals}
use Rattle.fr_base.specs.declared.import.Row.{Row}
use Rattle.fr_base.specs.declared.import.RowRead.{RowRead}
use Rattle.fr_base.specs.declared.query.Query.TheVariants.{Variant as OfVariant}
use Rattle.fr_base.specs.declared.report.Report.TheVariants.{Export}
use Rattle.fr_base.specs.declared.request.Request.TheVariants.{Deliver}
use Rattle.fr_base.specs.declared.delivery.Purpose.TheVariants as purpose
use Rattle.fr_text.specs.AnswerText.{report_of}

-- the rows as they are read, none refused, the first of them at this line
unfoldable pub read_from : ℕ → List Row → List RowRead
read_from line [] = []
read_from line (row ∷ rest) = record { line = line; row = Ok row } ∷ read_from (suc line) rest

-- the lines that a supplier is sent
abbrev pub sent : ReportRows → List ℕ
sent rows = report_of (Report false rows)

-- a part of a supplier's export of the variant
abbrev pub IsExport : Cluster → Book → Name → Name → Header → ℕ → ReportRows → Type 0
IsExport c b s v header part rows = found c.params b (Supplier s) (OfVariant v (Export header part)) ≡ Ok rows

-- In a sound book the import reader reads exactly the records of what a supplier is sent of an
-- export. None is refused, and there are at most 512; the header is line 1.
abbrev pub ExportIsReadBack : Type 0
ExportIsReadBack = (c : Cluster) (b : Book) (s v : Name) (header : Header) (part : ℕ) (rows : ReportRows) → IsSound c b → IsExport c b s v header part rows
    → (rows_of_body c.params (sent rows) ≡ read_from 2 (exported_rows rows)) × (length (exported_rows rows) ≤ MAX_ROWS)

-- What a supplier is sent of an export has no more bytes than an import's file may have.
abbrev pub ExportIsWithinBytes : Type 0
ExportIsWithinBytes = (c : Cluster) (b : Book) (s v : Name) (header : Header) (part : ℕ) (rows : ReportRows) → IsSound c b → IsExport c b s v header part rows
    → length (sent rows) ≤ MAX_IMPORT_BYTES

-- In a sound book a supplier sends back what it was sent of a part of its own export of an open
-- variant, of any kind, as a replacement there. It changes nothing, and is answered Replaced, with
-- the count of its rows.
abbrev pub SentBackChangesNothing : Type 0
SentBackChangesNothing = (c : Cluster) (b : Book) (s v : Name) (x : Variant) (header : Header) (part : ℕ) (rows : ReportRows) →
    IsSound c b → IsTrue (knows b (Supplier s)) → get b.variants v ≡ Some x → IsFalse x.released → IsExport c b s v header part rows
    → step c b (Supplier s) (Deliver v (purpose.Replacement false) (sent rows)) ≡ record { book = b; answer = Replaced (length (exported_rows rows)) }

-- In a sound book a supplier sends back what it was sent of part 0 of its own export of an open
-- variant, of any kind, as a whole replacement there. Part 1 has no record. It changes nothing, and
-- is answered Replaced, with the count of its rows.
abbrev pub SentWholeChangesNothing : Type 0
SentWholeChangesNothing = (c : Cluster) (b : Book) (s v : Name) (x : Variant) (header : Header) (rows behind : ReportRows) →
    IsSound c b → IsTrue (knows b (Supplier s)) → get b.variants v ≡ Some x → IsFalse x.released →
    IsExport c b s v header 0 rows → IsExport c b s v header 1 behind → exported_rows behind ≡ []
    → step c b (Supplier s) (Deliver v (purpose.Replacement true) (sent rows)) ≡ record { book = b; answer = Replaced (length (exported_rows rows)) }

-- ---- elsewhere

-- The files are what the supplier is sent of its export of the variant, of this kind, from this
-- part on, one part a file. They go to the last part: behind them the export has no records.
abbrev pub AreSentFrom : Cluster → Book → Name → Name → Header → ℕ → List File → Type 0
AreSentFrom c b s v header part [] = (rows : ReportRows) × IsExport c b s v header part rows × (exported_rows rows ≡ [])
AreSentFrom c b s v header part (file ∷ files) =
    ((rows : ReportRows) × IsExport c b s v header part rows × (file.body ≡ sent rows)) × AreSentFrom c b s v header (suc part) files

-- The labels of the files are names, no two alike. The supplier keeps nothing under them, and may
-- keep so many imports more.
pub record MayBeLabelled (b : Book) (s : Name) (files : List File) : Type 0 where
  pub names : All (λ file. IsTrue (is_name file.label)) files
  pub free : All (λ file. get b.imports (s, file.label) ≡ None) files
  pub apart : AllPairs (λ f g. f.label ≢ g.label) files
  pub room : len (own s b.imports) + length files ≤ MAX_IMPORTS

-- In a sound book a variant is open, and in it the supplier has no frames. It has the nodes and
-- grants that it has in another variant, of this or of another sound register with the same
-- parameters. The supplier is sent all parts of its exports of the other variant and imports them
-- here: first those of the frames, then those of the placements, then those of the signals. Each
-- import is answered Imported, with as many rows as it has. In the end the supplier's frames are
-- those of the other variant, and all else of this one is as before.
abbrev pub SentIsImported : Type 0
SentIsImported = (c e : Cluster) (b d : Book) (s v w : Name) (x y : Variant) (frames placements signals : List File) →
    IsSound c b → IsSound e d → c.params ≡ e.params → IsTrue (knows b (Supplier s)) →
    get d.variants w ≡ Some x → get b.variants v ≡ Some y → IsFalse y.released →
    own s b.nodes ≡ own s d.nodes → own_grants s y.grants ≡ own_grants s x.grants → own s y.frames ≡ empty →
    AreSentFrom e d s w Frames 0 frames → AreSentFrom e d s w Placements 0 placements → AreSentFrom e d s w Signals 0 signals →
    MayBeLabelled b s (frames ++ (placements ++ signals)) →
    (answers_to c b (map (import_of s v) (frames ++ (placements ++ signals)))
    ≡ map (λ file. Imported (length (rows_of_body c.params file.body))) (frames ++ (placements ++ signals)))
    × IsBroughtAlong s x y v (book_after c b (map (import_of s v) (frames ++ (placements ++ signals))))
