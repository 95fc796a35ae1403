-- Laws of exports that come back: a part of a variant's own export changes nothing; and all parts of an export, imported elsewhere, bring
-- the supplier's frames along.
use Rattle.std.specs.Prelude.{◌≡◌, ◌≢◌, ℕ, suc, ◌+◌, ◌≤◌, false, List, [], ◌∷◌, ◌++◌, map, length, Some, None, Ok, IsTrue, IsFalse, All, AllPairs}
use Rattle.fr_base.specs.Alone.{answers_to, book_after}
use Rattle.fr_base.specs.Tables.{Table, empty, get, len}
use Rattle.fr_base.specs.Keys.{owned}
use Rattle.fr_base.specs.Cluster.{Cluster}
use Rattle.fr_base.specs.Names.{is_name}
use Rattle.fr_base.specs.Book.{Frame, Variant, Book, is_of, own, own_grants}
use Rattle.fr_base.specs.Exports.{exported}
use Rattle.fr_base.specs.ImportRows.{rows_of_body}
use Rattle.fr_base.specs.Seen.{seen_frames}
use Rattle.fr_base.specs.Sound.{IsSound}
use Rattle.fr_base.specs.Step.{knows, step}
use Rattle.fr_base.specs.declared.limits.TheConstants.{MAX_IMPORTS, MAX_IMPORT_BYTES}
use Rattle.fr_base.specs.declared.answer.Answer.TheVariants.{Imported, Replaced}
use Rattle.fr_base.specs.declared.answer.ReportRows.{ReportRows}
use Rattle.fr_base.specs.declared.answer.ReportRows.TheVariants.{FrameRecords, PlacementRecords, SignalRecords}
use Rattle.fr_base.specs.declared.actor.Actor.TheVariants.{Supplier}
use Rattle.fr_base.specs.declared.import.Header.{Header}
use Rattle.fr_base.specs.declared.import.Header.TheVariants.{Frames, Placements, Signals}
use Rattle.fr_base.specs.declared.import.Row.{Row}
use Rattle.fr_base.specs.declared.import.Row.TheVariants.{AddFrame, Place, AddSignal}
use Rattle.fr_base.specs.declared.name.Name.{Name}
use Rattle.fr_base.specs.declared.params.Params.{Params}
use Rattle.fr_base.specs.declared.request.Request.TheVariants.{Deliver}
use Rattle.fr_base.specs.declared.request.Ask.{Ask}
use Rattle.fr_base.specs.declared.delivery.Purpose.TheVariants as purpose

-- the records of an export as rows of a file; another report has none
abbrev pub exported_rows : ReportRows → List Row
exported_rows (FrameRecords records) = map (λ r. AddFrame r.frame r.node) records
exported_rows (PlacementRecords records) = map (λ r. Place r.frame r.node r.placement) records
exported_rows (SignalRecords records) = map (λ r. AddSignal r.frame r.signal) records
exported_rows _ = []

-- the body is read as these rows, of which none is refused
abbrev pub ReadsAs : Params → List ℕ → List Row → Type 0
ReadsAs p body rows = map (λ read. read.row) (rows_of_body p body) ≡ map Ok rows

-- In a sound book a supplier sends a replacement for an open variant. The rows of its file are
-- those of a part of the supplier's export of this variant, of any kind. It changes nothing, and is
-- answered Replaced, with as many rows as the file has.
abbrev pub OwnExportChangesNothing : Type 0
OwnExportChangesNothing = (c : Cluster) (b : Book) (s v : Name) (x : Variant) (header : Header) (part : ℕ) (body : List ℕ) →
    IsSound c b → IsTrue (knows b (Supplier s)) → get b.variants v ≡ Some x → IsFalse x.released →
    length body ≤ MAX_IMPORT_BYTES → ReadsAs c.params body (exported_rows (exported header part (seen_frames (Supplier s) x.frames).rows)) →
    step c b (Supplier s) (Deliver v (purpose.Replacement false) body)
    ≡ record { book = b; answer = Replaced (length (exported_rows (exported header part (seen_frames (Supplier s) x.frames).rows))) }

-- ---- elsewhere

-- a file to import: its label and its bytes
pub record File : Type 0 where
  pub label : List ℕ
  pub body : List ℕ

-- the supplier's import of it into the variant
abbrev pub import_of : Name → Name → File → Ask
import_of s v file = record { actor = Supplier s; request = Deliver v (purpose.Import file.label) file.body }

-- The files have the export's parts of this kind, from this part on, one part a file. They go to
-- the last part: behind them the export has no records.
abbrev pub ArePartsFrom : Params → Header → List ((Name × Name) × Frame) → ℕ → List File → Type 0
ArePartsFrom p header frames part [] = exported_rows (exported header part frames) ≡ []
ArePartsFrom p header frames part (file ∷ files) =
    ReadsAs p file.body (exported_rows (exported header part frames)) × ArePartsFrom p header frames (suc part) files

-- The files are within the limit. Their labels are names, no two alike. The supplier keeps nothing
-- under them, and may keep so many imports more.
pub record MayBeKept (b : Book) (s : Name) (files : List File) : Type 0 where
  pub bytes : All (λ file. length file.body ≤ MAX_IMPORT_BYTES) files
  pub names : All (λ file. IsTrue (is_name file.label)) files
  pub free : All (λ file. get b.imports (s, file.label) ≡ None) files
  pub apart : AllPairs (λ f g. f.label ≢ g.label) files
  pub room : len (own s b.imports) + length files ≤ MAX_IMPORTS

-- In the book the variant is as it was, but the supplier's frames are those of the other variant.
pub record IsBroughtAlong (s : Name) (other was : Variant) (v : Name) (b : Book) : Type 0 where
  pub frames : Table owned Frame
  pub there : get b.variants v ≡ Some (record was { frames = frames })
  pub mine : own s frames ≡ own s other.frames
  pub others : (k : Name × Name) → IsFalse (is_of s k) → get frames k ≡ get was.frames k

-- In a sound book a variant is open, and in it the supplier has no frames. It has the nodes and
-- grants that it has in another variant, of this or of another sound register with the same
-- parameters. The supplier imports the export of the other variant: first the parts of the frames,
-- then those of the placements, then those of the signals. Each import is answered Imported, with
-- as many rows as its file has. In the end the supplier's frames are those of the other variant,
-- and all else of the variant is as before.
abbrev pub ExportIsImported : Type 0
ExportIsImported = (c e : Cluster) (b d : Book) (s v w : Name) (x y : Variant) (frames placements signals : List File) →
    IsSound c b → IsSound e d → c.params ≡ e.params → IsTrue (knows b (Supplier s)) →
    get d.variants w ≡ Some x → get b.variants v ≡ Some y → IsFalse y.released →
    own s b.nodes ≡ own s d.nodes → own_grants s y.grants ≡ own_grants s x.grants → own s y.frames ≡ empty →
    ArePartsFrom c.params Frames (seen_frames (Supplier s) x.frames).rows 0 frames →
    ArePartsFrom c.params Placements (seen_frames (Supplier s) x.frames).rows 0 placements →
    ArePartsFrom c.params Signals (seen_frames (Supplier s) x.frames).rows 0 signals →
    MayBeKept b s (frames ++ (placements ++ signals)) →
    (answers_to c b (map (import_of s v) (frames ++ (placements ++ signals)))
    ≡ map (λ file. Imported (length (rows_of_body c.params file.body))) (frames ++ (placements ++ signals)))
    × IsBroughtAlong s x y v (book_after c b (map (import_of s v) (frames ++ (placements ++ signals))))
