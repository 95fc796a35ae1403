-- Laws of whole replacements: after one that was carried out, the supplier's frames of the variant have exactly what its
-- file says. What is taken afterwards is what was sent.
use Rattle.std.specs.Prelude.{◌≡◌, ◌⊎◌, ◌≤◌, ⊤, ℕ, true, List, [], ◌∷◌, map, length, Option, Some, None, Ok, is_some, is_err, IsTrue, IsFalse, if◌then◌else◌}
use Rattle.std.specs.List.{flat_map, list_all, list_any}
use Rattle.fr_base.specs.Tables.{from_rows, get}
use Rattle.fr_base.specs.Names.{same_text}
use Rattle.fr_base.specs.Signals.{SignalData}
use Rattle.fr_base.specs.Cluster.{Cluster}
use Rattle.fr_base.specs.Book.{Frame, Variant, Book}
use Rattle.fr_base.specs.Brought.{nodes_for, placements_for, signals_for, put_in}
use Rattle.fr_base.specs.Exports.{frame_records, placement_records, signal_records, exported}
use Rattle.fr_base.specs.ExportedLaws.{exported_rows, ReadsAs}
use Rattle.fr_base.specs.ImportRows.{header_of_body, rows_of_body}
use Rattle.fr_base.specs.ReplacingLaws.{is_named}
use Rattle.fr_base.specs.Seen.{seen_frames}
use Rattle.fr_base.specs.Sound.{IsSound}
use Rattle.fr_base.specs.Step.{frame_at, knows, step}
use Rattle.fr_base.specs.declared.limits.TheConstants.{MAX_IMPORT_BYTES}
use Rattle.fr_base.specs.declared.answer.Answer.TheVariants.{Replaced}
use Rattle.fr_base.specs.declared.answer.ReportRows.TheVariants.{FrameRecords, PlacementRecords, SignalRecords}
use Rattle.fr_base.specs.declared.actor.Actor.TheVariants.{Supplier}
use Rattle.fr_base.specs.declared.import.Header.{Header}
use Rattle.fr_base.specs.declared.import.Header.TheVariants.{Frames, Placements, Signals}
use Rattle.fr_base.specs.declared.import.Row.{Row}
use Rattle.fr_base.specs.declared.import.RowRead.{RowRead}
use Rattle.fr_base.specs.declared.name.Name.{Name}
use Rattle.fr_base.specs.declared.placement.Placement.{Placement}
use Rattle.fr_base.specs.declared.request.Request.TheVariants.{Deliver}
use Rattle.fr_base.specs.declared.delivery.Purpose.TheVariants as purpose

-- ---- the frames

-- a frame of the node, with these placements and no signals
abbrev pub new_frame : Name → List Placement → Frame
new_frame n placements = record { node = n; placements = from_rows (map (λ q. (q, tt)) placements); signals = [] }

-- below the header of frames: no frame where no row names it; else a frame of the first node that is named, as it was
-- before if it was of this node
abbrev pub frame_of_file : List Name → Option Frame → Option Frame
frame_of_file [] before = None
frame_of_file (n ∷ nodes) None = Some (new_frame n [])
frame_of_file (n ∷ nodes) (Some frame) = if same_text n frame.node then Some frame else Some (new_frame n [])

-- below the header of placements: the frame that was there, with its node and signals, or else a new one of the first node
-- that is named; its placements are those of the rows
abbrev pub placed_by_file : List Name → List Placement → Option Frame → Option Frame
placed_by_file nodes placements (Some frame) = Some (record frame { placements = from_rows (map (λ q. (q, tt)) placements) })
placed_by_file (n ∷ nodes) placements None = Some (new_frame n placements)
placed_by_file [] placements None = None

-- below the header of signals: the frame that was there, with its node and placements; its signals are those of the rows
abbrev pub signalled_by_file : List SignalData → Option Frame → Option Frame
signalled_by_file signals (Some frame) = Some (record frame { signals = put_in [] signals })
signalled_by_file signals None = None

-- what the rows of a whole file make of the supplier's frame, which they may name
abbrev pub made_by_file : Header → List RowRead → Name → Option Frame → Option Frame
made_by_file Frames reads f before = frame_of_file (nodes_for f reads) before
made_by_file Placements reads f before = placed_by_file (nodes_for f reads) (placements_for f reads) before
made_by_file Signals reads f before = signalled_by_file (signals_for f reads) before

-- each row that names a node for the frame names the one that it has
abbrev pub IsOfItsNode : List RowRead → Name → Option Frame → Type 0
IsOfItsNode reads f after = (frame : Frame) → after ≡ Some frame → IsTrue (list_all (same_text frame.node) (nodes_for f reads))

-- Each of the supplier's frames of the variant has in the book after what the file makes of it. One that a row names is there.
abbrev pub IsOfFile : Book → Name → Name → Header → List RowRead → Book → Type 0
IsOfFile b s v kind reads after = (f : Name) →
    (frame_at after s v f ≡ made_by_file kind reads f (frame_at b s v f))
    × IsOfItsNode reads f (frame_at after s v f)
    × (IsTrue (is_named f reads) → IsTrue (is_some (frame_at after s v f)))

-- A whole replacement was answered Replaced, with so many rows. Then its file has a header that is known, and so many rows,
-- and none of them is refused. The supplier's frames are what the file says.
abbrev pub WholeIsFiled : Type 0
WholeIsFiled = (c : Cluster) (b : Book) (s : Name) (variant body : List ℕ) (rows : ℕ) →
    (step c b (Supplier s) (Deliver variant (purpose.Replacement true) body)).answer ≡ Replaced rows →
    (length (rows_of_body c.params body) ≡ rows)
    × IsFalse (list_any (λ read. is_err read.row) (rows_of_body c.params body))
    × ((kind : Header) × (header_of_body body ≡ Some kind)
    × IsOfFile b s variant kind (rows_of_body c.params body) (step c b (Supplier s) (Deliver variant (purpose.Replacement true) body)).book)

-- ---- what is taken afterwards

-- a thing is one of these
abbrev pub IsAmong : {X : Type 0} → X → List X → Type 0
IsAmong x [] = ⊥
IsAmong x (y ∷ ys) = (y ≡ x) ⊎ IsAmong x ys

-- none of these stands there twice
abbrev pub EachOnce : {X : Type 0} → List X → Type 0
EachOnce [] = ⊤
EachOnce (x ∷ xs) = (IsAmong x xs → ⊥) × EachOnce xs

-- all records of frames below a header, as rows of a file
abbrev pub all_records : Header → List ((Name × Name) × Frame) → List Row
all_records Frames frames = exported_rows (FrameRecords (flat_map frame_records frames))
all_records Placements frames = exported_rows (PlacementRecords (flat_map placement_records frames))
all_records Signals frames = exported_rows (SignalRecords (flat_map signal_records frames))

-- The records of these frames are the rows of the file, and no others. Each of them stands there once.
pub record AreTheRows (kind : Header) (reads : List RowRead) (frames : List ((Name × Name) × Frame)) : Type 0 where
  pub taken : (row : Row) → IsAmong row (all_records kind frames) → IsAmong (Ok row) (map (λ read. read.row) reads)
  pub sent : (row : Row) → IsAmong (Ok row) (map (λ read. read.row) reads) → IsAmong row (all_records kind frames)
  pub once : EachOnce (all_records kind frames)

-- A whole replacement in a sound book was answered Replaced. Then the export of this kind has the rows of its file and no
-- others, each once: what is taken afterwards is what was sent.
abbrev pub TakenIsSent : Type 0
TakenIsSent = (c : Cluster) (b : Book) (s : Name) (variant body : List ℕ) (kind : Header) (rows : ℕ) (x : Variant) → IsSound c b →
    (step c b (Supplier s) (Deliver variant (purpose.Replacement true) body)).answer ≡ Replaced rows →
    header_of_body body ≡ Some kind →
    get (step c b (Supplier s) (Deliver variant (purpose.Replacement true) body)).book.variants variant ≡ Some x →
    AreTheRows kind (rows_of_body c.params body) (seen_frames (Supplier s) x.frames).rows

-- ---- an export that comes back

-- In a sound book a supplier sends a whole replacement for an open variant. Its file has the header and the rows of part 0
-- of the supplier's export of this variant, and part 1 has no record. It changes nothing, and is answered Replaced, with as
-- many rows as the file has.
abbrev pub WholeExportChangesNothing : Type 0
WholeExportChangesNothing = (c : Cluster) (b : Book) (s v : Name) (x : Variant) (header : Header) (body : List ℕ) →
    IsSound c b → IsTrue (knows b (Supplier s)) → get b.variants v ≡ Some x → IsFalse x.released →
    length body ≤ MAX_IMPORT_BYTES → header_of_body body ≡ Some header →
    ReadsAs c.params body (exported_rows (exported header 0 (seen_frames (Supplier s) x.frames).rows)) →
    exported_rows (exported header 1 (seen_frames (Supplier s) x.frames).rows) ≡ [] →
    step c b (Supplier s) (Deliver v (purpose.Replacement true) body)
    ≡ record { book = b; answer = Replaced (length (exported_rows (exported header 0 (seen_frames (Supplier s) x.frames).rows))) }
