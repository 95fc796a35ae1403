-- The parts of an export: each takes whole frames from where the part before ended, as many as give at
-- most 512 records. In a sound book they have each record once, and behind the last there is nothing.
-- A query is answered with its part.
use Rattle.std.specs.Prelude.{◌≡◌, ℕ, zero, suc, ◌+◌, ◌≤◌, ◌<◌, List, [], ◌∷◌, ◌++◌, map, length, Option, Some, None, Ok, IsTrue, ⊤}
use Rattle.std.specs.List.{flat_map}
use Rattle.fr_base.specs.Tables.{get}
use Rattle.fr_base.specs.Checks.{is_integrator, check}
use Rattle.fr_base.specs.Cluster.{Cluster}
use Rattle.fr_base.specs.Book.{Frame, Variant, Book}
use Rattle.fr_base.specs.Seen.{seen_frames}
use Rattle.fr_base.specs.Exports.{part_of, frame_records, placement_records, signal_records, exported}
use Rattle.fr_base.specs.Step.{knows, step}
use Rattle.fr_base.specs.Sound.{IsSound}
use Rattle.fr_base.specs.declared.limits.TheConstants.{MAX_ROWS}
use Rattle.fr_base.specs.declared.name.Name.{Name}
use Rattle.fr_base.specs.declared.actor.Actor.{Actor}
use Rattle.fr_base.specs.declared.import.Header.{Header}
use Rattle.fr_base.specs.declared.import.Header.TheVariants.{Frames, Placements, Signals}
use Rattle.fr_base.specs.declared.answer.Answer.{Answer}
use Rattle.fr_base.specs.declared.answer.Answer.TheVariants.{Report, Refused}
use Rattle.fr_base.specs.declared.answer.FrameRecord.{FrameRecord}
use Rattle.fr_base.specs.declared.answer.PlacementRecord.{PlacementRecord}
use Rattle.fr_base.specs.declared.answer.SignalRecord.{SignalRecord}
use Rattle.fr_base.specs.declared.answer.ReportRows.TheVariants.{FrameRecords, PlacementRecords, SignalRecords}
use Rattle.fr_base.specs.declared.refusal.Refusal.TheVariants.{NoVariant}
use Rattle.fr_base.specs.declared.request.Request.{Request}
use Rattle.fr_base.specs.declared.request.Request.TheVariants.{Query}
use Rattle.fr_base.specs.declared.query.Query.TheVariants.{Variant as OfVariant}
use Rattle.fr_base.specs.declared.report.Report.TheVariants.{Export}
use Rattle.fr_base.specs.declared.request.Checked.TheVariants as checked

-- ---- parts

-- the records of frames, one frame after another
abbrev pub all_of : {R : Type 0} → List (List R) → List R
all_of frames = flat_map (λ records. records) frames

-- the first so many of these lists, one after another
unfoldable pub joined : {R : Type 0} → (ℕ → List R) → ℕ → List R
joined part zero = []
joined part (suc n) = joined part n ++ part n

-- the parts of frames that have these records
abbrev pub parts : {R : Type 0} → List (List R) → ℕ → List R
parts frames n = part_of n frames

-- the first records leave no room for those of the next frame, if there is one
abbrev pub IsFull : {R : Type 0} → List R → List (List R) → Type 0
IsFull part [] = ⊤
IsFull part (records ∷ rest) = MAX_ROWS < length part + length records

-- The part of this number: behind the frames of the parts before it, it has the records of whole
-- frames, at most 512, and no room for those of the next frame.
pub record IsPart {R : Type 0} (frames : List (List R)) (n : ℕ) : Type 0 where
  pub before : List (List R)
  pub taken : List (List R)
  pub behind : List (List R)
  pub frame_by_frame : frames ≡ before ++ (taken ++ behind)
  pub starts : joined (parts frames) n ≡ all_of before
  pub has : part_of n frames ≡ all_of taken
  pub few : length (part_of n frames) ≤ MAX_ROWS
  pub full : IsFull (part_of n frames) behind

-- The parts have all the records of so many frames. Where a part has none, those before it have all
-- records, each once and in order. Behind as many parts as there are frames, each part has none.
pub record HaveAll {R : Type 0} (part : ℕ → List R) (frames : ℕ) (all : List R) : Type 0 where
  pub each_once : (n : ℕ) → part n ≡ [] → joined part n ≡ all
  pub end : (n : ℕ) → frames ≤ n → part n ≡ []

-- each part is as it should be, and together they have all records
abbrev pub AreParts : {R : Type 0} → List (List R) → Type 0
AreParts frames = ((n : ℕ) → IsPart frames n) × HaveAll (parts frames) (length frames) (all_of frames)

-- the frames that an actor sees of a variant
abbrev pub frames_seen : Actor → Variant → List ((Name × Name) × Frame)
frames_seen actor x = (seen_frames actor x.frames).rows

-- In a sound book the export of the frames that an actor sees of a variant has such parts, for each
-- kind of records.
abbrev pub ExportHasParts : Type 0
ExportHasParts = (c : Cluster) (b : Book) (v : Name) (x : Variant) (actor : Actor) → IsSound c b →
    get b.variants v ≡ Some x →
    AreParts (map frame_records (frames_seen actor x))
    × AreParts (map placement_records (frames_seen actor x))
    × AreParts (map signal_records (frames_seen actor x))

-- ---- what is told

-- what an actor is answered of a part of the variant's records below a header
abbrev pub export_told : Actor → Header → ℕ → Option Variant → Answer
export_told actor header part None = Refused NoVariant
export_told actor header part (Some x) =
    Report (is_integrator actor) (exported header part (frames_seen actor x))

-- In any book an actor that is known is told the part of this number of the frames that it sees.
abbrev pub ExportIsTold : Type 0
ExportIsTold = (c : Cluster) (b : Book) (actor : Actor) (v : Name) (header : Header) (part : ℕ) (request : Request) →
    IsTrue (knows b actor) → check c.params actor request ≡ Ok (checked.Query (OfVariant v (Export header part))) →
    step c b actor request ≡ record { book = b; answer = export_told actor header part (get b.variants v) }

-- the records of an answer, if they are of frames
abbrev pub frames_told : Answer → List FrameRecord
frames_told (Report all (FrameRecords records)) = records
frames_told _ = []

-- the records of an answer, if they are of placements
abbrev pub placements_told : Answer → List PlacementRecord
placements_told (Report all (PlacementRecords records)) = records
placements_told _ = []

-- the records of an answer, if they are of signals
abbrev pub signals_told : Answer → List SignalRecord
signals_told (Report all (SignalRecords records)) = records
signals_told _ = []

-- the answer to a query of a part
abbrev pub part_told : Cluster → Book → Actor → List ℕ → Header → ℕ → Answer
part_told c b actor variant header part = (step c b actor (Query (OfVariant variant (Export header part)))).answer

-- A part tells at most 512 records, whoever asks, of whatever variant, in any book.
abbrev pub FewRecordsAreTold : Type 0
FewRecordsAreTold = (c : Cluster) (b : Book) (actor : Actor) (variant : List ℕ) (header : Header) (part : ℕ) →
    (length (frames_told (part_told c b actor variant header part)) ≤ MAX_ROWS)
    × (length (placements_told (part_told c b actor variant header part)) ≤ MAX_ROWS)
    × (length (signals_told (part_told c b actor variant header part)) ≤ MAX_ROWS)

-- In a sound book an actor that is known is told, part by part, each record of the frames that it sees
-- of a variant.
abbrev pub AllRecordsAreTold : Type 0
AllRecordsAreTold = (c : Cluster) (b : Book) (actor : Actor) (v : Name) (x : Variant) → IsSound c b →
    IsTrue (knows b actor) → get b.variants v ≡ Some x →
    HaveAll (λ k. frames_told (part_told c b actor v Frames k))
    (length (frames_seen actor x)) (flat_map frame_records (frames_seen actor x))
    × HaveAll (λ k. placements_told (part_told c b actor v Placements k))
    (length (frames_seen actor x)) (flat_map placement_records (frames_seen actor x))
    × HaveAll (λ k. signals_told (part_told c b actor v Signals k))
    (length (frames_seen actor x)) (flat_map signal_records (frames_seen actor x))
