-- Export: the records of a variant's frames, as the file of an import has them: frames, their placements, or their
-- signals. They come in parts of at most 512 records; a part takes whole frames.
use Rattle.std.specs.Prelude.{ℕ, zero, suc, ◌-◌, nat_le, List, [], ◌∷◌, ◌++◌, map, length, if◌then◌else◌}
use Rattle.fr_base.specs.Book.{Frame}
use Rattle.fr_base.specs.declared.limits.TheConstants.{MAX_ROWS}
use Rattle.fr_base.specs.declared.name.Name.{Name}
use Rattle.fr_base.specs.declared.import.Header.{Header}
use Rattle.fr_base.specs.declared.import.Header.TheVariants.{Frames, Placements, Signals}
use Rattle.fr_base.specs.declared.answer.FrameRecord.{FrameRecord}
use Rattle.fr_base.specs.declared.answer.PlacementRecord.{PlacementRecord}
use Rattle.fr_base.specs.declared.answer.SignalRecord.{SignalRecord}
use Rattle.fr_base.specs.declared.answer.ReportRows.{ReportRows}
use Rattle.fr_base.specs.declared.answer.ReportRows.TheVariants.{FrameRecords, PlacementRecords, SignalRecords}

-- ---- parts

-- the records of whole frames, one after another, up to the first frame of which there is not so much room; and the
-- frames from there on
unfoldable pub fitting : {R : Type 0} → ℕ → List (List R) → List R × List (List R)
fitting room [] = ([], [])
fitting room (records ∷ rest) =
    if nat_le (length records) room
    then (let more = fitting (room - length records) rest in (records ++ more.0, more.1))
    else ([], records ∷ rest)

-- The part of this number, of frames that have these records. Each part takes whole frames from where the part before
-- ended, as many as give at most 512 records. Behind the last part there is nothing.
unfoldable pub part_of : {R : Type 0} → ℕ → List (List R) → List R
part_of zero frames = (fitting MAX_ROWS frames).0
part_of (suc n) frames = part_of n (fitting MAX_ROWS frames).1

-- ---- records

-- the record of a frame
abbrev pub frame_records : (Name × Name) × Frame → List FrameRecord
frame_records e = record { frame = e.0.1; node = e.1.node; supplier = e.0.0 } ∷ []

-- the records of its placements, in order
abbrev pub placement_records : (Name × Name) × Frame → List PlacementRecord
placement_records e = map (λ q. record { frame = e.0.1; node = e.1.node; placement = q.0; supplier = e.0.0 }) e.1.placements.rows

-- the records of its signals, by start
abbrev pub signal_records : (Name × Name) × Frame → List SignalRecord
signal_records e = map (λ s. record { frame = e.0.1; signal = s; supplier = e.0.0 }) e.1.signals

-- the part of this number of the frames' records below the header, by supplier and frame
unfoldable pub exported : Header → ℕ → List ((Name × Name) × Frame) → ReportRows
exported Frames part frames = FrameRecords (part_of part (map frame_records frames))
exported Placements part frames = PlacementRecords (part_of part (map placement_records frames))
exported Signals part frames = SignalRecords (part_of part (map signal_records frames))
