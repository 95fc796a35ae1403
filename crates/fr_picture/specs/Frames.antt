-- Frames: when frames are drawn with the rows, gaps and signals of the reports. Why a plan may be
-- refused.
use Rattle.std.specs.Prelude.{◌≡◌, ◌⊎◌, ℕ, Bool, List, [], ◌∷◌, map, Option, IsPermutation, ⊤}
use Rattle.std.specs.List.{All}
use Rattle.fr_base.specs.Book.{Book}
use Rattle.fr_base.specs.Cluster.{Cluster}
use Rattle.fr_base.specs.declared.actor.Actor.{Actor}
use Rattle.fr_base.specs.declared.actor.Actor.TheVariants.{Supplier}
use Rattle.fr_base.specs.declared.answer.Answer.TheVariants as answer
use Rattle.fr_base.specs.declared.answer.FrameRow.{FrameRow}
use Rattle.fr_base.specs.declared.answer.GapRow.{GapRow}
use Rattle.fr_base.specs.declared.answer.SignalRow.{SignalRow}
use Rattle.fr_base.specs.declared.refusal.Refusal.{Refusal}
use Rattle.fr_base.specs.declared.refusal.Refusal.TheVariants.{Unavailable}
use Rattle.fr_base.specs.declared.request.Request.{Request}
use Rattle.fr_base.specs.declared.report.Report.TheVariants.{Grants, Frames, Schedule, Gaps, Layout}
use Rattle.fr_picture.specs.FrameTables.{AreWorstFirst, KeepTies}
use Rattle.fr_picture.specs.Strips.{HasItsBits}
use Rattle.fr_picture.specs.declared.frame_table.DrawnFrame.{DrawnFrame}
use Rattle.fr_picture.specs.declared.signals.DrawnSignal.{DrawnSignal}
use Rattle.fr_picture.specs.Reports.{answer_to, asks, asks_variants, with_frames, with_gaps, with_signals}

-- The signals are those of the supplier's frame, each drawn with its bits.
abbrev pub AreSignals : Cluster → Book → List ℕ → FrameRow → List DrawnSignal → Type 0
AreSignals c b variant row signals = (all : Bool) × (rows : List SignalRow)
    × (answer_to c b (Supplier row.supplier) (asks variant (Layout row.frame)) ≡ with_signals all rows) × (map (λ s. s.signal) signals ≡ map (λ r. r.signal) rows)
    × All HasItsBits signals

-- The frame is drawn with this row, this gap, and its signals.
abbrev pub IsDrawn : Cluster → Book → List ℕ → FrameRow → Option ℕ → DrawnFrame → Type 0
IsDrawn c b variant row gap frame = (frame.row ≡ row) × (frame.gap ≡ gap) × AreSignals c b variant row frame.signals

-- Each row is drawn as a frame, with the gap at its place.
abbrev pub AreDrawn : Cluster → Book → List ℕ → List FrameRow → List GapRow → List DrawnFrame → Type 0
AreDrawn c b variant [] gaps [] = ⊤
AreDrawn c b variant (row ∷ rows) (gap ∷ gaps) (frame ∷ frames) = IsDrawn c b variant row gap.gap frame × AreDrawn c b variant rows gaps frames
AreDrawn c b variant _ _ _ = ⊥

-- The rows are drawn as frames, with the gaps that the reader is told and their signals, in the
-- order of the page. Frames with the same gap stay in the order of the rows.
abbrev pub AreDrawnOf : Cluster → Book → Actor → List ℕ → List FrameRow → List DrawnFrame → Type 0
AreDrawnOf c b reader variant rows frames = (listed : List DrawnFrame) × (gaps : List GapRow) × IsPermutation listed frames × AreWorstFirst frames
    × KeepTies listed frames
    × ((all : Bool) × (answer_to c b reader (asks variant Gaps) ≡ with_gaps all gaps)) × AreDrawn c b variant rows gaps listed

-- The frames are those of the variant that the reader sees, with their gaps and signals, in the order of the page.
abbrev pub AreFrames : Cluster → Book → Actor → List ℕ → List DrawnFrame → Type 0
AreFrames c b reader variant frames = (rows : List FrameRow)
    × ((all : Bool) × (answer_to c b reader (asks variant Frames) ≡ with_frames all rows)) × AreDrawnOf c b reader variant rows frames

-- the request is one for a report from which a plan is drawn
abbrev pub IsOfPlan : List ℕ → Request → Type 0
IsOfPlan variant asked =
    (asked ≡ asks variant Grants) ⊎ (asked ≡ asks variant Schedule) ⊎ (asked ≡ asks variant Frames) ⊎ (asked ≡ asks variant Gaps)
    ⊎ (asked ≡ asks_variants)

-- The reader is refused one of these reports by this refusal, or the refusal is Unavailable.
abbrev pub MayRefusePlan : Cluster → Book → Actor → List ℕ → Refusal → Type 0
MayRefusePlan c b reader variant e =
    (e ≡ Unavailable) ⊎ ((asked : Request) × IsOfPlan variant asked × (answer_to c b reader asked ≡ answer.Refused e))
