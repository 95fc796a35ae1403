-- Whole replacements computed on a small register.
use Rattle.std.proofs.Common.{◌≡◌, ℕ, List, [], ◌∷◌, ◌++◌, refl, codes, false, true, drop}
use Rattle.std.specs.Prelude.{⊤}
use Rattle.fr_base.specs.ImportRows.{header_of_body}
use Rattle.fr_base.specs.Step.{cleared, clear_frames}
use Rattle.fr_base.specs.declared.answer.Answer.{Answer}
use Rattle.fr_base.specs.declared.answer.Answer.TheVariants.{Replaced, RefusedRow}
use Rattle.fr_base.specs.declared.answer.SignalRow.{SignalRow}
use Rattle.fr_base.specs.declared.channel.Channel.TheVariants as ch
use Rattle.fr_base.specs.declared.refusal.Refusal.TheVariants.{BadText, NoFrame, NodeDiffers, CellTaken}
use Rattle.fr_base.specs.declared.request.Ask.{Ask}
use Rattle.fr_base.specs.declared.delivery.Manner.TheVariants as manner
use Rattle.fr_base.specs.declared.request.Request.TheVariants.{AddSignal, Deliver, Query}
use Rattle.fr_base.specs.declared.delivery.Purpose.TheVariants as purpose
use Rattle.fr_base.specs.declared.query.Query.TheVariants.{Variant as OfVariant}
use Rattle.fr_base.specs.declared.report.Report.TheVariants.{Frames, Layout}
use Rattle.fr_base.specs.declared.signal.Order.TheVariants as order
use Rattle.fr_base.proofs.WorkedRows.{answers, s1, Framed, Laid}
use Rattle.fr_base.proofs.ImportRuns.{granted, into}
use Rattle.fr_base.proofs.ReplacementRuns.{placements, at, frame}
use Rattle.fr_base.proofs.TrialRuns.{a_small_trial, Told, done_at, refused_at}

-- what the rows below unfold
unfoldable pub a_small_whole : ⊤
unfolding a_small_trial header_of_body cleared clear_frames
a_small_whole = tt

-- a whole replacement by `s1` in `v1`
abbrev pub whole : List ℕ → Ask
whole body = s1 (Deliver (codes "v1") (purpose.Replacement true) body)

-- rows of frames, and of signals
abbrev pub frames : List ℕ → List ℕ
frames rows = codes "frame,node\n" ++ rows

abbrev pub signals : List ℕ → List ℕ
signals rows = codes "frame,signal,start,length,order\n" ++ rows

-- three frames of `n1`, each with a placement; the first one has a signal
unfoldable pub planned : List Ask
unfolding granted
planned =
    granted ++ (
    into (codes "a") (placements (codes "f,n1,1,A,0,2\ng,n1,1,A,1,4\nh,n1,1,A,3,4\n"))
    ∷ s1 (AddSignal (codes "v1") (codes "f") (codes "x") 0 4 (codes "little"))
    ∷ [])

-- the supplier's frames, and the signals of one
abbrev pub all_frames : Ask
all_frames = s1 (Query (OfVariant (codes "v1") Frames))

abbrev pub signals_of : List ℕ → Ask
signals_of f = s1 (Query (OfVariant (codes "v1") (Layout f)))

abbrev pub signal_x : SignalRow
signal_x = record { supplier = codes "s1"; signal = record { name = codes "x"; start = 0; length = 4; order = order.Little } }

-- the frames as they were planned
abbrev pub as_planned : Answer
as_planned = Framed false (frame (codes "f") (at 0 2 ∷ []) ∷ frame (codes "g") (at 1 4 ∷ []) ∷ frame (codes "h") (at 3 4 ∷ []) ∷ [])

-- a file of frames: one that it names with its node has all that it had, another is there with nothing, and those that it does not name
-- are gone; then a file of placements takes each placement away that it does not have, and the same file again changes nothing
pub frames_then_placements :
    drop 6 (answers (planned ++ (
    whole (frames (codes "f,n1\nk,n1\n"))
    ∷ all_frames
    ∷ signals_of (codes "f")
    ∷ whole (placements (codes "k,n1,1,A,0,2\n"))
    ∷ all_frames
    ∷ signals_of (codes "f")
    ∷ whole (placements (codes "k,n1,1,A,0,2\n"))
    ∷ all_frames
    ∷ signals_of (codes "f")
    ∷ whole (placements (codes "k,n1,1,A,0,2\nk,n1,1,A,2,4\n"))
    ∷ all_frames
    ∷ whole (placements [])
    ∷ all_frames
    ∷ signals_of (codes "f")
    ∷ [])))
    ≡ Replaced 2
    ∷ Framed false (frame (codes "f") (at 0 2 ∷ []) ∷ frame (codes "k") [] ∷ [])
    ∷ Laid false (signal_x ∷ [])
    ∷ Replaced 1
    ∷ Framed false (frame (codes "f") [] ∷ frame (codes "k") (at 0 2 ∷ []) ∷ [])
    ∷ Laid false (signal_x ∷ [])
    ∷ Replaced 1
    ∷ Framed false (frame (codes "f") [] ∷ frame (codes "k") (at 0 2 ∷ []) ∷ [])
    ∷ Laid false (signal_x ∷ [])
    ∷ RefusedRow 3 (CellTaken 2 ch.A (codes "k"))
    ∷ Framed false (frame (codes "f") [] ∷ frame (codes "k") (at 0 2 ∷ []) ∷ [])
    ∷ Replaced 0
    ∷ Framed false (frame (codes "f") [] ∷ frame (codes "k") [] ∷ [])
    ∷ Laid false (signal_x ∷ [])
    ∷ []
unfolding a_small_whole planned granted
frames_then_placements = refl

-- a frame that a file of frames names with another node is a new one of that node
pub another_node :
    drop 6 (answers (planned ++ (
    whole (frames (codes "f,n2\n"))
    ∷ all_frames
    ∷ signals_of (codes "f")
    ∷ [])))
    ≡ Replaced 1
    ∷ Framed false (record { frame = codes "f"; node = codes "n2"; supplier = codes "s1"; placements = [] } ∷ [])
    ∷ Laid false []
    ∷ []
unfolding a_small_whole planned granted
another_node = refl

-- a frame that is named with two nodes is refused, at the row that does not name its own; an empty file has no header
pub two_nodes :
    drop 6 (answers (planned ++ (
    whole (frames (codes "f,n1\nf,n2\n"))
    ∷ whole (frames (codes "f,n2\nf,n1\n"))
    ∷ whole []
    ∷ all_frames
    ∷ signals_of (codes "f")
    ∷ [])))
    ≡ RefusedRow 3 NodeDiffers
    ∷ RefusedRow 2 NodeDiffers
    ∷ RefusedRow 1 BadText
    ∷ as_planned
    ∷ Laid false (signal_x ∷ [])
    ∷ []
unfolding a_small_whole planned granted
two_nodes = refl

-- what is tried as whole frees the frames that no row names too
pub whole_is_tried :
    drop 6 (answers (planned ++ (
    s1 (Deliver (codes "v1") (purpose.Trial (manner.Replace true)) (placements (codes "f,n1,1,A,0,1\n")))
    ∷ s1 (Deliver (codes "v1") (purpose.Trial (manner.Replace false)) (placements (codes "f,n1,1,A,0,1\n")))
    ∷ all_frames
    ∷ [])))
    ≡ Told (done_at 2 ∷ [])
    ∷ Told (refused_at 2 (CellTaken 1 ch.A (codes "g")) ∷ [])
    ∷ as_planned
    ∷ []
unfolding a_small_whole planned granted
whole_is_tried = refl

-- a file of signals takes each signal away that it does not have, and leaves placements; below a header alone everything of its kind is gone
pub signals_then_nothing :
    drop 6 (answers (planned ++ (
    whole (signals (codes "g,y,8,8,little\n"))
    ∷ signals_of (codes "f")
    ∷ signals_of (codes "g")
    ∷ all_frames
    ∷ whole (signals (codes "k,y,8,8,little\n"))
    ∷ whole (signals [])
    ∷ signals_of (codes "g")
    ∷ all_frames
    ∷ whole (frames [])
    ∷ all_frames
    ∷ [])))
    ≡ Replaced 1
    ∷ Laid false []
    ∷ Laid false (record { supplier = codes "s1"; signal = record { name = codes "y"; start = 8; length = 8; order = order.Little } } ∷ [])
    ∷ as_planned
    ∷ RefusedRow 2 NoFrame
    ∷ Replaced 0
    ∷ Laid false []
    ∷ as_planned
    ∷ Replaced 0
    ∷ Framed false []
    ∷ []
unfolding a_small_whole planned granted
signals_then_nothing = refl
