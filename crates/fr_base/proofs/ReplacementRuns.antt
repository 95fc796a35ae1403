-- Replacements computed on a small register.
use Rattle.std.proofs.Common.{◌≡◌, ℕ, List, [], ◌∷◌, ◌++◌, replicate, refl, codes, false, drop}
use Rattle.std.specs.Prelude.{⊤}
use Rattle.fr_base.specs.Step.{freed, free_row, free_rows, clear_all, replace_row, replace_rows, replaced, replace}
use Rattle.fr_base.specs.declared.answer.Answer.TheVariants.{Done, Imported, Replaced, Refused, RefusedRow}
use Rattle.fr_base.specs.declared.answer.FrameRow.{FrameRow}
use Rattle.fr_base.specs.declared.answer.SignalRow.{SignalRow}
use Rattle.fr_base.specs.declared.channel.Channel.TheVariants as ch
use Rattle.fr_base.specs.declared.channel.Channels.TheVariants as chs
use Rattle.fr_base.specs.declared.placement.Placement.{Placement}
use Rattle.fr_base.specs.declared.refusal.Refusal.TheVariants.{NotYours, BadName, BadText, NoVariant, Released, NoNode, NoFrame, NodeDiffers, Limit, CellTaken, Exists}
use Rattle.fr_base.specs.declared.request.Ask.{Ask}
use Rattle.fr_base.specs.declared.request.Request.TheVariants.{Release, AddFrame, Deliver, Query}
use Rattle.fr_base.specs.declared.delivery.Purpose.TheVariants as purpose
use Rattle.fr_base.specs.declared.query.Query.TheVariants.{Variant as OfVariant}
use Rattle.fr_base.specs.declared.report.Report.TheVariants.{Frames, Layout}
use Rattle.fr_base.specs.declared.signal.Order.{Order}
use Rattle.fr_base.specs.declared.signal.Order.TheVariants as order
use Rattle.fr_base.proofs.WorkedRows.{answers, integrator, s1, s2, Framed, Laid}
use Rattle.fr_base.proofs.ImportRuns.{a_small_import, granted, into}

-- what the rows below unfold
unfoldable pub a_small_replacement : ⊤
unfolding a_small_import freed free_row free_rows clear_all replace_row replace_rows replaced replace
a_small_replacement = tt

-- a replacement of `s1` in `v1`
abbrev pub by : List ℕ → Ask
by body = s1 (Deliver (codes "v1") (purpose.Replacement false) body)

-- rows of placements
abbrev pub placements : List ℕ → List ℕ
placements rows = codes "frame,node,slot,channels,base,repetition\n" ++ rows

-- a placement in slot 1 of channel A
abbrev pub at : ℕ → ℕ → Placement
at base repetition = record { slot = 1; channels = chs.A; cycles = record { count = 64; base = base; repetition = repetition } }

-- a frame of `n1`
abbrev pub frame : List ℕ → List Placement → FrameRow
frame name places = record { frame = name; node = codes "n1"; supplier = codes "s1"; placements = places }

-- a signal of `s1`
abbrev signal : List ℕ → ℕ → ℕ → Order → SignalRow
signal name start length order = record { supplier = codes "s1"; signal = record { name = name; start = start; length = length; order = order } }

-- a revised file: what the frames that it names had stands in no row's way; at the first refused row nothing was changed; what no row
-- names stays; and the same file again changes nothing
pub a_revised_file :
    drop 4 (answers (granted ++ (
    into (codes "a") (placements (codes "f,n1,1,A,0,2\ng,n1,1,A,1,4\nh,n1,1,A,3,4\n"))
    ∷ by (placements (codes "f,n1,1,A,0,4\ng,n1,1,A,1,2\n"))
    ∷ s1 (Query (OfVariant (codes "v1") Frames))
    ∷ by (placements (codes "f,n1,1,A,0,4\ng,n1,1,A,2,4\n"))
    ∷ s1 (Query (OfVariant (codes "v1") Frames))
    ∷ by (placements (codes "f,n1,1,A,0,4\ng,n1,1,A,2,4\n"))
    ∷ s1 (Query (OfVariant (codes "v1") Frames))
    ∷ [])))
    ≡ Imported 3
    ∷ RefusedRow 3 (CellTaken 3 ch.A (codes "h"))
    ∷ Framed false (frame (codes "f") (at 0 2 ∷ []) ∷ frame (codes "g") (at 1 4 ∷ []) ∷ frame (codes "h") (at 3 4 ∷ []) ∷ [])
    ∷ Replaced 2
    ∷ Framed false (frame (codes "f") (at 0 4 ∷ []) ∷ frame (codes "g") (at 2 4 ∷ []) ∷ frame (codes "h") (at 3 4 ∷ []) ∷ [])
    ∷ Replaced 2
    ∷ Framed false (frame (codes "f") (at 0 4 ∷ []) ∷ frame (codes "g") (at 2 4 ∷ []) ∷ frame (codes "h") (at 3 4 ∷ []) ∷ [])
    ∷ []
unfolding a_small_replacement granted
a_revised_file = refl

-- rows of frames: one that is there with this node stays as it is, another is added; a node that is not the supplier's comes first, then
-- the node of the frame that is there
pub rows_of_frames :
    drop 4 (answers (granted ++ (
    into (codes "a") (placements (codes "f,n1,1,A,0,2\n"))
    ∷ into (codes "b") (codes "frame,node\nf,n1\n")
    ∷ by (codes "frame,node\nf,n1\n")
    ∷ by (codes "frame,node\ng,n1\nf,n1\n")
    ∷ by (codes "frame,node\nf,n9\n")
    ∷ by (codes "frame,node\nh,n1\nf,n2\n")
    ∷ by (codes "frame, node\nf,n1\n")
    ∷ s1 (Query (OfVariant (codes "v1") Frames))
    ∷ [])))
    ≡ Imported 1
    ∷ RefusedRow 2 Exists
    ∷ Replaced 1
    ∷ Replaced 2
    ∷ RefusedRow 2 NoNode
    ∷ RefusedRow 3 NodeDiffers
    ∷ RefusedRow 1 BadText
    ∷ Framed false (frame (codes "f") (at 0 2 ∷ []) ∷ frame (codes "g") [] ∷ [])
    ∷ []
unfolding a_small_replacement granted
rows_of_frames = refl

-- rows brought along from another register: frames, placements, of which there are none, and signals
pub rows_brought_along :
    drop 4 (answers (granted ++ (
    into (codes "a") (codes "frame,node\nf,n1\n")
    ∷ into (codes "b") (placements [])
    ∷ into (codes "c") (codes "frame,signal,start,length,order\nf,y,3,8,big\nf,x,4,8,little\n")
    ∷ s1 (Query (OfVariant (codes "v1") (Layout (codes "f"))))
    ∷ into (codes "d") (codes "frame,node\nf,n1\n")
    ∷ by (codes "frame,node\nf,n1\n")
    ∷ [])))
    ≡ Imported 1
    ∷ Imported 0
    ∷ Imported 2
    ∷ Laid false (signal (codes "y") 3 8 order.Big ∷ signal (codes "x") 4 8 order.Little ∷ [])
    ∷ RefusedRow 2 Exists
    ∷ Replaced 1
    ∷ []
unfolding a_small_replacement granted
rows_brought_along = refl

-- rows of signals: a frame that they name loses its other signals, and keeps its placements; the signals of a frame that none names stay
pub rows_of_signals :
    drop 6 (answers (granted ++ (
    s1 (AddFrame (codes "v1") (codes "f") (codes "n1"))
    ∷ s1 (AddFrame (codes "v1") (codes "g") (codes "n1"))
    ∷ by (codes "frame,signal,start,length,order\nf,y,3,8,big\nf,x,4,8,little\ng,z,0,4,little\n")
    ∷ by (codes "frame,signal,start,length,order\nf,x,0,16,little\n")
    ∷ by (codes "frame,signal,start,length,order\nf,x,0,8,little\nh,x,0,8,little\n")
    ∷ s1 (Query (OfVariant (codes "v1") (Layout (codes "f"))))
    ∷ s1 (Query (OfVariant (codes "v1") (Layout (codes "g"))))
    ∷ [])))
    ≡ Replaced 3
    ∷ Replaced 1
    ∷ RefusedRow 3 NoFrame
    ∷ Laid false (signal (codes "x") 0 16 order.Little ∷ [])
    ∷ Laid false (signal (codes "z") 0 4 order.Little ∷ [])
    ∷ []
unfolding a_small_replacement granted
rows_of_signals = refl

-- what is refused before any row: who may ask, a name, the variant, a release, and then a body that is too long; a header alone has no
-- rows, and another supplier replaces its own frames alone
pub refused_before_rows :
    drop 4 (answers (granted ++ (
    into (codes "a") (placements (codes "f,n1,1,A,0,2\n"))
    ∷ integrator (Deliver (codes "1v") (purpose.Replacement false) [])
    ∷ s1 (Deliver (codes "1v") (purpose.Replacement false) [])
    ∷ s1 (Deliver (codes "v9") (purpose.Replacement false) (replicate 65537 48))
    ∷ by (replicate 65537 48)
    ∷ by (replicate 65536 10)
    ∷ by (placements [])
    ∷ s2 (Deliver (codes "v1") (purpose.Replacement false) (placements (codes "f,n1,1,A,0,2\n")))
    ∷ s1 (Query (OfVariant (codes "v1") Frames))
    ∷ integrator (Release (codes "v1"))
    ∷ by (replicate 65537 48)
    ∷ [])))
    ≡ Imported 1
    ∷ Refused NotYours
    ∷ Refused BadName
    ∷ Refused NoVariant
    ∷ Refused Limit
    ∷ RefusedRow 1 BadText
    ∷ Replaced 0
    ∷ RefusedRow 2 NoNode
    ∷ Framed false (frame (codes "f") (at 0 2 ∷ []) ∷ [])
    ∷ Done
    ∷ Refused Released
    ∷ []
unfolding a_small_replacement granted
refused_before_rows = refl
