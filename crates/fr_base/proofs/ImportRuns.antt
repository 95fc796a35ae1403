-- Imports computed on a small register.
use Rattle.std.proofs.Common.{◌≡◌, ℕ, List, [], ◌∷◌, ◌++◌, length, Some, None, Ok, Err, replicate, refl, codes, false, drop, nat_lt, inl, inr}
use Rattle.std.specs.Prelude.{⊤}
use Rattle.std.proofs.lemmas.Bool.{cases_Bool}
use Rattle.fr_base.specs.Refusing.{◌>>=◌, ◌>>◌, ◌or◌, refuse◌when◌}
use Rattle.fr_base.specs.Tables.{get, len}
use Rattle.fr_base.specs.Book.{Variant, Book, own}
use Rattle.fr_base.specs.ImportRows.{rows_of_body}
use Rattle.fr_base.specs.Step.{with_frame, act_row, at_line, act_rows, imported, import_rows, import}
use Rattle.fr_base.specs.declared.answer.Answer.TheVariants.{Done, Imported, Refused, RefusedRow}
use Rattle.fr_base.specs.declared.answer.FrameRow.{FrameRow}
use Rattle.fr_base.specs.declared.answer.SignalRow.{SignalRow}
use Rattle.fr_base.specs.declared.channel.Channel.TheVariants as ch
use Rattle.fr_base.specs.declared.channel.Channels.TheVariants as chs
use Rattle.fr_base.specs.declared.params.Params.{Params}
use Rattle.fr_base.specs.declared.refusal.Refusal.TheVariants.{NotYours, BadName, BadText, LabelUsed, NoVariant, Released, NoNode, NoFrame, NodeDiffers, NotGranted, Limit, CellTaken, BitTaken}
use Rattle.fr_base.specs.declared.request.Ask.{Ask}
use Rattle.fr_base.specs.declared.delivery.Delivery.{Delivery}
use Rattle.fr_base.specs.declared.beginning.Beginning.TheVariants.{Empty, From}
use Rattle.fr_base.specs.declared.request.Request.TheVariants.{OpenVariant, Release, AddNode, Grant, AddFrame, DropFrame, Deliver, Query}
use Rattle.fr_base.specs.declared.delivery.Purpose.TheVariants as purpose
use Rattle.fr_base.specs.declared.query.Query.TheVariants.{Variant as OfVariant}
use Rattle.fr_base.specs.declared.report.Report.TheVariants.{Frames, Layout}
use Rattle.fr_base.specs.declared.signal.Order.TheVariants as order
use Rattle.fr_base.specs.declared.name.Name.{Name}
use Rattle.fr_base.proofs.ImportWorked.{a_small_file, mark}
use Rattle.fr_base.proofs.WorkedRows.{answers, a_small_register, integrator, s1, s2, Framed, Laid}

-- what the rows below unfold
unfoldable pub a_small_import : ⊤
unfolding a_small_register a_small_file with_frame act_row at_line act_rows imported import
a_small_import = tt

-- a variant, two nodes of `s1`, and a grant to the first
unfoldable pub granted : List Ask
granted =
    integrator (OpenVariant (codes "v1") Empty)
    ∷ integrator (AddNode (codes "s1") (codes "n1"))
    ∷ integrator (AddNode (codes "s1") (codes "n2"))
    ∷ integrator (Grant (codes "v1") 1 (codes "A") (codes "s1") (codes "n1"))
    ∷ []

-- an import of `s1` into `v1`
abbrev pub into : List ℕ → List ℕ → Ask
into label body = s1 (Deliver (codes "v1") (purpose.Import label) body)

-- three frames of `n1`, each with a placement; the third one in a slot that is not granted
abbrev pub not_granted : List ℕ
not_granted = codes "frame,node,slot,channels,base,repetition\nf1,n1,1,A,0,2\nf2,n1,1,A,1,4\nf3,n1,2,A,0,1"

-- the third one in a slot that is
abbrev pub three_frames : List ℕ
three_frames = codes "frame,node,slot,channels,base,repetition\nf1,n1,1,A,0,2\nf2,n1,1,A,1,4\nf3,n1,1,A,3,4"

-- with another last byte
abbrev pub changed_at_the_end : List ℕ
changed_at_the_end = codes "frame,node,slot,channels,base,repetition\nf1,n1,1,A,0,2\nf2,n1,1,A,1,4\nf3,n1,1,A,3,8"

-- a frame of `n1` with one placement, in slot 1 of channel A
abbrev frame : List ℕ → ℕ → ℕ → FrameRow
frame name base repetition = record {
  frame = name;
  node = codes "n1";
  supplier = codes "s1";
  placements = record { slot = 1; channels = chs.A; cycles = record { count = 64; base = base; repetition = repetition } } ∷ [];
}

-- signal `x` of eight bits, from bit 0
abbrev signal_x : SignalRow
signal_x = record { supplier = codes "s1"; signal = record { name = codes "x"; start = 0; length = 8; order = order.Little } }

-- a row that is refused leaves no row behind; all rows, or none; once, and with this file alone
pub an_import_of_three_rows :
    drop 4 (answers (granted ++ (
    into (codes "a") not_granted
    ∷ s1 (Query (OfVariant (codes "v1") Frames))
    ∷ into (codes "a") three_frames
    ∷ s1 (Query (OfVariant (codes "v1") Frames))
    ∷ into (codes "a") three_frames
    ∷ into (codes "a") changed_at_the_end
    ∷ s1 (Query (OfVariant (codes "v1") Frames))
    ∷ [])))
    ≡ RefusedRow 4 NotGranted
    ∷ Framed false []
    ∷ Imported 3
    ∷ Framed false (frame (codes "f1") 0 2 ∷ frame (codes "f2") 1 4 ∷ frame (codes "f3") 3 4 ∷ [])
    ∷ Imported 3
    ∷ Refused LabelUsed
    ∷ Framed false (frame (codes "f1") 0 2 ∷ frame (codes "f2") 1 4 ∷ frame (codes "f3") 3 4 ∷ [])
    ∷ []
unfolding a_small_import granted
an_import_of_three_rows = refl

-- it has its answer again after a release, and is not carried out again where a frame was dropped since; a new label is refused, and
-- the label is used in another variant
pub after_a_release :
    drop 4 (answers (granted ++ (
    into (codes "a") three_frames
    ∷ s1 (DropFrame (codes "v1") (codes "f1"))
    ∷ into (codes "a") three_frames
    ∷ integrator (Release (codes "v1"))
    ∷ into (codes "a") three_frames
    ∷ into (codes "b") three_frames
    ∷ into (codes "b") (replicate 65537 48)
    ∷ s1 (Query (OfVariant (codes "v1") Frames))
    ∷ integrator (OpenVariant (codes "v2") (From (codes "v1")))
    ∷ s1 (Deliver (codes "v2") (purpose.Import (codes "a")) three_frames)
    ∷ [])))
    ≡ Imported 3 ∷ Done ∷ Imported 3 ∷ Done ∷ Imported 3 ∷ Refused Released ∷ Refused Released
    ∷ Framed false (frame (codes "f2") 1 4 ∷ frame (codes "f3") 3 4 ∷ [])
    ∷ Done
    ∷ Refused LabelUsed
    ∷ []
unfolding a_small_import granted
after_a_release = refl

-- whose an import is to give, and its names; then its label, before its variant; another supplier's label is its own
pub labels_before_variants :
    drop 4 (answers (granted ++ (
    into (codes "a") three_frames
    ∷ integrator (Deliver (codes "1v") (purpose.Import (codes "a")) three_frames)
    ∷ s1 (Deliver (codes "v1") (purpose.Import (codes "1a")) three_frames)
    ∷ s1 (Deliver (codes "1v") (purpose.Import (codes "a")) three_frames)
    ∷ s1 (Deliver (codes "v9") (purpose.Import (codes "a")) three_frames)
    ∷ s1 (Deliver (codes "v9") (purpose.Import (codes "b")) three_frames)
    ∷ s2 (Deliver (codes "v1") (purpose.Import (codes "a")) (codes "frame,signal,start,length,order\n"))
    ∷ [])))
    ≡ Imported 3 ∷ Refused NotYours ∷ Refused BadName ∷ Refused BadName ∷ Refused LabelUsed ∷ Refused NoVariant ∷ Imported 0 ∷ []
unfolding a_small_import granted
labels_before_variants = refl

-- a header alone has no rows; a body without a header is refused at its first line
pub no_rows :
    drop 4 (answers (granted ++ (
    into (codes "a") (codes "frame,node,slot,channels,base,repetition\n")
    ∷ into (codes "b") []
    ∷ into (codes "b") (mark ++ mark ++ codes "frame,signal,start,length,order\n")
    ∷ [])))
    ≡ Imported 0 ∷ RefusedRow 1 BadText ∷ RefusedRow 1 BadText ∷ []
unfolding a_small_import granted
no_rows = refl

-- what refuses a row as it acts: its node, the node of the frame that is there, the grant, a cell that is taken, by an earlier row too;
-- and a row that is refused on acting comes before a later one that is refused by its own text
pub refused_rows :
    drop 5 (answers (granted ++ (
    s1 (AddFrame (codes "v1") (codes "f1") (codes "n1"))
    ∷ into (codes "a") (codes "frame,node,slot,channels,base,repetition\nf1,n3,1,A,0,2\n")
    ∷ into (codes "a") (codes "frame,node,slot,channels,base,repetition\nf1,n2,1,A,0,2\n")
    ∷ into (codes "a") (codes "frame,node,slot,channels,base,repetition\nf1,n2,2,A,0,2\n")
    ∷ into (codes "a") (codes "frame,node,slot,channels,base,repetition\nf2,n2,1,A,0,2\n")
    ∷ into (codes "a") (codes "frame,node,slot,channels,base,repetition\nf1,n1,1,A,0,2\nf2,n1,1,A,2,4\nf3,n1\n")
    ∷ into (codes "a") (codes "frame,signal,start,length,order\nf9,x,0,8,little\n")
    ∷ [])))
    ≡ RefusedRow 2 NoNode
    ∷ RefusedRow 2 NodeDiffers
    ∷ RefusedRow 2 NodeDiffers
    ∷ RefusedRow 2 NotGranted
    ∷ RefusedRow 3 (CellTaken 2 ch.A (codes "f1"))
    ∷ RefusedRow 2 NoFrame
    ∷ []
unfolding a_small_import granted
refused_rows = refl

-- signals of a file, with a byte order mark and quotes; once; and a bit that is taken
pub an_import_of_signals :
    drop 5 (answers (granted ++ (
    s1 (AddFrame (codes "v1") (codes "f1") (codes "n1"))
    ∷ into (codes "a") (mark ++ codes "frame,signal,start,length,order\r\n\"f1\",\"x\",0,8,little\r\n")
    ∷ s1 (Query (OfVariant (codes "v1") (Layout (codes "f1"))))
    ∷ into (codes "a") (mark ++ codes "frame,signal,start,length,order\r\n\"f1\",\"x\",0,8,little\r\n")
    ∷ into (codes "b") (codes "frame,signal,start,length,order\nf1,y,4,8,little\n")
    ∷ s1 (Query (OfVariant (codes "v1") (Layout (codes "f1"))))
    ∷ [])))
    ≡ Imported 1 ∷ Laid false (signal_x ∷ []) ∷ Imported 1 ∷ RefusedRow 2 (BitTaken 4 (codes "x")) ∷ Laid false (signal_x ∷ []) ∷ []
unfolding a_small_import granted
an_import_of_signals = refl

-- a frame has eight placements; a ninth is too many, where slot and channel are granted
pub a_ninth_placement :
    drop 4 (answers (granted ++ (
    into (codes "a") (codes "frame,node,slot,channels,base,repetition\nf,n1,1,A,0,8\nf,n1,1,A,1,8\nf,n1,1,A,2,8\nf,n1,1,A,3,8\nf,n1,1,A,4,8\nf,n1,1,A,5,8\nf,n1,1,A,6,8\nf,n1,1,A,7,8\n")
    ∷ into (codes "b") (codes "frame,node,slot,channels,base,repetition\nf,n1,1,A,1,8\n")
    ∷ into (codes "b") (codes "frame,node,slot,channels,base,repetition\nf,n1,2,A,1,8\n")
    ∷ [])))
    ≡ Imported 8 ∷ RefusedRow 2 Limit ∷ RefusedRow 2 NotGranted ∷ []
unfolding a_small_import granted
a_ninth_placement = refl

-- the thousandth import of a supplier is carried out, where its variant is open and its file not too long; one more is refused,
-- whatever its file holds
pub the_thousandth : (p : Params) (b : Book) (i : Delivery) (label : Name) (x : Variant) → get b.variants i.variant ≡ Some x → x.released ≡ false → nat_lt 65536 (length i.body) ≡ false →
    len (own i.supplier b.imports) ≡ 999 → import p b i label None ≡ Ok (import_rows p b i label (rows_of_body p i.body))
unfolding import ◌>>=◌ ◌>>◌ ◌or◌ refuse◌when◌
the_thousandth p b i label x there still short kept = rw (there, still, short, kept) refl

pub one_more_than_a_thousand : (p : Params) (b : Book) (i : Delivery) (label : Name) (x : Variant) → get b.variants i.variant ≡ Some x → x.released ≡ false →
    len (own i.supplier b.imports) ≡ 1000 → import p b i label None ≡ Err Limit
unfolding import ◌>>=◌ ◌>>◌ ◌or◌ refuse◌when◌
one_more_than_a_thousand p b i label x there still kept = elim (cases_Bool (nat_lt 65536 (length i.body))) [
  | inl long ↦ rw (there, still, long) refl
  | inr short ↦ rw (there, still, short, kept) refl
]

-- a file of 65,537 bytes is too long, after its label and its variant; one of 65,536 is read
pub a_long_file :
    drop 4 (answers (granted ++ (
    into (codes "a") three_frames
    ∷ into (codes "a") (replicate 65537 48)
    ∷ s1 (Deliver (codes "v9") (purpose.Import (codes "b")) (replicate 65537 48))
    ∷ into (codes "b") (replicate 65537 48)
    ∷ into (codes "b") (replicate 65536 10)
    ∷ [])))
    ≡ Imported 3 ∷ Refused LabelUsed ∷ Refused NoVariant ∷ Refused Limit ∷ RefusedRow 1 BadText ∷ []
unfolding a_small_import granted
a_long_file = refl
