-- Trials computed on a small register.
use Rattle.std.proofs.Common.{◌≡◌, ℕ, false, List, [], ◌∷◌, ◌++◌, Some, None, replicate, length, refl, ap, ◌∙◌, codes, drop}
use Rattle.std.specs.Prelude.{⊤, take}
use Rattle.std.proofs.lemmas.List.{drop-take}
use Rattle.fr_base.specs.ImportRows.{rows_below, all_rows_of_body}
use Rattle.fr_base.specs.Step.{fate_of, fates_of, try}
use Rattle.fr_base.specs.declared.answer.Answer.{Answer}
use Rattle.fr_base.specs.declared.answer.Answer.TheVariants.{Done, Imported, Refused, RefusedRow, Report}
use Rattle.fr_base.specs.declared.answer.FateRow.{FateRow}
use Rattle.fr_base.specs.declared.answer.ReportRows.TheVariants.{Fates}
use Rattle.fr_base.specs.declared.channel.Channel.TheVariants as ch
use Rattle.fr_base.specs.declared.import.Header.{Header}
use Rattle.fr_base.specs.declared.params.Params.{Params}
use Rattle.fr_base.specs.declared.refusal.Refusal.{Refusal}
use Rattle.fr_base.specs.declared.refusal.Refusal.TheVariants.{NotYours, BadName, BadText, BadSlot, NoVariant, Released, NoNode, NoFrame, NodeDiffers, NotGranted, Limit, CellTaken, Exists}
use Rattle.fr_base.specs.declared.request.Ask.{Ask}
use Rattle.fr_base.specs.declared.delivery.Manner.TheVariants as manner
use Rattle.fr_base.specs.declared.request.Request.TheVariants.{Release, Deliver, Query}
use Rattle.fr_base.specs.declared.delivery.Purpose.TheVariants as purpose
use Rattle.fr_base.specs.declared.query.Query.TheVariants.{Variant as OfVariant}
use Rattle.fr_base.specs.declared.report.Report.TheVariants.{Frames}
use Rattle.fr_base.proofs.WorkedRows.{answers, integrator, s1, Framed}
use Rattle.fr_base.proofs.ImportWorked.{refused, the_513th}
use Rattle.fr_base.proofs.ImportRuns.{granted, into}
use Rattle.fr_base.proofs.ReplacementRuns.{a_small_replacement, placements, at, frame}

-- what the rows below unfold
unfoldable pub a_small_trial : ⊤
unfolding a_small_replacement all_rows_of_body fate_of fates_of try
a_small_trial = tt

-- a trial by `s1` in `v1`, of an import and of a replacement
abbrev tried : List ℕ → Ask
tried body = s1 (Deliver (codes "v1") (purpose.Trial manner.Import) body)

abbrev tried_anew : List ℕ → Ask
tried_anew body = s1 (Deliver (codes "v1") (purpose.Trial (manner.Replace false)) body)

-- what is told of the rows
abbrev pub Told : List FateRow → Answer
Told rows = Report false (Fates rows)

abbrev pub done_at : ℕ → FateRow
done_at line = record { line = line; refusal = None }

abbrev pub refused_at : ℕ → Refusal → FateRow
refused_at line why = record { line = line; refusal = Some why }

-- ten rows, of which some are refused
abbrev ten_rows : List ℕ
ten_rows = placements (codes "f1,n1,1,A,0,2\nf2,n1,1,A,1,4\nf3,n1,2,A,0,1\nf4,n9,1,A,0,1\nf1,n1,1,A,2,4\nf5,n1,1,A,3\nf6,n1,1,A,3,4\nf7,n1,1,A,3,8\nf8,n1,1,AB,0,1\nf9,n1,9,A,0,1\n")

-- the three that are not
abbrev three_rows : List ℕ
three_rows = placements (codes "f1,n1,1,A,0,2\nf2,n1,1,A,1,4\nf6,n1,1,A,3,4\n")

-- each row is told by itself, to the file's end: a refused row stands in no other's way, and its frame is not there; an import of the
-- file tells the first refused row alone, and after neither is a frame there
pub the_fates_of_rows :
    drop 4 (answers (granted ++ (
    tried ten_rows
    ∷ into (codes "a") ten_rows
    ∷ s1 (Query (OfVariant (codes "v1") Frames))
    ∷ tried three_rows
    ∷ s1 (Query (OfVariant (codes "v1") Frames))
    ∷ into (codes "a") three_rows
    ∷ [])))
    ≡ Told (
    done_at 2
    ∷ done_at 3
    ∷ refused_at 4 NotGranted
    ∷ refused_at 5 NoNode
    ∷ refused_at 6 (CellTaken 2 ch.A (codes "f1"))
    ∷ refused_at 7 BadText
    ∷ done_at 8
    ∷ refused_at 9 (CellTaken 3 ch.A (codes "f6"))
    ∷ refused_at 10 NotGranted
    ∷ refused_at 11 BadSlot
    ∷ [])
    ∷ RefusedRow 4 NotGranted
    ∷ Framed false []
    ∷ Told (done_at 2 ∷ done_at 3 ∷ done_at 4 ∷ [])
    ∷ Framed false []
    ∷ Imported 3
    ∷ []
unfolding a_small_trial granted
the_fates_of_rows = refl

-- a refused row's frame is not there for the rows after it, which may bring it with another node
pub no_frame_of_a_refused_row :
    drop 4 (answers (granted ++ (
    tried (placements (codes "f,n2,1,A,0,2\nf,n1,1,A,0,2\nf,n2,1,A,0,2\n"))
    ∷ tried (codes "frame,node\nf,n9\nf,n1\nf,n2\n")
    ∷ tried (codes "frame,signal,start,length,order\nf,x,0,8,little\n")
    ∷ [])))
    ≡ Told (refused_at 2 NotGranted ∷ done_at 3 ∷ refused_at 4 NodeDiffers ∷ [])
    ∷ Told (refused_at 2 NoNode ∷ done_at 3 ∷ refused_at 4 Exists ∷ [])
    ∷ Told (refused_at 2 NoFrame ∷ [])
    ∷ []
unfolding a_small_trial granted
no_frame_of_a_refused_row = refl

-- of a replacement: what is freed is freed before the first row, and a row of frames leaves the frame that is there; then each row is
-- told by itself, and the frames are as they were
pub the_fates_of_a_replacement :
    drop 4 (answers (granted ++ (
    into (codes "a") (placements (codes "f,n1,1,A,0,2\ng,n1,1,A,1,4\nh,n1,1,A,3,4\n"))
    ∷ tried (placements (codes "f,n1,1,A,0,4\n"))
    ∷ tried_anew (placements (codes "f,n1,1,A,0,4\ng,n1,1,A,1,2\ng,n1,1,A,2,4\n"))
    ∷ tried (codes "frame,node\nf,n1\n")
    ∷ tried_anew (codes "frame,node\nf,n1\nf,n2\n")
    ∷ s1 (Query (OfVariant (codes "v1") Frames))
    ∷ [])))
    ≡ Imported 3
    ∷ Told (refused_at 2 (CellTaken 0 ch.A (codes "f")) ∷ [])
    ∷ Told (done_at 2 ∷ refused_at 3 (CellTaken 3 ch.A (codes "h")) ∷ done_at 4 ∷ [])
    ∷ Told (refused_at 2 Exists ∷ [])
    ∷ Told (done_at 2 ∷ refused_at 3 NodeDiffers ∷ [])
    ∷ Framed false (frame (codes "f") (at 0 2 ∷ []) ∷ frame (codes "g") (at 1 4 ∷ []) ∷ frame (codes "h") (at 3 4 ∷ []) ∷ [])
    ∷ []
unfolding a_small_trial granted
the_fates_of_a_replacement = refl

-- what is refused before any row: who may ask, a name, the variant, a release, and then a body that is too long; where there is no header,
-- that is told of line 1, and a header alone has no rows
pub refused_before_rows :
    drop 4 (answers (granted ++ (
    integrator (Deliver (codes "v1") (purpose.Trial manner.Import) [])
    ∷ s1 (Deliver (codes "1v") (purpose.Trial manner.Import) [])
    ∷ s1 (Deliver (codes "v9") (purpose.Trial manner.Import) (replicate 65537 48))
    ∷ tried (replicate 65537 48)
    ∷ tried (replicate 65536 10)
    ∷ tried []
    ∷ tried_anew (placements [])
    ∷ integrator (Release (codes "v1"))
    ∷ tried (replicate 65537 48)
    ∷ [])))
    ≡ Refused NotYours
    ∷ Refused BadName
    ∷ Refused NoVariant
    ∷ Refused Limit
    ∷ Told (refused_at 1 BadText ∷ [])
    ∷ Told (refused_at 1 BadText ∷ [])
    ∷ Told []
    ∷ Done
    ∷ Refused Released
    ∷ []
unfolding a_small_trial granted
refused_before_rows = refl

-- a file of more than 512 rows is told to the 513th, which is one too many, whatever it holds
pub one_row_too_many : (p : Params) (h : Header) (before : List (List (List ℕ))) (fields : List (List ℕ)) (after : List (List (List ℕ)))
    → length before ≡ 512 → drop 512 (take 513 (rows_below p (Some h) (before ++ fields ∷ after))) ≡ refused 514 Limit ∷ []
one_row_too_many p h before fields after e = drop-take 512 1 (rows_below p (Some h) (before ++ fields ∷ after)) ∙ ap (take 1) (the_513th p h before fields after e)
