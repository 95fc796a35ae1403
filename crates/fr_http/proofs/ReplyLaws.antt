-- Laws of replies.
use Rattle.std.proofs.Common.{◌≡◌, ℕ, List, [], ◌++◌, length, take, drop, sym, ap, ◌∙◌, append-nil, arith, Result, Ok, Err, OnOk}
use Rattle.std.proofs.Math.Seq.{take-append_seam, drop-append_seam}
use Rattle.fr_text.proofs.WordsLemmas.{adds}
use Rattle.std.specs.Prelude.{codes}
use Rattle.http.specs.StatusCode.{IsStatusCode}
use Rattle.fr_page.specs.Page.{text_of}
use Rattle.fr_page.specs.declared.Part.{Part}
use Rattle.fr_http.specs.Conditions.{tag_of}
use Rattle.fr_http.specs.PageReply.{part_fields, part_reply}
use Rattle.fr_http.specs.Reply.{allow, closing, engine_reply, field_line, print, reply_with, status_line, status_of_rejection}
use Rattle.fr_http.specs.Replying.{head_with}
use Rattle.fr_http.specs.declared.fault.Rejection.{Rejection}
use Rattle.fr_base.specs.Refusals.{status_of}
use Rattle.fr_base.specs.declared.refusal.Refusal.{Refusal}
use Rattle.fr_base.specs.declared.refusal.Refusal.TheVariants.{BadText, UnknownKey, NotYours, BadName, BadCycles, BadSlot, BadChannel, BadSignal, LabelUsed, NoVariant, Released, NotReleased, TooDeep, NoSupplier, NoNode, NoFrame, NoSignal, NoPlacement, Exists, NodeDiffers, NotGranted, InUse, Limit, Taken, CellTaken, OutOfPayload, BitTaken, Unavailable, BadKey, KeyTaken, NoRoom}

-- ---- statuses

pub refusal_has_status : (refusal : Refusal) → IsStatusCode (status_of refusal)
refusal_has_status BadText = (omega arith, omega arith)
refusal_has_status UnknownKey = (omega arith, omega arith)
refusal_has_status NotYours = (omega arith, omega arith)
refusal_has_status BadName = (omega arith, omega arith)
refusal_has_status BadCycles = (omega arith, omega arith)
refusal_has_status BadSlot = (omega arith, omega arith)
refusal_has_status BadChannel = (omega arith, omega arith)
refusal_has_status BadSignal = (omega arith, omega arith)
refusal_has_status LabelUsed = (omega arith, omega arith)
refusal_has_status NoVariant = (omega arith, omega arith)
refusal_has_status Released = (omega arith, omega arith)
refusal_has_status NotReleased = (omega arith, omega arith)
refusal_has_status TooDeep = (omega arith, omega arith)
refusal_has_status NoSupplier = (omega arith, omega arith)
refusal_has_status NoNode = (omega arith, omega arith)
refusal_has_status NoFrame = (omega arith, omega arith)
refusal_has_status NoSignal = (omega arith, omega arith)
refusal_has_status NoPlacement = (omega arith, omega arith)
refusal_has_status Exists = (omega arith, omega arith)
refusal_has_status NodeDiffers = (omega arith, omega arith)
refusal_has_status NotGranted = (omega arith, omega arith)
refusal_has_status InUse = (omega arith, omega arith)
refusal_has_status Limit = (omega arith, omega arith)
refusal_has_status Taken = (omega arith, omega arith)
refusal_has_status (CellTaken cycle channel frame) = (omega arith, omega arith)
refusal_has_status OutOfPayload = (omega arith, omega arith)
refusal_has_status (BitTaken bit signal) = (omega arith, omega arith)
refusal_has_status Unavailable = (omega arith, omega arith)
refusal_has_status BadKey = (omega arith, omega arith)
refusal_has_status KeyTaken = (omega arith, omega arith)
refusal_has_status NoRoom = (omega arith, omega arith)

-- one text at the end, and then another, if there was memory for it
pub last_adds : {E : Type 0} (r : Result (Unit {0}) E) (old a mid b new : List ℕ) → mid ≡ old ++ a → OnOk r (new ≡ mid ++ b) → OnOk r (new ≡ old ++ (a ++ b))
last_adds (Ok u) old a mid b new first then = adds old a mid b new first then
last_adds (Err e) old a mid b new first then = tt

-- a head that was put behind its body is turned to the front
pub turned : (body head bytes new : List ℕ) (n : ℕ) → n ≡ length body → bytes ≡ body ++ head → new ≡ drop n bytes ++ take n bytes → new ≡ head ++ body
turned body head bytes new n size both is =
    is ∙ ap (λ b. drop n b ++ take n b) both ∙ ap (λ k. drop k (body ++ head) ++ take k (body ++ head)) size
    ∙ ap (λ front. drop (length body) (body ++ head) ++ front) (take-append_seam body head)
    ∙ ap (λ back. back ++ body) (drop-append_seam body head)

pub engine_written : (rejection : Rejection) (status : ℕ) (old bytes : List ℕ) → old ≡ [] → status ≡ status_of_rejection rejection
    → bytes ≡ old ++ (status_line status ++ (field_line (codes "content-length") (codes "0") ++ allow rejection) ++ closing)
    → bytes ≡ print (engine_reply rejection)
unfolding print engine_reply
engine_written rejection status old bytes empty is written =
    let fields = field_line (codes "content-length") (codes "0") ++ allow rejection in
    written ∙ ap (λ o. o ++ (status_line status ++ fields ++ closing)) empty ∙ ap (λ s. status_line s ++ fields ++ closing) is ∙ sym (append-nil _)

pub body_written : (status n : ℕ) (type body bytes : List ℕ) → n ≡ length body → bytes ≡ head_with status type n ++ body → bytes ≡ print (reply_with status type body)
unfolding print
body_written status n type body bytes size written = written ∙ ap (λ k. head_with status type k ++ body) size

pub part_written : (part : Part) (n : ℕ) (tag body : List ℕ) → n ≡ length body → body ≡ text_of part → tag ≡ tag_of (text_of part)
    → status_line 200 ++ part_fields part n tag ++ closing ++ body ≡ print (part_reply part)
unfolding print part_reply
part_written part n tag body size whole is =
    ap (λ k. status_line 200 ++ part_fields part k tag ++ closing ++ body) size
    ∙ ap (λ b. status_line 200 ++ part_fields part (length b) tag ++ closing ++ b) whole
    ∙ ap (λ t. status_line 200 ++ part_fields part (length (text_of part)) t ++ closing ++ text_of part) is
