-- Connection: what was read and written on a connection, how it ended, that it was an exchange, and what became of the
-- register.
use Rattle.std.specs.Prelude.{ℕ, ◌≡◌, ◌≤◌, ◌⊎◌, Bool, true, false, List, length, Option, Result, Ok, Err, IfErr, IfOk, IsErrOf, MatchResult, ⊤}
use Rattle.std.specs.Global.{Vec}
use Rattle.std.specs.Io.KnownBytes.{Appends, Consumes, IsAtEnd, Keeps}
use Rattle.std.specs.declared.io.Error.{Error}
use Rattle.httparse.specs.Grammar.{RequestHead}
use Rattle.fr_base.specs.Actors.{actor_of}
use Rattle.fr_base.specs.Book.{Book}
use Rattle.fr_base.specs.Desks.{InSound, Standing}
use Rattle.fr_base.specs.declared.actor.Actor.{Actor}
use Rattle.fr_base.specs.declared.refusal.Refusal.{Refusal}
use Rattle.fr_picture.specs.Pages.{IsPage}
use Rattle.fr_picture.specs.declared.plan.Plan.{Plan as Picture}
use Rattle.fr_http.specs.Exchanges.{Deals, Dealing, IsExchange, IsFront, IsInterim, IsInterimFront, IsReplyTo, MayDraw, asked_in}
use Rattle.fr_http.specs.Head.{BeginsWith, HeadData, max_head, said}
use Rattle.fr_http.specs.Outcome.{IsOutcome, Wanted, asked_before, continue_if, continue_reply, due, is_ask, plan_of}
use Rattle.fr_http.specs.Reply.{Reply, print}
use Rattle.fr_http.specs.Replying.{IsReply}
use Rattle.fr_http.specs.declared.exchange.Exchange.{Exchange}
use Rattle.fr_http.specs.declared.fault.LinkFault.{LinkFault}
use Rattle.fr_http.specs.declared.fault.LinkFault.TheVariants.{Truncated, WriteFailed, NoMemory}
use Rattle.fr_http.specs.declared.fault.Unasked.{Unasked}
use Rattle.fr_http.specs.declared.fault.Unasked.TheVariants.{Engine, Explained, Page, Refused, Fault}
use Rattle.fr_http.specs.declared.plan.Plan.{Plan}
use Rattle.fr_http.specs.declared.reply.ReplyText.{ReplyText}
use Rattle.fr_http.specs.declared.serve.Served.{Served}

-- whether nothing of a final reply was written before the fault
abbrev pub is_silent : LinkFault → Bool
is_silent (WriteFailed _) = false
is_silent _ = true

-- No more was read than a head may have; or, where a head came, no more than it and the body that
-- is read for it.
abbrev pub ReadsNoMore : List ℕ → Type 0
ReadsNoMore bytes = (length bytes ≤ max_head)
    ⊎ ((h : RequestHead) × (rest : List ℕ) × (wanted : Wanted) × BeginsWith bytes h rest × (plan_of (said h) ≡ Ok wanted) × (length rest ≤ wanted.length))

-- A connection ended so. The reader had this input and has this left; the writer held these bytes
-- and holds those now. In each sound book for which the register stood, and as long as it is clean,
-- this was such an exchange, and the register stands for the book after it.
pub record IsConnection (clean : Type 0) (old new : Standing) (input left held now : Option (List ℕ)) (done : Result Served LinkFault) : Type 0 where
  pub bytes : List ℕ
  pub written : List ℕ
  pub consumed : Consumes input left bytes
  pub appended : Appends held now written
  pub exchanged : clean → InSound old (λ c b. (asked : Option Dealing) × (last : Book)
      × IsExchange c b (record { read = bytes; written = written; done = done; asked = asked }) last × new c last)
  pub truncated : IsErrOf done Truncated → IsAtEnd left × ((who : List ℕ → Option Actor) → IsOutcome who bytes written (Err (Fault Truncated)))
  pub silent : IfErr done (λ fault. is_silent fault ≡ true → IsInterim bytes written)
  pub bound : ReadsNoMore bytes

-- ---- on the way

-- The bytes that were read demand this, or demand nothing for this cause. This was written: the
-- interim reply that is due, or a front of it where a write failed.
abbrev pub Takes : Standing → List ℕ → List ℕ → Option (List ℕ) → Result Exchange Unasked → Type 0
Takes stands bytes written left (Ok exchange) = IsInterim bytes written × InSound stands (λ c b. IsOutcome (actor_of c b) bytes written (Ok exchange))
Takes stands bytes written left (Err (Engine rejection)) =
    IsInterim bytes written × InSound stands (λ c b. IsOutcome (actor_of c b) bytes written (Err (Engine rejection)))
Takes stands bytes written left (Err (Page part held)) =
    IsInterim bytes written × InSound stands (λ c b. IsOutcome (actor_of c b) bytes written (Err (Page part held)))
Takes stands bytes written left (Err (Explained word)) =
    IsInterim bytes written × InSound stands (λ c b. IsOutcome (actor_of c b) bytes written (Err (Explained word)))
Takes stands bytes written left (Err (Refused refusal)) =
    IsInterim bytes written × InSound stands (λ c b. IsOutcome (actor_of c b) bytes written (Err (Refused refusal)))
Takes stands bytes written left (Err (Fault Truncated)) =
    IsInterim bytes written × IsAtEnd left × ((who : List ℕ → Option Actor) → IsOutcome who bytes written (Err (Fault Truncated)))
Takes stands bytes written left (Err (Fault (WriteFailed asked))) = (asked ≡ false) × IsInterimFront bytes written
Takes stands bytes written left (Err (Fault fault)) = (asked_before fault ≡ false) × IsInterim bytes written

pub record HasTaken (stands : Standing) (input left held now : Option (List ℕ)) (taken : Result Exchange Unasked) : Type 0 where
  pub bytes : List ℕ
  pub written : List ℕ
  pub consumed : Consumes input left bytes
  pub appended : Appends held now written
  pub takes : Takes stands bytes written left taken
  pub bound : ReadsNoMore bytes

-- The last call of the writer was a flush, and did not fail.
abbrev pub WasFlushed : {W : Type 0} → (W → Result ⊤ Error → W → Type 0) → W → Type 0
WasFlushed {W} flushes last = (mid : W) × flushes mid (Ok tt) last

-- A front of the text was written behind what was there.
abbrev pub AppendsFront : Option (List ℕ) → Option (List ℕ) → List ℕ → Type 0
AppendsFront held now text = (written : List ℕ) × IsFront written text × Appends held now written

-- The text was written; or a write failed, and a front of the text was written.
abbrev pub WritesText : {E : Type 0} → List ℕ → Option (List ℕ) → Option (List ℕ) → Result ⊤ E → Type 0
WritesText text held now done = MatchResult done (λ _. Appends held now text) (λ _. AppendsFront held now text)

-- The interim reply was written, if the plan's body and the head want one; or they do, and a front of it was written, where a write failed.
abbrev pub Invites : Plan → HeadData → Option (List ℕ) → Option (List ℕ) → Result ⊤ LinkFault → Type 0
Invites plan head held now done = MatchResult done
    (λ _. Appends held now (continue_if (due plan.length head)))
    (λ fault. (fault ≡ WriteFailed false) × (due plan.length head ≡ true) × AppendsFront held now continue_reply)

-- The reply was written; or a write failed, and a front of the reply was written.
abbrev pub HasSent : ReplyText → Bool → Option (List ℕ) → Option (List ℕ) → Result Served LinkFault → Type 0
HasSent reply asked held now (Ok served) = Appends held now reply.bytes.items × (served.status ≡ reply.status) × (served.asked ≡ asked)
HasSent reply asked held now (Err fault) = (fault ≡ WriteFailed asked) × AppendsFront held now reply.bytes.items

-- The reply was sent so; or there is none, for want of memory, and nothing was written.
abbrev pub Sends : {E : Type 0} → Result ReplyText E → Bool → Option (List ℕ) → Option (List ℕ) → Result Served LinkFault → Type 0
Sends (Ok reply) asked held now done = HasSent reply asked held now done
Sends (Err _) asked held now done = (done ≡ Err (NoMemory asked)) × (now ≡ held)

-- A reply was written; or nothing of it, for want of memory; or a front of it, where a write failed.
abbrev pub HasReplied : Reply → Bool → Option (List ℕ) → Option (List ℕ) → Result Served LinkFault → Type 0
HasReplied reply asked held now (Ok served) = Appends held now (print reply) × (served.status ≡ reply.status) × (served.asked ≡ asked)
HasReplied reply asked held now (Err fault) =
    ((fault ≡ NoMemory asked) × Keeps held now) ⊎ ((fault ≡ WriteFailed asked) × AppendsFront held now (print reply))

-- The register dealt with the exchange, and stands for the book after it. This is the reply.
pub record HasDealt (clean : Type 0) (old new : Standing) (exchange : Exchange) (reply : Reply) : Type 0 where
  pub dealing : Dealing
  pub is_asked : asked_in dealing ≡ exchange
  pub deals : clean → InSound old (λ c b. (last : Book) × Deals c b dealing last × new c last)
  pub is_reply : IsReplyTo dealing reply

-- The register dealt with the exchange, and this is the text of the reply, if there is memory for it.
abbrev pub GivesReply : {E : Type 0} → Exchange → Type 0 → Standing → Standing → Result ReplyText E → Type 0
GivesReply exchange clean old new text = (reply : Reply) × HasDealt clean old new exchange reply × IfOk text (IsReply reply)

-- This is the plan's page, or why there is no plan.
abbrev pub IsPageOf : Result Picture Refusal → Result (Vec ℕ) Refusal → Type 0
IsPageOf (Ok plan) (Ok page) = IsPage plan page.items
IsPageOf (Ok plan) (Err _) = ⊥
IsPageOf (Err refusal) page = page ≡ Err refusal

-- This is the page of a plan that may be drawn, or there is none for a cause that may be. The
-- register stands for the same book as before.
abbrev pub HasDrawn : Actor → List ℕ → Option (List ℕ) → Type 0 → Standing → Standing → Result (Vec ℕ) Refusal → Type 0
HasDrawn reader variant since clean old new page =
    (drawn : Result Picture Refusal) × IsPageOf drawn page × (clean → InSound old (λ c b. new c b × MayDraw c b reader variant since drawn))

-- The register dealt with the exchange. The reply was written, or nothing of it for want of memory,
-- or a front of it where a write failed.
pub record HasAnswered (clean : Type 0) (old new : Standing) (exchange : Exchange) (held now : Option (List ℕ)) (done : Result Served LinkFault) : Type 0 where
  pub reply : Reply
  pub dealt : HasDealt clean old new exchange reply
  pub replied : HasReplied reply (is_ask exchange) held now done
