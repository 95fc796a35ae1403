-- Exchanged: what happened on a connection: the bytes that were read and written, and what the
-- register was asked, with what it gave: a request's answer, or a picture's plan; or on which text
-- advice was given, for which it was asked only whose a key is. When that is an
-- exchange with a register from a book, and when several are, one after another. Which of them are
-- one supplier's; those that ask nothing are among them.
use Rattle.std.specs.Prelude.{◌≡◌, ◌⊎◌, ⊤, ℕ, Bool, true, false, not, ◌&&◌, List, [], ◌∷◌, ◌++◌, filter, Option, Some, None, Result, Ok, Err, MatchResult}
use Rattle.httparse.specs.Grammar.{RequestHead}
use Rattle.fr_base.specs.Actors.{actor_of}
use Rattle.fr_base.specs.Alone.{is_mine, lacked}
use Rattle.fr_base.specs.Book.{Book}
use Rattle.fr_base.specs.Cluster.{Cluster}
use Rattle.fr_base.specs.Names.{same_text}
use Rattle.fr_base.specs.Run.{IsRun}
use Rattle.fr_base.specs.declared.actor.Actor.{Actor}
use Rattle.fr_base.specs.declared.actor.Actor.TheVariants.{Integrator, Supplier}
use Rattle.fr_base.specs.declared.answer.Answer.{Answer}
use Rattle.fr_base.specs.declared.answer.Answer.TheVariants as answer
use Rattle.fr_base.specs.declared.name.Name.{Name}
use Rattle.fr_base.specs.declared.refusal.Refusal.{Refusal}
use Rattle.fr_base.specs.declared.request.Ask.{Ask}
use Rattle.fr_picture.specs.Pages.{IsPage}
use Rattle.fr_picture.specs.Plans.{IsPicture, MayRefusePicture}
use Rattle.fr_picture.specs.declared.plan.Plan.{Plan}
use Rattle.std.specs.Global.{Vec}
use Rattle.fr_guide.specs.Advice.{IsAdvice}
use Rattle.fr_guide.specs.Explaining.{Explains, ListsAll}
use Rattle.fr_guide.specs.RefusalNumbers.{meant_word}
use Rattle.fr_guide.specs.declared.advice.Subject.{Subject}
use Rattle.fr_http.specs.Head.{BeginsWith, said}
use Rattle.fr_http.specs.Outcome.{IsOutcome, asked_before, continue_reply, interim, is_ask}
use Rattle.fr_http.specs.Reply.{Reply, advice_reply, answer_reply, engine_reply, explanation_reply, page_reply, print}
use Rattle.fr_http.specs.PageReply.{planner_reply}
use Rattle.fr_http.specs.declared.exchange.Exchange.{Exchange}
use Rattle.fr_http.specs.declared.exchange.Exchange.TheVariants as exchange
use Rattle.fr_http.specs.declared.fault.LinkFault.{LinkFault}
use Rattle.fr_http.specs.declared.fault.LinkFault.TheVariants.{WriteFailed}
use Rattle.fr_http.specs.declared.fault.Rejection.TheVariants.{NotFound}
use Rattle.fr_http.specs.declared.fault.Unasked.{Unasked}
use Rattle.fr_http.specs.declared.fault.Unasked.TheVariants.{Engine, Explained, Page, Refused, Fault}
use Rattle.fr_http.specs.declared.method.Method.{Method}
use Rattle.fr_http.specs.declared.method.Method.TheVariants.{Get, Post}
use Rattle.fr_http.specs.declared.serve.Served.{Served}

-- ---- one connection

-- What the register was asked, and what it gave: a request with its method, and the answer; or the
-- picture of a variant, perhaps since another one, and the plan as the reader sees it, or why there is none; or it was asked
-- whose a key is, and gave advice on a text.
pub data Dealing : Type 0 where
  Answered : Ask → Method → Answer → Dealing
  Drawn : Actor → List ℕ → Option (List ℕ) → Result Plan Refusal → Dealing
  Advised : Actor → Subject → List ℕ → Dealing

-- the exchange that the register dealt with
abbrev pub asked_in : Dealing → Exchange
asked_in (Answered ask method answer) = exchange.Request ask method
asked_in (Drawn reader variant since drawn) = exchange.Picture reader variant since
asked_in (Advised reader subject text) = exchange.Advice reader subject text

-- whether the register was asked for more than whose a key is
abbrev pub is_asked : Option Dealing → Bool
is_asked None = false
is_asked (Some dealing) = is_ask (asked_in dealing)

-- What happened on a connection: the bytes that were read and those that were written; how it
-- ended; and what the register was asked, with what it gave, if it was asked.
pub record Exchanged : Type 0 where
  pub read : List ℕ
  pub written : List ℕ
  pub done : Result Served LinkFault
  pub asked : Option Dealing

-- whether the register was asked
abbrev pub was_asked : Result Served LinkFault → Bool
was_asked (Ok served) = served.asked
was_asked (Err fault) = asked_before fault

-- the reply with a text that was found, or that there is none
abbrev pub found_reply : Option (Vec ℕ) → Reply
found_reply (Some text) = explanation_reply text.items
found_reply None = engine_reply NotFound

-- The reply says what the word means, or the refusal of this number; or that there is nothing, where no word is explained; or, without a
-- word, a line on each that is.
abbrev pub IsExplanation : Option (List ℕ) → Reply → Type 0
IsExplanation None reply = (text : List ℕ) × ListsAll text × (reply ≡ explanation_reply text)
IsExplanation (Some word) reply = (found : Option (Vec ℕ)) × Explains (meant_word word) found × (reply ≡ found_reply found)

-- The reply has advice on the text.
abbrev pub AdvisesOn : Subject → List ℕ → Reply → Type 0
AdvisesOn subject text reply = (lines : List ℕ) × IsAdvice subject text lines × (reply ≡ advice_reply lines)

-- The reply is that where nothing is asked of the register, for this cause.
abbrev pub IsReplyWithout : Unasked → Reply → Type 0
IsReplyWithout (Explained word) reply = IsExplanation word reply
IsReplyWithout (Engine rejection) reply = reply ≡ engine_reply rejection
IsReplyWithout (Page part held) reply = reply ≡ planner_reply part held
IsReplyWithout (Refused refusal) reply = reply ≡ answer_reply Post (answer.Refused refusal)
IsReplyWithout (Fault fault) reply = ⊥

-- The text begins so.
abbrev pub IsFront : List ℕ → List ℕ → Type 0
IsFront front text = (missing : List ℕ) × (text ≡ front ++ missing)

-- A fault came. Where a write failed, a front of the interim reply and the reply was written. Else
-- the interim reply alone was written.
abbrev pub IsBrokenOff : LinkFault → List ℕ → List ℕ → Reply → Type 0
IsBrokenOff (WriteFailed _) written before reply = IsFront written (before ++ print reply)
IsBrokenOff _ written before reply = written ≡ before

-- Where the connection was served, this interim reply was written and then the reply, whose status
-- was told. Else the replies were broken off.
abbrev pub IsTold : Exchanged → List ℕ → Reply → Type 0
IsTold x before reply = MatchResult x.done
    (λ served. (x.written ≡ before ++ print reply) × (served.status ≡ reply.status))
    (λ fault. IsBrokenOff fault x.written before reply)

-- From this book the variant's plan may be drawn as the reader sees it, with what is new in it since the variant that is
-- named, if one is, and what is gone; or there is no plan for this cause.
abbrev pub MayDraw : Cluster → Book → Actor → List ℕ → Option (List ℕ) → Result Plan Refusal → Type 0
MayDraw c b reader variant since drawn = MatchResult drawn (IsPicture c b reader variant since) (MayRefusePicture c b reader variant since)

-- From this book the register deals with the exchange, and the last book is the one after that. A
-- request is answered by one step. A picture, and advice, leave the book as it is.
abbrev pub Deals : Cluster → Book → Dealing → Book → Type 0
Deals c b (Answered ask method answer) last = IsRun c b (ask ∷ []) (answer ∷ []) last
Deals c b (Drawn reader variant since drawn) last = (last ≡ b) × MayDraw c b reader variant since drawn
Deals c b (Advised reader subject text) last = last ≡ b

-- The reply is that of the answer, by the request's method; or it has the page of the plan; or it
-- is the refusal of a GET; or it has advice.
abbrev pub IsReplyTo : Dealing → Reply → Type 0
IsReplyTo (Answered ask method answer) reply = reply ≡ answer_reply method answer
IsReplyTo (Drawn reader variant since (Ok plan)) reply = (page : List ℕ) × IsPage plan page × (reply ≡ page_reply page)
IsReplyTo (Drawn reader variant since (Err refusal)) reply = reply ≡ answer_reply Get (answer.Refused refusal)
IsReplyTo (Advised reader subject text) reply = AdvisesOn subject text reply

-- From this book the bytes that were read demand this. The register dealt with it, and the last
-- book is the one after that. This was the reply.
pub record IsAnswered (c : Cluster) (b : Book) (x : Exchanged) (dealing : Dealing) (last : Book) : Type 0 where
  pub before : List ℕ
  pub outcome : IsOutcome (actor_of c b) x.read before (Ok (asked_in dealing))
  pub deals : Deals c b dealing last
  pub reply : Reply
  pub is_reply : IsReplyTo dealing reply
  pub told : IsTold x before reply

-- From this book the bytes that were read demand nothing, for this cause, to which there is a
-- reply.
pub record IsReplied (c : Cluster) (b : Book) (x : Exchanged) : Type 0 where
  pub before : List ℕ
  pub unasked : Unasked
  pub outcome : IsOutcome (actor_of c b) x.read before (Err unasked)
  pub reply : Reply
  pub is_reply : IsReplyWithout unasked reply
  pub told : IsTold x before reply

-- Nothing but an interim reply that is due was written.
abbrev pub IsInterim : List ℕ → List ℕ → Type 0
IsInterim bytes [] = ⊤
IsInterim bytes (w ∷ ws) = (h : RequestHead) × (rest : List ℕ) × BeginsWith bytes h rest × (w ∷ ws ≡ interim (said h))

-- An interim reply is due, and a front of it was written.
abbrev pub IsInterimFront : List ℕ → List ℕ → Type 0
IsInterimFront bytes written =
    (h : RequestHead) × (rest : List ℕ) × BeginsWith bytes h rest × (interim (said h) ≡ continue_reply) × IsFront written continue_reply

-- Nothing was asked, as the end of the connection says. Where it was served, there was a reply.
-- Where a write failed, it was a write of the reply or of the interim reply. Where another fault
-- came, no more than the interim reply was written.
abbrev pub IsUnasked : Cluster → Book → Exchanged → Result Served LinkFault → Type 0
IsUnasked c b x (Ok _) = IsReplied c b x
IsUnasked c b x (Err (WriteFailed _)) = IsReplied c b x ⊎ IsInterimFront x.read x.written
IsUnasked c b x (Err _) = IsInterim x.read x.written

-- The register was asked and answered; or it was not asked, and the book stays.
abbrev pub Asks : Cluster → Book → Exchanged → Option Dealing → Book → Type 0
Asks c b x (Some dealing) last = IsAnswered c b x dealing last
Asks c b x None last = (last ≡ b) × IsUnasked c b x x.done

-- From this book a connection may be served so, and the last book is the one after that.
abbrev pub IsExchange : Cluster → Book → Exchanged → Book → Type 0
IsExchange c b x last = (was_asked x.done ≡ is_asked x.asked) × Asks c b x x.asked last

-- ---- connections one after another

-- From this book connections may be served so, one after another, and the last book is the one
-- after them.
abbrev pub AreExchanged : Cluster → Book → List Exchanged → Book → Type 0
AreExchanged c b [] last = last ≡ b
AreExchanged c b (x ∷ xs) last = (next : Book) × IsExchange c b x next × AreExchanged c next xs last

-- whether there is no plan because memory or the store was wanting
abbrev pub lacks_plan : Result Plan Refusal → Bool
lacks_plan (Ok plan) = false
lacks_plan (Err refusal) = lacked refusal

-- whether a picture that the reader asked for is the supplier's: its own, unless it was Unavailable
abbrev pub is_own_picture : Name → Actor → Result Plan Refusal → Bool
is_own_picture s (Supplier t) drawn = same_text t s && not (lacks_plan drawn)
is_own_picture s Integrator drawn = false

-- whether advice that the reader asked for is the supplier's: its own
abbrev pub is_own_advice : Name → Actor → Bool
is_own_advice s (Supplier t) = same_text t s
is_own_advice s Integrator = false

-- Whether an exchange is among the supplier's, by what was asked and answered: its own, unless it
-- was answered Unavailable; or the integrator's, if it was done and is common or names the
-- supplier. An exchange that asks nothing is among them, whoever sent it. So is what the supplier
-- sends before it joins, when its key is nobody's.
abbrev pub is_own : Name → Option Dealing → Bool
is_own s None = true
is_own s (Some (Answered ask method answer)) = is_mine s ask.actor ask.request answer
is_own s (Some (Drawn reader variant since drawn)) = is_own_picture s reader drawn
is_own s (Some (Advised reader subject text)) = is_own_advice s reader

-- the exchanges that are the supplier's, and those that ask nothing, in order
abbrev pub own_exchanges : Name → List Exchanged → List Exchanged
own_exchanges s xs = filter (λ x. is_own s x.asked) xs
