-- Crashed: when records answered requests one after another. What a crash leaves then: the book
-- after all that was answered, or after one more request, which was answered `Unavailable`. When a
-- register that is found afterwards is as promised. When records stand for a book that a crash
-- leaves, or leaves after one more request.
use Rattle.std.specs.Global.{Vec}
use Rattle.std.specs.Prelude.{◌≡◌, ◌⊎◌, List, [], ◌∷◌, ◌++◌, length, take, Result, MatchResult, ⊤}
use Rattle.fr_base.specs.Book.{Book}
use Rattle.fr_base.specs.Cluster.{Cluster}
use Rattle.fr_base.specs.Run.{IsRun}
use Rattle.fr_base.specs.Sound.{IsSound}
use Rattle.fr_base.specs.Step.{step}
use Rattle.fr_base.specs.declared.answer.Answer.{Answer}
use Rattle.fr_base.specs.declared.answer.Answer.TheVariants.{Done, Replaced, Refused}
use Rattle.fr_base.specs.declared.refusal.Refusal.TheVariants.{Unavailable}
use Rattle.fr_base.specs.declared.request.Ask.{Ask}
use Rattle.fr_office.specs.Answers.{Answers, KeepsChange, LeavesStep}
use Rattle.fr_office.specs.Headline.{WereAnswered}
use Rattle.fr_office.specs.KeptPages.{StandsWarm, WarmData}
use Rattle.fr_office.specs.declared.running.Stopped.{Stopped}
use Rattle.fr_world.specs.Held.{Leaving, Standing}

-- The request was answered by one step, or Unavailable. Until the answer a crash left what it left
-- before, or the register after the step. A change that was answered is kept.
pub record IsTurn {R : Type 0} (stands : R → Standing) (leaves : R → Leaving) (old : R) (ask : Ask) (answer : Answer) (new : R) : Type 0 where
  pub answers : Answers (stands old) (stands new) ask answer
  pub left : LeavesStep (stands old) (leaves old) (leaves new) ask
  pub keeps : KeepsChange (stands old) (leaves new) ask answer

-- From the first records to the last these requests had these answers, one after another.
abbrev pub WereAsked : {R : Type 0} → (R → Standing) → (R → Leaving) → R → List Ask → List Answer → R → Type 0
WereAsked stands leaves first [] [] last = last ≡ first
WereAsked {R} stands leaves first (ask ∷ asks) (answer ∷ answers) last = (after : R) × IsTurn stands leaves first ask answer after × WereAsked stands leaves after asks answers last
WereAsked stands leaves first [] (_ ∷ _) last = ⊥
WereAsked stands leaves first (_ ∷ _) [] last = ⊥

-- From the first records to the last all the requests had these answers; or, where memory ended,
-- those before had.
abbrev pub AsksEach : {R : Type 0} → (R → Standing) → (R → Leaving) → R → R → List Ask → Result (Vec Answer) Stopped → Type 0
AsksEach stands leaves first last asks result = MatchResult result
    (λ answers. WereAsked stands leaves first asks answers.items last)
    (λ stopped. WereAsked stands leaves first (take (length stopped.answers.items) asks) stopped.answers.items last)

-- The answer does not say that something was changed. That of an import does not: the import may have come again.
abbrev pub TellsNoChange : Answer → Type 0
TellsNoChange Done = ⊥
TellsNoChange (Replaced rows) = ⊥
TellsNoChange _ = ⊤

-- From this book the request was not carried out: its answer tells of no change, and it was answered Unavailable, or its step leaves the book.
abbrev pub WasNotDone : Cluster → Book → Ask → Answer → Type 0
WasNotDone c b ask answer = TellsNoChange answer × ((answer ≡ Refused Unavailable) ⊎ ((step c b ask.actor ask.request).book ≡ b))

-- From this book, which stays, none of the requests was carried out.
abbrev pub NoneDone : Cluster → Book → List Ask → List Answer → Type 0
NoneDone c b (ask ∷ asks) (answer ∷ answers) = WasNotDone c b ask answer × NoneDone c b asks answers
NoneDone c b [] [] = ⊤
NoneDone c b [] (_ ∷ _) = ⊥
NoneDone c b (_ ∷ _) [] = ⊥

-- From this book the requests up to this one were answered so. This one was answered Unavailable, and no request behind it was carried out.
abbrev pub WasLacking : Cluster → Book → List Ask → List Answer → Ask → Type 0
WasLacking c b (first ∷ asks) (answer ∷ answers) ask = (next : Book) × IsRun c b (first ∷ []) (answer ∷ []) next
    × (((ask ≡ first) × (answer ≡ Refused Unavailable) × NoneDone c next asks answers) ⊎ WasLacking c next asks answers ask)
WasLacking c b [] answers ask = ⊥
WasLacking c b asks [] ask = ⊥

-- The book is this one, or the one after one more of these requests.
abbrev pub IsOrNext : Cluster → (Ask → Type 0) → Book → Book → Type 0
IsOrNext c Of book x = (x ≡ book) ⊎ ((ask : Ask) × Of ask × (x ≡ (step c book ask.actor ask.request).book))

abbrev pub EachBook : (Book → Type 0) → List Book → Type 0
EachBook P [] = ⊤
EachBook P (book ∷ books) = P book × EachBook P books

-- The requests were answered so, and the register now stands for the book to which that led. What a crash leaves is this book, or the one
-- after one request more, which had been answered Unavailable, and behind which no other was carried out.
pub record WereKept (now : Book → Type 0) (leaves : List Book → Type 0) (c : Cluster) (b : Book) (asks : List Ask) (answers : List Answer) : Type 0 where
  pub last : Book
  pub stands : now last
  pub run : IsRun c b asks answers last
  pub books : List Book
  pub left : leaves books
  pub each : EachBook (IsOrNext c (WasLacking c b asks answers) last) books

-- Where the records stood for a sound book, and a crash left that book alone, this holds of all the
-- requests; or, where memory ended, of those before.
abbrev pub KeepsEach : {R : Type 0} → (R → Standing) → (R → Leaving) → R → R → List Ask → Result (Vec Answer) Stopped → Type 0
KeepsEach stands leaves first last asks result = (c : Cluster) (b : Book) → stands first c b → IsSound c b → leaves first c (b ∷ []) → MatchResult result
    (λ answers. WereKept (stands last c) (leaves last c) c b asks answers.items)
    (λ stopped. WereKept (stands last c) (leaves last c) c b (take (length stopped.answers.items) asks) stopped.answers.items)

-- This holds of whatever is asked of records of which a crash leaves their book, from a sound book
-- on.
abbrev pub KeepsAnswered : {R : Type 0} → (R → Standing) → (R → Leaving) → Type 0
KeepsAnswered {R} stands leaves = (c : Cluster) (b : Book) (first last : R) (asks : List Ask) (answers : List Answer) → WereAsked stands leaves first asks answers last → stands first c b → IsSound c b
    → leaves first c (b ∷ []) → WereKept (stands last c) (leaves last c) c b asks answers

-- A register that is found afterwards is as promised: of the requests as they were answered, or of these and one more, which had been
-- answered Unavailable, and behind which no other was carried out.
abbrev pub IsFound : (Book → Type 0) → Cluster → Book → List Ask → List Answer → Type 0
IsFound now c b asks answers =
    WereAnswered now c b asks answers
    ⊎ ((ask : Ask) × (answer : Answer) × WasLacking c b asks answers ask × WereAnswered now c b (asks ++ ask ∷ []) (answers ++ answer ∷ []))

-- The book is the first one, or the one after one more request, whichever it was.
abbrev pub IsNear : Cluster → Book → Book → Type 0
IsNear c = IsOrNext c (λ _. ⊤)

-- A crash leaves the book, with all that was answered, or the one after one more request. Each book
-- that it may leave is one of these.
pub record IsKept (leaves : List Book → Type 0) (c : Cluster) (b : Book) : Type 0 where
  pub books : List Book
  pub left : leaves books
  pub each : EachBook (IsNear c b) books

-- The records stand for the book, and no page beside them is stale. A crash leaves the book, or the
-- one after one more request.
abbrev pub StandsKept : {R : Type 0} → (R → Standing) → (R → Leaving) → WarmData R → Standing
StandsKept stands leaves warm c b = StandsWarm stands warm c b × IsKept (leaves warm.records c) c b

-- what a crash leaves of the records
abbrev pub leaves_of : {R : Type 0} → (R → Leaving) → WarmData R → Leaving
leaves_of leaves warm = leaves warm.records

-- whether the records serve
abbrev pub serves_of : {R : Type 0} → (R → Type 0) → WarmData R → Type 0
serves_of serves warm = serves warm.records
