-- Run of lines: how lines may be answered one after another. What a line asks is a step, and a line that asks nothing
-- is refused. What answered lines ask. Which of them are one supplier's: those with its key, unless they were answered `Unavailable`; those
-- without a key, or whose key is nobody's, as its own is before it joins; and the integrator's that were done and are common or name it. When
-- the supplier is answered as if it were alone: a new register of the cluster file with this supplier alone gives these lines, one after
-- another, the same answers, and ends with the same rows of the supplier.
use Rattle.std.specs.Prelude.{◌≡◌, ℕ, Bool, true, false, List, [], ◌∷◌, map, take, Option, Some, None, Result, Ok, Err, if◌then◌else◌}
use Rattle.fr_base.specs.Alone.{alone, is_mine, is_unavailable, rows_of}
use Rattle.fr_base.specs.Book.{Book, opening}
use Rattle.fr_base.specs.Cluster.{Cluster, ClusterFile}
use Rattle.fr_base.specs.Names.{same_text}
use Rattle.fr_base.specs.Run.{IsRun}
use Rattle.fr_base.specs.Step.{Outcome, step}
use Rattle.fr_base.specs.declared.actor.Actor.{Actor}
use Rattle.fr_base.specs.declared.actor.Actor.TheVariants.{Integrator, Supplier}
use Rattle.fr_base.specs.declared.answer.Answer.{Answer}
use Rattle.fr_base.specs.declared.answer.Answer.TheVariants.{Refused}
use Rattle.fr_base.specs.declared.name.Name.{Name}
use Rattle.fr_base.specs.declared.refusal.Refusal.{Refusal}
use Rattle.fr_base.specs.declared.request.Ask.{Ask}
use Rattle.fr_base.specs.declared.request.Request.{Request}
use Rattle.fr_office.specs.Headline.{IsCollisionFree}
use Rattle.fr_cli.specs.Asked.{ask_in, request_in, sender_of}

-- ---- how lines may be answered

-- From the old book a line that reads so may be answered so, and then the book is the new one: what it asks is a step of the
-- register, or Unavailable where that may be; a line that asks nothing is refused, and changes nothing.
abbrev pub Replied : Cluster → Book → Result Ask Refusal → Answer → Book → Type 0
Replied c old (Ok ask) answer new = IsRun c old (ask ∷ []) (answer ∷ []) new
Replied c old (Err refusal) answer new = (answer ≡ Refused refusal) × (new ≡ old)

-- From this book the lines may be answered so, one after another, and then the book is the last: what a line asks, as the
-- book then stands, is answered; a line that asks nothing is refused, and changes nothing.
abbrev pub AreAnswered : Cluster → Book → List (List ℕ) → List Answer → Book → Type 0
AreAnswered c b [] [] last = last ≡ b
AreAnswered c b (line ∷ lines) (answer ∷ answers) last =
    (next : Book) × Replied c b (ask_in c b line) answer next × AreAnswered c next lines answers last
AreAnswered c b [] (_ ∷ _) last = ⊥
AreAnswered c b (_ ∷ _) [] last = ⊥

-- After so many of the lines the book was free of collisions.
pub record WasCollisionFreeAfter (f : ClusterFile) (lines : List (List ℕ)) (answers : List Answer) (n : ℕ) : Type 0 where
  pub book : Book
  pub before : AreAnswered f.cluster (opening f) (take n lines) (take n answers) book
  pub free : IsCollisionFree book

-- ---- the run in which none is Unavailable

-- what comes of a line that reads so: a step of the register; or it is refused, and nothing is changed
abbrev pub outcome_of : Cluster → Book → Result Ask Refusal → Outcome
outcome_of c b (Ok ask) = step c b ask.actor ask.request
outcome_of c b (Err refusal) = record { book = b; answer = Refused refusal }

-- what comes of a line, as the book stands
abbrev pub line_step : Cluster → Book → List ℕ → Outcome
line_step c b line = outcome_of c b (ask_in c b line)

-- the answers to lines, one after another
abbrev pub answers_to : Cluster → Book → List (List ℕ) → List Answer
answers_to c b [] = []
answers_to c b (line ∷ lines) = (line_step c b line).answer ∷ answers_to c (line_step c b line).book lines

-- the book after them
abbrev pub book_after : Cluster → Book → List (List ℕ) → Book
book_after c b [] = b
book_after c b (line ∷ lines) = book_after c (line_step c b line).book lines

-- ---- what answered lines ask

-- the book after a line that was answered so; one that was answered Unavailable has changed nothing
abbrev pub book_then : Cluster → Book → List ℕ → Answer → Book
book_then c b line answer = if is_unavailable answer then b else (line_step c b line).book

-- an ask with its answer before others; a line that asks nothing adds none
abbrev pub with_ask : Result Ask Refusal → Answer → List (Ask × Answer) → List (Ask × Answer)
with_ask (Ok ask) answer rest = (ask, answer) ∷ rest
with_ask (Err refusal) answer rest = rest

-- what lines that were answered so ask, each as the book then stood, in order and each with its answer
abbrev pub asks_in : Cluster → Book → List (List ℕ) → List Answer → List (Ask × Answer)
asks_in c b (line ∷ lines) (answer ∷ answers) =
    with_ask (ask_in c b line) answer (asks_in c (book_then c b line answer) lines answers)
asks_in c b _ _ = []

-- ---- what of answered lines is one supplier's

-- Whether a line that was sent so, and answered so, is among the supplier's. Nobody sends it: it has no key, or its key is nobody's, as the
-- supplier's is before it joins. Or what it asks is the supplier's: then it is its own, unless it was answered Unavailable, or a command of
-- the integrator's that was done and is common or names the supplier. Or it asks nothing, and has the supplier's key.
abbrev pub is_own : Name → Option Actor → Option Request → Answer → Bool
is_own s None request answer = true
is_own s (Some actor) (Some request) answer = is_mine s actor request answer
is_own s (Some (Supplier t)) None answer = same_text t s
is_own s (Some Integrator) None answer = false

-- the supplier's of lines that were answered so, each by its sender as the book then stood, in order and each with its answer
abbrev pub own_lines : Name → Cluster → Book → List (List ℕ) → List Answer → List (List ℕ × Answer)
own_lines s c b (line ∷ lines) (answer ∷ answers) =
    let rest = own_lines s c (book_then c b line answer) lines answers in
    if is_own s (sender_of c b line) (request_in line) answer then (line, answer) ∷ rest else rest
own_lines s c b _ _ = []

-- the lines
abbrev pub lines_of : Name → Cluster → Book → List (List ℕ) → List Answer → List (List ℕ)
lines_of s c b lines answers = map (λ own. own.0) (own_lines s c b lines answers)

-- their answers
abbrev pub answers_of : Name → Cluster → Book → List (List ℕ) → List Answer → List Answer
answers_of s c b lines answers = map (λ own. own.1) (own_lines s c b lines answers)

-- A script's lines were answered so, and then the book was the last: to this supplier as if it were alone. Take the cluster file with
-- this supplier alone, or with none where it does not name the supplier, and of the lines the supplier's. A new register of that file,
-- given these lines one after another, answers each as it was answered here, and ends with the supplier's rows of the last book.
pub record AreAsIfAlone (s : Name) (f : ClusterFile) (lines : List (List ℕ)) (answers : List Answer) (last : Book) : Type 0 where
  pub same : answers_to f.cluster (opening (alone s f)) (lines_of s f.cluster (opening f) lines answers) ≡ answers_of s f.cluster (opening f) lines answers
  pub rows : book_after f.cluster (opening (alone s f)) (lines_of s f.cluster (opening f) lines answers) ≡ rows_of s last
