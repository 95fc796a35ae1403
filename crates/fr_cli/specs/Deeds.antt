-- Deed: what a job did with the register of a file that it opened. From which book it leads to which, by which requests with
-- which answers. Which deed a job did, by what it read and what it printed or told of an answer.
use Rattle.std.specs.Prelude.{◌≡◌, ◌⊎◌, ℕ, Bool, List, [], ◌∷◌, ◌++◌, length, map, Option, Some, None, Result, Err, IfSome}
use Rattle.std.specs.Global.{Vec}
use Rattle.std.specs.Io.KnownBytes.{Appends}
use Rattle.fr_base.specs.Book.{Book}
use Rattle.fr_base.specs.Cluster.{Cluster}
use Rattle.fr_base.specs.declared.actor.Actor.{Actor}
use Rattle.fr_base.specs.declared.answer.Answer.{Answer}
use Rattle.fr_base.specs.declared.refusal.Refusal.{Refusal}
use Rattle.fr_base.specs.declared.request.Ask.{Ask}
use Rattle.fr_desks.specs.Sessions.{Session}
use Rattle.fr_http.specs.Exchanges.{Answered, AreExchanged, Dealing, Exchanged}
use Rattle.fr_picture.specs.Pages.{IsPage}
use Rattle.fr_picture.specs.Plans.{since_of}
use Rattle.fr_picture.specs.declared.plan.Plan.{Plan}
use Rattle.fr_cli.specs.AnsweredLines.{EndsAnswer}
use Rattle.fr_cli.specs.SingleRequest.{asked_with, for_reader, query_of}
use Rattle.fr_cli.specs.Deliveries.{request_with}
use Rattle.fr_cli.specs.RequestStream.{AreFirstOf}
use Rattle.fr_cli.specs.Jobs.{Shows, Streams}
use Rattle.fr_cli.specs.Outlets.{held_before, held_behind}
use Rattle.fr_cli.specs.Keys.{IsKeyGiven}
use Rattle.fr_cli.specs.Numbered.{answers_text, numbered_lines, without_numbers}
use Rattle.fr_cli.specs.Performing.{Says}
use Rattle.fr_cli.specs.Picturing.{plans_for}
use Rattle.fr_cli.specs.Queries.{reader_named}
use Rattle.fr_cli.specs.Reading.{PrintsRead}
use Rattle.fr_cli.specs.ScriptRun.{AreAnswered, Replied, asks_in, with_ask}
use Rattle.fr_cli.specs.Texts.{Readings, max_rows}
use Rattle.fr_cli.specs.Visits.{Comings, SinkGhosts, Visit, visit_of}
use Rattle.fr_cli.specs.declared.words.delivery.Delivery.{Delivery}
use Rattle.fr_cli.specs.declared.failure.Failure.{Failure}
use Rattle.fr_cli.specs.declared.failure.Failure.TheVariants as failure
use Rattle.fr_cli.specs.declared.fault.Fault.TheVariants.{NoMemory}
use Rattle.fr_cli.specs.declared.words.Job.{Job}
use Rattle.fr_cli.specs.declared.words.Job.TheVariants as job

-- What a job did: it answered lines; or served connections; or asked something, and was answered so; or read a variant's plan for a
-- reader, or why there is none. Where there is no answer or no plan, memory was wanting: this was asked or read, or it was not.
pub data Deed : Type 0 where
  Lines : List (List ℕ) → List Answer → Deed
  Visits : List Visit → Deed
  Asked : (Cluster → Book → Result Ask Refusal) → Option Answer → Deed
  Drawn : Option Actor → List ℕ → Option (List ℕ) → Option (Result Plan Refusal) → Deed

-- ---- from book to book

-- these requests with these answers, as a session has them
abbrev pub session_of : List (Ask × Answer) → Session
session_of asked = record { asks = map (λ one. one.0) asked; answers = map (λ one. one.1) asked }

-- the request that a register answered, with its answer; a picture and advice ask none
abbrev pub asks_at : Option Dealing → List (Ask × Answer)
asks_at (Some (Answered ask method answer)) = (ask, answer) ∷ []
asks_at _ = []

-- what connections asked, in order and each with its answer
abbrev pub asks_by : List Exchanged → List (Ask × Answer)
asks_by [] = []
asks_by (x ∷ xs) = asks_at x.asked ++ asks_by xs

-- From this book this was asked and answered so; a request that asks nothing was refused, and is none of the session's.
abbrev pub WasReplied : Cluster → Book → Result Ask Refusal → Answer → Session → Book → Type 0
WasReplied c b asks answer done last = Replied c b asks answer last × (done ≡ session_of (with_ask asks answer []))

-- From this book nothing was asked.
abbrev pub WasLeft : Book → Session → Book → Type 0
WasLeft b done last = (last ≡ b) × (done ≡ session_of [])

-- From this book the deed asks this and is answered so, if it asks anything, and the last book is the one after that.
abbrev pub Did : Cluster → Book → Deed → Session → Book → Type 0
Did c b (Lines lines answers) done last = AreAnswered c b lines answers last × (done ≡ session_of (asks_in c b lines answers))
Did c b (Visits visits) done last = (xs : List Exchanged) × (map visit_of xs ≡ visits) × AreExchanged c b xs last × (done ≡ session_of (asks_by xs))
Did c b (Asked asks (Some answer)) done last = WasReplied c b (asks c b) answer done last
Did c b (Asked asks None) done last = WasLeft b done last ⊎ ((answer : Answer) × WasReplied c b (asks c b) answer done last)
Did c b (Drawn reader variant since (Some drawn)) done last = plans_for reader variant since c b drawn × WasLeft b done last
Did c b (Drawn reader variant since None) done last = WasLeft b done last

-- ---- which deed a job did

-- These are the requests of the input, where that is known: all of them where the job was done, else the first of them. Their answers were
-- written, a line for each, with the numbers of their lines in the input where these are wanted; where the job was not done, the end of one answer
-- may lack, or all of it.
pub record WereLines {O E : Type 0} {printed : SinkGhosts O} {told : SinkGhosts E} (numbered : Bool) (s : Streams printed told) (status : ℕ) (lines : List (List ℕ)) (answers : List Answer) : Type 0 where
  pub asked : List (ℕ × List ℕ)
  pub these : lines ≡ without_numbers asked
  pub first : IfSome s.input.old (AreFirstOf asked)
  pub each : length answers ≡ length asked
  pub written : List ℕ
  pub missing : List ℕ
  pub appended : Appends (held_before s.out) (held_behind s.out) written
  pub one : EndsAnswer numbered missing
  pub bytes : written ++ missing ≡ answers_text numbered asked answers
  pub all : status ≡ 0 → (missing ≡ []) × IfSome s.input.old (λ input. asked ≡ numbered_lines 1 input)

-- This answer was printed or told, by its outcome; or a front of it, where no more could be written.
abbrev pub IsShown : {O E : Type 0} {printed : SinkGhosts O} {told : SinkGhosts E} → Streams printed told → ℕ → Answer → Type 0
IsShown s status answer = (done : Result (Vec ℕ) Failure) × Shows done s status × Says (λ fault. ⊥) (λ a. a ≡ answer) done

-- The page of the plan was printed so, or told why there is none.
abbrev pub IsDrawn : {O E : Type 0} {printed : SinkGhosts O} {told : SinkGhosts E} → Streams printed told → ℕ → Result Plan Refusal → Type 0
IsDrawn s status drawn = (done : Result (Vec ℕ) Failure) × Shows done s status × PrintsRead (λ fault. ⊥) (λ r. r ≡ drawn) IsPage done

-- Nothing was printed, and it was told so that memory was wanting.
abbrev pub LacksAnswer : {O E : Type 0} {printed : SinkGhosts O} {told : SinkGhosts E} → Streams printed told → ℕ → Type 0
LacksAnswer s status = Shows (Err (failure.Fault NoMemory)) s status

-- This is what was asked of a delivery: with what was read of its file, by whoever has the key that was given.
abbrev pub IsAskedOf : {O E : Type 0} {printed : SinkGhosts O} {told : SinkGhosts E} → Readings → Delivery → Streams printed told → (Cluster → Book → Result Ask Refusal) → Type 0
IsAskedOf read delivery s asks = (body key : List ℕ) × read.front max_rows delivery.file.now body
    × IsKeyGiven delivery.key.now s.input.old s.input.new key × (asks ≡ asked_with key (request_with delivery body))

-- The job did this, by what was read of text files, the connections that came in, its streams and its status.
abbrev pub IsDeedOf : {O E : Type 0} {printed : SinkGhosts O} {told : SinkGhosts E} → Readings → Comings → Streams printed told → ℕ → Job → Deed → Type 0
IsDeedOf read comings s status (job.Ask db numbered) (Lines lines answers) = WereLines numbered s status lines answers
IsDeedOf read comings s status (job.Serve db port count seconds memory) (Visits visits) = comings.at port seconds visits × (status ≡ 0 → length visits ≡ count)
IsDeedOf read comings s status (job.Report db query) (Asked asks (Some answer)) = (asks ≡ query_of query) × IsShown s status (for_reader answer)
IsDeedOf read comings s status (job.Report db query) (Asked asks None) = (asks ≡ query_of query) × LacksAnswer s status
IsDeedOf read comings s status (job.Picture db variant since supplier) (Drawn reader of from (Some drawn)) =
    (reader ≡ reader_named supplier) × (of ≡ variant.now) × (from ≡ since_of since) × IsDrawn s status drawn
IsDeedOf read comings s status (job.Picture db variant since supplier) (Drawn reader of from None) =
    (reader ≡ reader_named supplier) × (of ≡ variant.now) × (from ≡ since_of since) × LacksAnswer s status
IsDeedOf read comings s status (job.Deliver db delivery) (Asked asks (Some answer)) = IsAskedOf read delivery s asks × IsShown s status answer
IsDeedOf read comings s status (job.Deliver db delivery) (Asked asks None) = IsAskedOf read delivery s asks × LacksAnswer s status
IsDeedOf read comings s status _ _ = ⊥
