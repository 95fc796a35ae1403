-- Report, change, trial, proposal: what a command asks of a register, and what it prints of the answer. That is the report, the
-- answer's line, or the line of one that refuses.
use Rattle.std.specs.Prelude.{◌≡◌, ◌⊎◌, ℕ, List, Result, Ok, Err}
use Rattle.std.specs.Global.{Vec}
use Rattle.fr_base.specs.Actors.{actor_of}
use Rattle.fr_base.specs.Book.{Book}
use Rattle.fr_base.specs.Cluster.{Cluster}
use Rattle.fr_base.specs.Desks.{InSound}
use Rattle.fr_base.specs.declared.answer.Answer.{Answer}
use Rattle.fr_base.specs.declared.answer.Answer.TheVariants.{Refused}
use Rattle.fr_base.specs.declared.refusal.Refusal.{Refusal}
use Rattle.fr_base.specs.declared.refusal.Refusal.TheVariants.{NoSupplier, UnknownKey}
use Rattle.fr_base.specs.declared.request.Ask.{Ask}
use Rattle.fr_base.specs.declared.request.Request.{Request}
use Rattle.fr_world.specs.Held.{Standing}
use Rattle.fr_cli.specs.Asked.{asked_by}
use Rattle.fr_cli.specs.Outcomes.{line_of, outcome_of, printed_of, said_of}
use Rattle.fr_cli.specs.Queries.{reader_of, request_for}
use Rattle.fr_cli.specs.ScriptRun.{Replied}
use Rattle.fr_cli.specs.declared.words.inquiry.Inquiry.{Inquiry}
use Rattle.fr_cli.specs.declared.failure.Failure.{Failure}
use Rattle.fr_cli.specs.declared.failure.Failure.TheVariants as failure
use Rattle.fr_cli.specs.declared.fault.Fault.TheVariants.{NoMemory}
use Rattle.fr_cli.specs.declared.streams.outcome.Outcome.TheVariants as outcome

-- the report is asked for by who reads it
abbrev pub query_of : Inquiry → Cluster → Book → Result Ask Refusal
query_of query c b = asked_by (reader_of query) (request_for query)

-- whoever has the key asks for this
abbrev pub asked_with : List ℕ → Request → Cluster → Book → Result Ask Refusal
asked_with key request c b = asked_by (actor_of c b key) request

-- the answer as a reader is told it whom the command line names: it gave no key, so nobody of that name is no such supplier
abbrev pub for_reader : Answer → Answer
for_reader (Refused UnknownKey) = Refused NoSupplier
for_reader answer = answer

-- Such an answer, as a reader is told it.
abbrev pub IsForReader : (Answer → Type 0) → Answer → Type 0
IsForReader Is answer = (given : Answer) × Is given × (answer ≡ for_reader given)

-- In each sound book for which the register stood this was asked, and may be answered so; and the register stands for the book
-- after it.
abbrev pub IsAnswer : (Cluster → Book → Result Ask Refusal) → Type 0 → Standing → Standing → Answer → Type 0
IsAnswer asks clean old new answer = clean → InSound old (λ c b. (last : Book) × Replied c b (asks c b) answer last × new c last)

-- The register stands for the same book, or for the one after this was asked.
abbrev pub Leads : Type 0 → Standing → Standing → (Cluster → Book → Result Ask Refusal) → Type 0
Leads clean old new asks = clean → InSound old (λ c b. (last : Book) × ((last ≡ b) ⊎ ((answer : Answer) × Replied c b (asks c b) answer last)) × new c last)

-- How a job ends that was answered so: what is printed of the answer, by its outcome; or memory was wanting.
abbrev pub Prints : (Answer → Type 0) → Result (Vec ℕ) Failure → Type 0
Prints Is (Ok text) = (answer : Answer) × Is answer × (outcome_of answer ≡ outcome.Done) × (text.items ≡ printed_of answer)
Prints Is (Err (failure.RefusedRows text)) = (answer : Answer) × Is answer × (outcome_of answer ≡ outcome.RefusedRows) × (text.items ≡ printed_of answer)
Prints Is (Err (failure.UnplacedWishes file lines)) = (answer : Answer) × Is answer × (outcome_of answer ≡ outcome.UnplacedWishes)
    × ((file.items ≡ printed_of answer) × (lines.items ≡ said_of answer))
Prints Is (Err (failure.Refused line)) = (answer : Answer) × Is answer × (outcome_of answer ≡ outcome.Refused) × (line.items ≡ line_of answer)
Prints Is (Err (failure.Fault fault)) = fault ≡ NoMemory

-- The job ends so by this answer.
abbrev pub IsToldBy : Answer → Result (Vec ℕ) Failure → Type 0
IsToldBy answer done = Prints (λ a. a ≡ answer) done

-- What failed so was answered by this line; or memory was wanting for it.
abbrev pub IsRefusedBy : Answer → Failure → Type 0
IsRefusedBy answer (failure.RefusedRows text) = ⊥
IsRefusedBy answer (failure.UnplacedWishes file lines) = ⊥
IsRefusedBy answer (failure.Refused line) = line.items ≡ line_of answer
IsRefusedBy answer (failure.Fault fault) = fault ≡ NoMemory
