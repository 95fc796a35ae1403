-- What is printed of an answer, and what of the register follows of it.
use Rattle.std.proofs.Common.{◌≡◌, ◌∙◌, List, None, ℕ, Ok, Err, OnOk, Option, Some, Result, inl, inr, refl, subst, sym}
use Rattle.std.specs.Prelude.{◌⊎◌, IfErr, ⊤}
use Rattle.fr_base.specs.Book.{Book}
use Rattle.fr_base.specs.Cluster.{Cluster}
use Rattle.fr_base.specs.declared.desk.Desk as Desk
use Rattle.fr_base.specs.declared.actor.Actor.{Actor}
use Rattle.fr_base.specs.declared.answer.Answer.{Answer}
use Rattle.fr_base.specs.declared.refusal.Refusal.{Refusal}
use Rattle.fr_base.specs.declared.request.Ask.{Ask}
use Rattle.fr_base.specs.declared.query.Query.{Query}
use Rattle.fr_base.specs.QueryNames.{query_with}
use Rattle.fr_base.specs.declared.request.Request.{Request}
use Rattle.fr_base.specs.declared.request.Request.TheVariants as request
use Rattle.fr_picture.proofs.ReportLaws.{query_stays as query_leaves}
use Rattle.fr_world.specs.Held.{Standing}
use Rattle.sqlite.specs.declared.file.Leftover.{Leftover}
use Rattle.sqlite_disk.specs.declared.Disk.{Ghosts}
use Rattle.sqlite_wal.specs.Recovery.{Image}
use Rattle.fr_cli.specs.Asked.{asked_by}
use Rattle.fr_cli.specs.SingleRequest.{IsAnswer, IsForReader, IsRefusedBy, IsToldBy, Leads, Prints, asked_with, query_of}
use Rattle.fr_cli.specs.Outcomes.{outcome_of}
use Rattle.fr_cli.specs.Faults.{IsNotGiven, IsNotReported}
use Rattle.fr_cli.specs.Keys.{IsKeyGiven}
use Rattle.fr_cli.specs.Performing.{Says}
use Rattle.fr_cli.specs.Queries.{reader_of}
use Rattle.fr_cli.specs.Reading.{Stays}
use Rattle.fr_cli.specs.ScriptRun.{Replied}
use Rattle.fr_cli.specs.declared.words.inquiry.Inquiry.{Inquiry}
use Rattle.fr_cli.specs.RegisterFiles.{IsAnswerOfFile, IsAnswerToGiven, LeadsInFile, StaysInFile}
use Rattle.fr_cli.proofs.RegisterTaskLaws.{done_over, leads_over}
use Rattle.fr_cli.specs.Deliveries.{request_with}
use Rattle.fr_cli.specs.Opened.{IsOver}
use Rattle.fr_cli.specs.RegisterTasks.{IsDoneOver, tells}
use Rattle.fr_cli.specs.declared.jobs.print_task.PrintTask.TheVariants as print_task
use Rattle.fr_cli.specs.declared.words.delivery.Delivery.{Delivery}
use Rattle.std.specs.Borrow.{Bor}
use Rattle.fr_cli.specs.declared.fault.Fault.{Fault}
use Rattle.fr_cli.specs.declared.fault.Fault.TheVariants.{NoMemory}
use Rattle.std.specs.Global.{Vec}
use Rattle.fr_cli.specs.declared.failure.Failure.{Failure}
use Rattle.fr_cli.specs.declared.failure.Failure.TheVariants as failure
use Rattle.fr_cli.specs.declared.streams.outcome.Outcome.TheVariants as outcome

-- what is told by an answer is told by such an answer
pub told_prints : (Is : Answer → Type 0) (answer : Answer) (done : Result (Vec ℕ) Failure) → Is answer → IsToldBy answer done → Prints Is done
told_prints Is answer (Ok text) is (a, same, kind, said) = (a, subst Is (sym same) is, kind, said)
told_prints Is answer (Err (failure.RefusedRows text)) is (a, same, kind, said) = (a, subst Is (sym same) is, kind, said)
told_prints Is answer (Err (failure.UnplacedWishes file lines)) is (a, same, kind, said) = (a, subst Is (sym same) is, kind, said)
told_prints Is answer (Err (failure.Refused line)) is (a, same, kind, said) = (a, subst Is (sym same) is, kind, said)
told_prints Is answer (Err (failure.Fault fault)) is told = told

-- what refuses by an answer is told by it
pub refused_told : (answer : Answer) (f : Failure) → outcome_of answer ≡ outcome.Refused → IsRefusedBy answer f → IsToldBy answer (Err f)
refused_told answer (failure.RefusedRows text) refused by = absurd by
refused_told answer (failure.UnplacedWishes file lines) refused by = absurd by
refused_told answer (failure.Refused line) refused by = (answer, refl, refused, by)
refused_told answer (failure.Fault fault) refused by = by

-- what was printed of an answer is said of what follows of it
pub prints_says : (May : Fault → Type 0) (Is Was : Answer → Type 0) (done : Result (Vec ℕ) Failure) → ((answer : Answer) → Was answer → Is answer)
    → May NoMemory → Prints Was done → Says May Is done
prints_says May Is Was (Ok text) follows may p = (p.0, follows p.0 p.1, p.2, p.3)
prints_says May Is Was (Err (failure.RefusedRows text)) follows may p = (p.0, follows p.0 p.1, p.2, p.3)
prints_says May Is Was (Err (failure.UnplacedWishes file lines)) follows may p = (p.0, follows p.0 p.1, p.2, p.3)
prints_says May Is Was (Err (failure.Refused line)) follows may p = (p.0, follows p.0 p.1, p.2, p.3)
prints_says May Is Was (Err (failure.Fault fault)) follows may p = subst May (sym p) may

-- what is said of what was done is said of what follows of it
pub ok_follows : (P Q : Type 0) (done : Result ⊤ Fault) → (P → Q) → OnOk done P → OnOk done Q
ok_follows P Q (Ok x) follows p = follows p
ok_follows P Q (Err fault) follows p = tt

-- so of the fault that ended it
pub err_follows : (P Q : Fault → Type 0) (done : Result ⊤ Fault) → ((fault : Fault) → P fault → Q fault) → IfErr done P → IfErr done Q
err_follows P Q (Ok x) follows p = tt
err_follows P Q (Err fault) follows p = follows fault p

-- so of an answer, or of the fault
pub says_more : (May Might : Fault → Type 0) (Was Is : Answer → Type 0) (done : Result (Vec ℕ) Failure) → ((fault : Fault) → May fault → Might fault)
    → ((answer : Answer) → Was answer → Is answer) → Says May Was done → Says Might Is done
says_more May Might Was Is (Ok text) might follows (answer, is, kind, said) = (answer, follows answer is, kind, said)
says_more May Might Was Is (Err (failure.RefusedRows text)) might follows (answer, is, kind, said) = (answer, follows answer is, kind, said)
says_more May Might Was Is (Err (failure.UnplacedWishes file lines)) might follows (answer, is, kind, said) = (answer, follows answer is, kind, said)
says_more May Might Was Is (Err (failure.Refused line)) might follows (answer, is, kind, said) = (answer, follows answer is, kind, said)
says_more May Might Was Is (Err (failure.Fault fault)) might follows may = might fault may

module _ {D : Type 0} {g : Ghosts D} {held : Image} {rest : Option (Leftover D g)} where
  module _ {last : Leftover D g} {clean : Type 0} {old new : Standing} (over : IsOver held rest last clean old new) where
    -- what was asked of a register over a file was asked of the file
    asks_file : (asks : Cluster → Book → Result Ask Refusal) (answer : Answer) → IsAnswer asks clean old new answer → IsAnswerOfFile held rest asks answer
    asks_file asks answer is = (last, over.left, leads_over (λ c b last. Replied c b (asks c b) answer last) over is)

    -- so it is with the book that it leads to, or leaves
    leads_file : (asks : Cluster → Book → Result Ask Refusal) → Leads clean old new asks → LeadsInFile held rest asks
    leads_file asks is = (last, over.left, leads_over (λ c b last. (last ≡ b) ⊎ ((answer : Answer) × Replied c b (asks c b) answer last)) over is)

    pub stays_file : Stays clean old new → StaysInFile held rest
    stays_file is = (last, over.left, λ kept c b there sound. let up = over.closes kept in over.leaves c b (is up c b (over.finds up c b there) sound))

  module _ {R : Type 0} {desk : Desk.Ghosts R} {same : Type 0} {done : Result (Vec ℕ) Failure} where
    -- so what is printed for a reader is said of the file
    pub reported_over : (query : Inquiry) → IsDoneOver held rest desk (λ fault of. of ≡ failure.Fault fault) same (tells (print_task.Report query)) done
        → Says (IsNotReported held rest) (IsForReader (IsAnswerOfFile held rest (query_of query))) done
    reported_over query is =
        done_over failure.Fault (Says (IsNotReported held rest) (IsForReader (IsAnswerOfFile held rest (query_of query)))) (tells (print_task.Report query)) is (λ fault not kept. inl not)
        (λ last old new over did.
        prints_says _ _ _ _ (λ answer told. (told.0, asks_file over (query_of query) told.0 told.1, told.2)) (inr (refl, stays_file over did.1)) did.0)

    -- so what is printed of the answer to a delivery, by who has the key that is given
    pub given_over : (delivery : Delivery) (input left : Option (List ℕ)) (key body : Bor (List ℕ)) → IsKeyGiven delivery.key.now input left key.now
        → IsDoneOver held rest desk (λ fault of. of ≡ failure.Fault fault) same (tells (print_task.Answer key delivery body)) done
        → Says (IsNotGiven held rest delivery.key.now (request_with delivery body.now) input left) (IsAnswerToGiven held rest delivery.key.now (request_with delivery body.now) input left) done
    given_over delivery input left key body given is =
        let asks = asked_with key.now (request_with delivery body.now) in
        done_over failure.Fault (Says (IsNotGiven held rest delivery.key.now (request_with delivery body.now) input left) (IsAnswerToGiven held rest delivery.key.now (request_with delivery body.now) input left))
        (tells (print_task.Answer key delivery body)) is (λ fault not kept. inl (key.now, given, inl not))
        (λ last old new over did. prints_says _ _ _ _ (λ answer told. (key.now, given, asks_file over asks answer told))
        (inl (key.now, given, inr (refl, leads_file over asks did.1))) did.0)

-- the same was asked by the same
pub asks_same : (clean : Type 0) (old new : Standing) (by who : Option Actor) (request asks : Request) (answer : Answer) → by ≡ who → request ≡ asks
    → IsAnswer (λ c b. asked_by by request) clean old new answer → IsAnswer (λ c b. asked_by who asks) clean old new answer
asks_same clean old new by who request asks answer e f is =
    subst (λ r. IsAnswer (λ c b. asked_by who r) clean old new answer) f (subst (λ w. IsAnswer (λ c b. asked_by w request) clean old new answer) e is)

-- ---- the book after what was asked

replied_stays : (c : Cluster) (b : Book) (who : Option Actor) (query : Query (List ℕ) ℕ) (answer : Answer) (last : Book)
    → Replied c b (asked_by who (request.Query query)) answer last → last ≡ b
replied_stays c b None query answer last refused = refused.1
replied_stays c b (Some actor) query answer last (inl lacked) = lacked.2
replied_stays c b (Some actor) query answer last (inr did) = did.1 ∙ query_leaves query c b actor

-- a query leaves the book
pub query_stays : (clean : Type 0) (old new : Standing) (query : Inquiry) (answer : Answer) → IsAnswer (query_of query) clean old new answer → Stays clean old new
query_stays clean old new query answer asked = λ is c b stands sound.
    let (last, replied, after) = asked is c b stands sound in
    subst (λ (d : Book). new c d) (replied_stays c b (reader_of query) (query_with (λ name. name.now) (λ number. number) query.query) answer last replied) after

-- what was asked leads to the book after it
pub leads_on : (clean : Type 0) (old new : Standing) (asks : Cluster → Book → Result Ask Refusal) (answer : Answer) → IsAnswer asks clean old new answer → Leads clean old new asks
leads_on clean old new asks answer asked = λ is c b stands sound.
    let (last, replied, after) = asked is c b stands sound in (last, inr (answer, replied), after)

-- where nothing was asked the book is the same
pub leads_nowhere : (clean : Type 0) (s : Standing) (asks : Cluster → Book → Result Ask Refusal) → Leads clean s s asks
leads_nowhere clean s asks = λ is c b stands sound. (b, inl refl, stands)
