-- What a job did with the register of a file leads from what the file held to what it holds next.
use Rattle.std.proofs.Common.{◌≡◌, ◌⊎◌, ◌∙◌, inl, inr, ℕ, Bool, List, [], append-nil, length, Some, None, Ok, Err, Result, Option, refl, subst, sym, ap}
use Rattle.std.specs.Borrow.{Bor}
use Rattle.std.specs.Global.{Vec}
use Rattle.std.specs.Prelude.{IfSome, OnOk, ⊤}
use Rattle.sqlite.specs.Files.{IsCleanLeft}
use Rattle.sqlite.specs.declared.file.Leftover.{Leftover}
use Rattle.sqlite.specs.declared.file.Leftover.TheVariants as left
use Rattle.sqlite_disk.specs.declared.Disk.{Ghosts}
use Rattle.sqlite_wal.specs.Recovery.{Image}
use Rattle.fr_base.specs.Book.{Book, opening}
use Rattle.fr_base.specs.Cluster.{Cluster, ClusterFile}
use Rattle.fr_base.specs.Desks.{InSound}
use Rattle.fr_base.specs.Sound.{IsSound}
use Rattle.fr_base.specs.declared.actor.Actor.{Actor}
use Rattle.fr_base.specs.declared.answer.Answer.{Answer}
use Rattle.fr_base.specs.declared.desk.Desk as Desk
use Rattle.fr_base.specs.declared.refusal.Refusal.{Refusal}
use Rattle.fr_base.specs.declared.request.Ask.{Ask}
use Rattle.fr_base.proofs.SoundLaws.{opening-sound}
use Rattle.fr_store.specs.StoreFiles.{HoldsBook}
use Rattle.fr_desks.specs.FileDesk.{Held, IsLeftWith}
use Rattle.fr_desks.specs.Sessions.{Session}
use Rattle.fr_picture.specs.Pages.{IsPage}
use Rattle.fr_picture.specs.Plans.{since_of}
use Rattle.fr_picture.specs.declared.plan.Plan.{Plan}
use Rattle.fr_cli.specs.AnsweredLines.{Account}
use Rattle.fr_cli.specs.SingleRequest.{IsForReader, asked_with, query_of}
use Rattle.fr_cli.specs.Deeds.{Asked, Deed, Did, Drawn, IsDeedOf, IsShown, LacksAnswer, Lines, Visits, WereLines, asks_by, session_of}
use Rattle.fr_cli.specs.Deliveries.{request_with}
use Rattle.fr_cli.specs.Endings.{NamesFault, Tells, status_of}
use Rattle.fr_cli.specs.Faults.{IsNotDelivered, IsNotOpened, IsNotReported, fault_word}
use Rattle.fr_cli.specs.RequestStream.{AreFirstOf, HasAnswered, IsAsked}
use Rattle.fr_cli.specs.Handlings.{Handlings}
use Rattle.fr_cli.specs.Jobs.{Ends, IsPerformed, Serves, Shows, Streams}
use Rattle.fr_cli.specs.Numbered.{numbered_lines, without_numbers}
use Rattle.fr_cli.specs.Outlets.{held_before, held_behind}
use Rattle.fr_cli.specs.Performing.{Says, of_script}
use Rattle.fr_cli.specs.Picturing.{plans_for}
use Rattle.fr_cli.specs.Queries.{reader_named}
use Rattle.fr_cli.specs.Reading.{PrintsRead}
use Rattle.fr_cli.specs.RegisterFiles.{IsAnswerOfFile, IsDeliveryToFile, IsReadOfFile, LeadsInFile, StaysInFile}
use Rattle.fr_cli.specs.ScriptRun.{AreAnswered, Replied, asks_in, with_ask}
use Rattle.fr_cli.specs.Series.{AsksRegister, Follows, IsNextOf, LeadsBy, WasNotOpened, end_of}
use Rattle.fr_cli.specs.Serving.{IsServed, ServesAll}
use Rattle.fr_cli.specs.Texts.{IsClusterAt, Readings}
use Rattle.fr_cli.specs.Visits.{Comings, SinkGhosts, Visit}
use Rattle.fr_cli.specs.declared.words.delivery.Delivery.{Delivery}
use Rattle.fr_cli.specs.declared.failure.Failure.{Failure}
use Rattle.fr_cli.specs.declared.failure.Failure.TheVariants as failure
use Rattle.fr_cli.specs.declared.fault.Fault.{Fault}
use Rattle.fr_cli.specs.declared.fault.Fault.TheVariants.{NoMemory}
use Rattle.fr_cli.specs.declared.words.inquiry.Inquiry.{Inquiry}
use Rattle.fr_cli.specs.declared.script_fault.ScriptFault.{ScriptFault}
use Rattle.fr_cli.specs.declared.words.Job.{Job}
use Rattle.fr_cli.specs.declared.words.Job.TheVariants as job
use Rattle.fr_cli.proofs.AnsweredLineLaws.{Asked as Numbered, none_missing}
use Rattle.fr_cli.proofs.HoldingLaws.{holds_on}

-- ---- streams

some_map : (P Q : List ℕ → Type 0) (input : Option (List ℕ)) → ((bytes : List ℕ) → P bytes → Q bytes) → IfSome input P → IfSome input Q
some_map P Q None follows p = tt
some_map P Q (Some bytes) follows p = follows bytes p

-- all of them are the first of them
all_first : (l : Numbered) (bytes : List ℕ) → l ≡ numbered_lines 1 bytes → AreFirstOf l bytes
all_first l bytes all = ([], sym all ∙ sym (append-nil l))

-- a job that failed has not the status of one that was done
not_done : (status : ℕ) → status ≡ 1 → status ≡ 0 → ⊥
not_done status failed done = absurd cc

-- ---- what is opened next

-- what is left with a book holds it next, or what follows it
next_holds : {D : Type 0} {g : Ghosts D} (left : Leftover D g) (next : Image) (c : Cluster) (b : Book) → IsCleanLeft left → IsNextOf left next → IsLeftWith left c b
    → (x : Book) × Follows (end_of left) c b x × Held next c x
next_holds (left.Files files) next c b is (inl same) holds = (b, refl, inl (subst (HoldsBook c b) (sym same) (holds is).0))
next_holds (left.Files files) next c b is (inr crash) holds = (b, refl, inl ((holds is).1 next crash))
next_holds (left.Unopened files) next c b is opened holds = absurd holds
next_holds (left.Store it) next c b is (db, found, in_it) holds = let (x, near, register) = holds db found in (x, near, inr (db, in_it, register))

-- what was done where there is no answer
unanswered_did : (c : Cluster) (b last : Book) (asks : Cluster → Book → Result Ask Refusal) → (last ≡ b) ⊎ ((answer : Answer) × Replied c b (asks c b) answer last)
    → (done : Session) × Did c b (Asked asks None) done last
unanswered_did c b last asks (inl same) = (session_of [], inl (same, refl))
unanswered_did c b last asks (inr (answer, replied)) = (session_of (with_ask (asks c b) answer []), inr (answer, (replied, refl)))

module _ {D R : Type 0} {g : Ghosts D} (desk : Desk.Ghosts R) (held : Image) (rest : Option (Leftover D g)) where
  -- Files are left, and the deed leads to what they hold next.
  abbrev LeadsOn : Deed → Type 0
  LeadsOn deed = (left : Leftover D g) × (rest ≡ Some left)
      × ((next : Image) → IsCleanLeft left → IsNextOf left next → LeadsBy held (record { deed = deed; end = end_of left }) next)

  asked_leads : (asks : Cluster → Book → Result Ask Refusal) (answer : Answer) → IsAnswerOfFile held rest asks answer → LeadsOn (Asked asks (Some answer))
  asked_leads asks answer (last, is_left, answers) = (
    last,
    is_left.0,
    λ next is opened c b there sound.
        let (book, replied, after) = answers is c b there sound in
        let (x, follows, holds) = next_holds last next c book is opened after in
        (session_of (with_ask (asks c b) answer []), book, x, (replied, refl), follows, holds),
  )

  unanswered_leads : (asks : Cluster → Book → Result Ask Refusal) → LeadsInFile held rest asks → LeadsOn (Asked asks None)
  unanswered_leads asks (last, is_left, leads) = (
    last,
    is_left.0,
    λ next is opened c b there sound.
        let (book, how, after) = leads is c b there sound in
        let (x, follows, holds) = next_holds last next c book is opened after in
        let (done, did) = unanswered_did c b book asks how in
        (done, book, x, did, follows, holds),
  )

  -- where the book stays, whatever else is so of it
  stays_lead : (deed : Deed) → ((c : Cluster) (b : Book) → Did c b deed (session_of []) b) → StaysInFile held rest → LeadsOn deed
  stays_lead deed did (last, is_left, stays) = (
    last,
    is_left.0,
    λ next is opened c b there sound.
        let (x, follows, holds) = next_holds last next c b is opened (stays is c b there sound) in
        (session_of [], b, x, did c b, follows, holds),
  )

  drawn_leads : (reader : Option Actor) (variant : List ℕ) (since : Option (List ℕ)) (drawn : Result Plan Refusal) → IsReadOfFile held rest (plans_for reader variant since) drawn
      → LeadsOn (Drawn reader variant since (Some drawn))
  drawn_leads reader variant since drawn (last, is_left, read) = (
    last,
    is_left.0,
    λ next is opened c b there sound.
        let (after, may) = read is c b there sound in
        let (x, follows, holds) = next_holds last next c b is opened after in
        (session_of [], b, x, (may, (refl, refl)), follows, holds),
  )

  lines_lead : (last : Leftover D g) → rest ≡ Some last → (lines : List (List ℕ)) (answers : List Answer)
      → (IsCleanLeft last → InSound (Held held) (λ c b. (book : Book) × IsLeftWith last c book × AreAnswered c b lines answers book)) → LeadsOn (Lines lines answers)
  lines_lead last same lines answers answered = (
    last,
    same,
    λ next is opened c b there sound.
        let (book, after, are) = answered is c b there sound in
        let (x, follows, holds) = next_holds last next c book is opened after in
        (session_of (asks_in c b lines answers), book, x, (are, refl), follows, holds),
  )

  visits_lead : (last : Leftover D g) → rest ≡ Some last → (visits : List Visit) → ServesAll (IsCleanLeft last) (Held held) (IsLeftWith last) visits
      → LeadsOn (Visits visits)
  visits_lead last same visits served = (
    last,
    same,
    λ next is opened c b there sound.
        let (xs, book, these, are, after) = served is c b there sound in
        let (x, follows, holds) = next_holds last next c book is opened after in
        (session_of (asks_by xs), book, x, (xs, these, are, refl), follows, holds),
  )

  -- ---- by job

  module _ {O E : Type 0} {printed : SinkGhosts O} {told : SinkGhosts E} (read : Readings) (comings : Comings) (s : Streams printed told) (status : ℕ) where
    -- How a job ended: with a deed that leads on, or as one that did not open the file.
    abbrev Leading : Job → Type 0
    Leading j = WasNotOpened held rest comings s status
        ⊎ ((left : Leftover D g) × (rest ≡ Some left) × (deed : Deed) × IsDeedOf read comings s status j deed
        × ((next : Image) → IsCleanLeft left → IsNextOf left next → LeadsBy held (record { deed = deed; end = end_of left }) next))

    -- as one that did not open the file
    not_opened : (fault : Fault) → (rest ≡ None) ⊎ IsNotOpened held rest fault → Shows (Err (failure.Fault fault)) s status → comings.none
        → WasNotOpened held rest comings s status
    not_opened fault why shown none = (fault, why, shown, none, λ left next. holds_on held next rest fault why left)

    refused : (j : Job) (fault : Fault) → (rest ≡ None) ⊎ IsNotOpened held rest fault → Shows (Err (failure.Fault fault)) s status → comings.none → Leading j
    refused j fault why shown none = inl (not_opened fault why shown none)

    -- with this deed
    led : (j : Job) (deed : Deed) → IsDeedOf read comings s status j deed → LeadsOn deed → Leading j
    led j deed is (left, same, leads) = inr (left, same, deed, is, leads)

    lacking : (fault : Fault) → fault ≡ NoMemory → Shows (Err (failure.Fault fault)) s status → LacksAnswer s status
    lacking fault lacks shown = subst (λ f. Shows (Err (failure.Fault f)) s status) lacks shown

    -- of a fault for which no report is given
    not_reported : (j : Job) (deed : Deed) (fault : Fault) → comings.none → Shows (Err (failure.Fault fault)) s status → (LacksAnswer s status → IsDeedOf read comings s status j deed)
        → ((c : Cluster) (b : Book) → Did c b deed (session_of []) b) → IsNotReported held rest fault → Leading j
    not_reported j deed fault none shown is did (inl not) = refused j fault (inr not) shown none
    not_reported j deed fault none shown is did (inr (lacks, stays)) = led j deed (is (lacking fault lacks shown)) (stays_lead deed did stays)

    reported : (db : Bor (List ℕ)) (query : Inquiry) (done : Result (Vec ℕ) Failure) (a : Answer) → Shows done s status → Says (λ fault. ⊥) (λ told. told ≡ a) done
        → IsForReader (IsAnswerOfFile held rest (query_of query)) a → Leading (job.Report db query)
    reported db query done a shown says (given, was, is_told) =
        let told = subst (λ (x : Answer). IsShown s status x) is_told (done, shown, says) in
        led (job.Report db query) (Asked (query_of query) (Some given)) (refl, told) (asked_leads (query_of query) given was)

    report : (db : Bor (List ℕ)) (query : Inquiry) (done : Result (Vec ℕ) Failure) → comings.none → Shows done s status
        → Says (IsNotReported held rest) (IsForReader (IsAnswerOfFile held rest (query_of query))) done → Leading (job.Report db query)
    report db query (Ok text) none shown (a, was, kind, said) = reported db query (Ok text) a shown (a, refl, kind, said) was
    report db query (Err (failure.RefusedRows text)) none shown (a, was, kind, said) = reported db query (Err (failure.RefusedRows text)) a shown (a, refl, kind, said) was
    report db query (Err (failure.UnplacedWishes file lines)) none shown (a, was, kind, said) = reported db query (Err (failure.UnplacedWishes file lines)) a shown (a, refl, kind, said) was
    report db query (Err (failure.Refused line)) none shown (a, was, kind, said) = reported db query (Err (failure.Refused line)) a shown (a, refl, kind, said) was
    report db query (Err (failure.Fault fault)) none shown may =
        not_reported (job.Report db query) (Asked (query_of query) None) fault none shown (λ lacks. (refl, lacks)) (λ c b. inl (refl, refl)) may

    drew : (db variant : Bor (List ℕ)) (since supplier : Option (Bor (List ℕ))) (done : Result (Vec ℕ) Failure) (drawn : Result Plan Refusal) → Shows done s status
        → PrintsRead (λ fault. ⊥) (λ r. r ≡ drawn) IsPage done → IsReadOfFile held rest (plans_for (reader_named supplier) variant.now (since_of since)) drawn → Leading (job.Picture db variant since supplier)
    drew db variant since supplier done drawn shown says was =
        led (job.Picture db variant since supplier) (Drawn (reader_named supplier) variant.now (since_of since) (Some drawn)) (refl, refl, refl, (done, shown, says))
        (drawn_leads (reader_named supplier) variant.now (since_of since) drawn was)

    picture : (db variant : Bor (List ℕ)) (since supplier : Option (Bor (List ℕ))) (done : Result (Vec ℕ) Failure) → comings.none → Shows done s status
        → PrintsRead (IsNotReported held rest) (IsReadOfFile held rest (plans_for (reader_named supplier) variant.now (since_of since))) IsPage done → Leading (job.Picture db variant since supplier)
    picture db variant since supplier (Ok text) none shown (plan, was, page) = drew db variant since supplier (Ok text) (Ok plan) shown (plan, refl, page) was
    picture db variant since supplier (Err (failure.RefusedRows text)) none shown wrong = absurd wrong
    picture db variant since supplier (Err (failure.UnplacedWishes file lines)) none shown wrong = absurd wrong
    picture db variant since supplier (Err (failure.Refused line)) none shown (refusal, was, said) =
        drew db variant since supplier (Err (failure.Refused line)) (Err refusal) shown (refusal, refl, said) was
    picture db variant since supplier (Err (failure.Fault fault)) none shown may =
        not_reported (job.Picture db variant since supplier) (Drawn (reader_named supplier) variant.now (since_of since) None) fault none shown (λ lacks. (refl, refl, refl, lacks)) (λ c b. (refl, refl)) may

    -- of a fault for which no answer to a delivery is given
    not_delivered : (db : Bor (List ℕ)) (delivery : Delivery) (fault : Fault) → comings.none → Shows (Err (failure.Fault fault)) s status
        → IsNotDelivered held rest read delivery s.input.old s.input.new fault → Leading (job.Deliver db delivery)
    not_delivered db delivery fault none shown (inl (unread, nothing)) = refused (job.Deliver db delivery) fault (inl nothing) shown none
    not_delivered db delivery fault none shown (inr (body, front, inl (key, given, inl not))) = refused (job.Deliver db delivery) fault (inr not) shown none
    not_delivered db delivery fault none shown (inr (body, front, inl (key, given, inr (lacks, leads)))) =
        let asks = asked_with key (request_with delivery body) in
        led (job.Deliver db delivery) (Asked asks None) ((body, key, front, given, refl), lacking fault lacks shown) (unanswered_leads asks leads)
    not_delivered db delivery fault none shown (inr (body, front, inr (dash, of, nothing))) = refused (job.Deliver db delivery) fault (inl nothing) shown none

    delivered : (db : Bor (List ℕ)) (delivery : Delivery) (done : Result (Vec ℕ) Failure) (a : Answer) → Shows done s status → Says (λ fault. ⊥) (λ told. told ≡ a) done
        → IsDeliveryToFile held rest read delivery s.input.old s.input.new a → Leading (job.Deliver db delivery)
    delivered db delivery done a shown says (body, front, (key, given, was)) =
        let asks = asked_with key (request_with delivery body) in
        led (job.Deliver db delivery) (Asked asks (Some a)) ((body, key, front, given, refl), (done, shown, says)) (asked_leads asks a was)

    deliver : (db : Bor (List ℕ)) (delivery : Delivery) (done : Result (Vec ℕ) Failure) → comings.none → Shows done s status
        → Says (IsNotDelivered held rest read delivery s.input.old s.input.new) (IsDeliveryToFile held rest read delivery s.input.old s.input.new) done
        → Leading (job.Deliver db delivery)
    deliver db delivery (Ok text) none shown (a, was, kind, said) = delivered db delivery (Ok text) a shown (a, refl, kind, said) was
    deliver db delivery (Err (failure.RefusedRows text)) none shown (a, was, kind, said) = delivered db delivery (Err (failure.RefusedRows text)) a shown (a, refl, kind, said) was
    deliver db delivery (Err (failure.UnplacedWishes file lines)) none shown (a, was, kind, said) = delivered db delivery (Err (failure.UnplacedWishes file lines)) a shown (a, refl, kind, said) was
    deliver db delivery (Err (failure.Refused line)) none shown (a, was, kind, said) = delivered db delivery (Err (failure.Refused line)) a shown (a, refl, kind, said) was
    deliver db delivery (Err (failure.Fault fault)) none shown may = not_delivered db delivery fault none shown may

    -- lines that were answered, whatever is said of them
    pub answered_lines : {account : Account} (numbered : Bool) (asked : Result ⊤ ScriptFault) → status ≡ status_of (of_script asked)
        → HasAnswered numbered account s.input.old s.input.new (held_before s.out) (held_behind s.out) asked
        → (lines : List (List ℕ)) × (answers : List Answer) × WereLines numbered s status lines answers × account.all lines answers
    answered_lines numbered (Ok x) ends has =
        let (l, written, whole, short, appended, told) = has.all in
        let were : WereLines numbered s status (without_numbers l) told.answers = record {
          asked = l;
          these = refl;
          first = some_map _ _ s.input.old (λ bytes so. all_first l bytes so.0) whole;
          each = told.each;
          written = written;
          missing = [];
          appended = appended;
          one = none_missing numbered;
          bytes = append-nil written ∙ told.bytes;
          all = λ done. (refl, some_map _ _ s.input.old (λ bytes so. so.0) whole);
        } in
        (without_numbers l, told.answers, were, told.answered)
    answered_lines numbered (Err fault) ends has =
        let cut = has.early in
        let were : WereLines numbered s status (without_numbers cut.lines) cut.answered.answers = record {
          asked = cut.lines;
          these = refl;
          first = cut.done;
          each = cut.answered.each;
          written = cut.written;
          missing = cut.missing;
          appended = cut.appended;
          one = cut.one;
          bytes = cut.answered.bytes;
          all = λ done. absurd (not_done status ends done);
        } in
        (without_numbers cut.lines, cut.answered.answers, were, cut.answered.answered)

    -- where the file was not opened, to answer lines
    pub not_asked : (done : Result ⊤ Fault) (fault : Fault) → comings.none → done ≡ Err fault → IsNotOpened held rest fault → s.out.new ≡ s.out.old → Ends done s status
        → WasNotOpened held rest comings s status
    not_asked done fault none failed not silent ends =
        let (ended, told) = subst (λ (d : Result ⊤ Fault). Ends d s status) failed ends in not_opened fault (inr not) (ended, silent, told) none

    ask : (db : Bor (List ℕ)) (numbered : Bool) (done : Result ⊤ Fault) → comings.none → IsAsked numbered desk held rest s.input.old s.input.new s.out done → Ends done s status
        → Leading (job.Ask db numbered)
    unfolding IsAsked
    ask db numbered done none (inl (fault, failed, not, kept, silent)) ends = inl (not_asked done fault none failed not silent ends)
    ask db numbered done none (inr (asked, last, old, new, over, same, at_end, stops, has)) ends =
        let (lines, answers, were, all) = answered_lines numbered asked (ends.0 ∙ ap status_of same) has in
        led (job.Ask db numbered) (Lines lines answers) were (lines_lead last over.left.0 lines answers all.0)

    -- as many connections as were to be, where all were served
    pub all_served : (count : ℕ) (visits : List Visit) (done : Result ⊤ Fault) → status ≡ status_of done → OnOk done (length visits ≡ count) → status ≡ 0 → length visits ≡ count
    all_served count visits (Ok x) ends all zero = all
    all_served count visits (Err fault) ends all zero = absurd (not_done status ends zero)

    -- where the file was not opened, to serve connections
    pub not_served : (done : Result ⊤ Fault) (mid : E) (fault : Fault) → status ≡ status_of done → done ≡ Err fault → IsNotOpened held rest fault → comings.none
        → s.out.new ≡ s.out.old → mid ≡ s.err.old → Tells told mid s.err.new done → WasNotOpened held rest comings s status
    not_served done mid fault ends failed not stayed silent kept tells =
        let named : NamesFault told (fault_word fault) mid s.err.new = subst (λ (d : Result ⊤ Fault). Tells told mid s.err.new d) failed tells in
        not_opened fault (inr not) (ends ∙ ap status_of failed, silent, subst (λ old. NamesFault told (fault_word fault) old s.err.new) kept named) stayed

    serve : (files : Handlings) (db : Bor (List ℕ)) (port count seconds memory : ℕ) → Serves desk held rest read files comings port count seconds s status → Leading (job.Serve db port count seconds memory)
    unfolding IsServed
    serve files db port count seconds memory (done, mid, ends, announced, inl (fault, failed, not, stayed, silent, kept), tells) =
        inl (not_served done mid fault ends failed not stayed silent kept tells)
    serve files db port count seconds memory (done, mid, ends, announced, inr (last, old, new, over, has), tells) =
        led (job.Serve db port count seconds memory) (Visits has.visits) (has.came_in, all_served count has.visits done ends has.all) (visits_lead last over.left.0 has.visits has.served.0)

    -- so a job that asks the register of a file
    pub job_leads : (files : Handlings) (j : Job) → IsPerformed desk held rest read files comings j s status → AsksRegister j → Leading j
    unfolding IsPerformed
    job_leads files (job.Run numbered) did asks = absurd asks
    job_leads files (job.Create db config) did asks = absurd asks
    job_leads files (job.Migrate db) did asks = absurd asks
    job_leads files (job.Serve db port count seconds memory) (did, none, kept, handled) asks = serve files db port count seconds memory did
    job_leads files (job.Ask db numbered) (done, did, ends, none, quiet, handled) asks = ask db numbered done quiet did ends
    job_leads files (job.Report db query) (done, shown, says, none, quiet, handled) asks = report db query done quiet.1 shown says
    job_leads files (job.Picture db variant since supplier) (done, shown, says, none, quiet, handled) asks = picture db variant since supplier done quiet.1 shown says
    job_leads files (job.Deliver db delivery) (done, shown, says, kept, quiet, handled) asks = deliver db delivery done quiet shown says
    job_leads files (job.Check file) did asks = absurd asks
    job_leads files (job.Explain word) did asks = absurd asks

-- a register's file that was made
pub made_is_held : {D R O E : Type 0} {g : Ghosts D} {printed : SinkGhosts O} {told : SinkGhosts E} (desk : Desk.Ghosts R) (held next : Image) (rest : Leftover D g) (read : Readings) (touched : Handlings) (comings : Comings) (db config : Bor (List ℕ)) (s : Streams printed told)
    → IsPerformed desk held (Some rest) read touched comings (job.Create db config) s 0 → IsCleanLeft rest → IsNextOf rest next
    → (f : ClusterFile) × IsClusterAt read config.now f × Held next f.cluster (opening f) × IsSound f.cluster (opening f)
unfolding IsPerformed
made_is_held {D} {R} {g = g} desk held next rest read touched comings db config s ((Ok x, fault, (f, at, formed, (files, same, holds, bare)), silent, ends), quiet, handled) is opened =
    let these : rest ≡ left.Files files = cc in
    let (book, only, still) = next_holds {g = g} (left.Files files) next f.cluster (opening f) (subst IsCleanLeft these is) (subst (λ l. IsNextOf l next) these opened) holds in
    (f, at, subst (λ b. Held next f.cluster b) only still, opening-sound f formed)
made_is_held desk held next rest read touched comings db config s ((Err fault, of, made, silent, ends), quiet, handled) is opened = absurd (not_done 0 ends.0 refl)
