-- Behind each answer of a job there is a register over its file, and what a crash leaves of that leads on as the job did so far.
use Rattle.std.proofs.Common.{arith, ◌≡◌, ◌⊎◌, inl, inr, ℕ, Bool, List, [], ◌∷◌, ◌++◌, length, Option, Result, refl, subst, ap, ◌∙◌}
use Rattle.std.proofs.Math.Logic.{∥∥₁_map}
use Rattle.std.specs.Borrow.{Bor}
use Rattle.std.specs.Prelude.{⊤}
use Rattle.sqlite.specs.Files.{IsCleanLeft}
use Rattle.sqlite.specs.declared.file.Leftover.{Leftover}
use Rattle.sqlite_disk.specs.declared.Disk.{Ghosts}
use Rattle.sqlite_wal.specs.Recovery.{Image}
use Rattle.fr_base.specs.Book.{Book}
use Rattle.fr_base.specs.Cluster.{Cluster}
use Rattle.fr_base.specs.declared.answer.Answer.{Answer}
use Rattle.fr_base.specs.declared.desk.Desk as Desk
use Rattle.fr_desks.proofs.FileDeskLemmas.{one_of}
use Rattle.fr_desks.specs.FileDesk.{Held}
use Rattle.fr_desks.specs.Sessions.{Session}
use Rattle.fr_office.specs.Crashed.{IsKept, IsNear}
use Rattle.fr_world.specs.Held.{Leaving}
use Rattle.fr_cli.specs.AnsweredLines.{AnswersEach}
use Rattle.fr_cli.specs.Deeds.{Asked, Deed, Did, Drawn, IsDeedOf, Lines, Visits, asks_by, session_of}
use Rattle.fr_cli.specs.RequestStream.{IsAsked}
use Rattle.fr_cli.specs.Handlings.{Handlings}
use Rattle.fr_cli.specs.Jobs.{Ends, IsPerformed, Serves, Streams}
use Rattle.fr_cli.specs.Endings.{status_of}
use Rattle.fr_cli.specs.Opened.{IsOver}
use Rattle.fr_cli.specs.ScriptRun.{asks_in}
use Rattle.fr_cli.specs.Series.{WasNotOpened}
use Rattle.fr_cli.specs.Serving.{IsServed, ServesEach}
use Rattle.fr_cli.specs.Stops.{AnswersOn, StoodBehind, StopsBehind, StopsBehindEach}
use Rattle.fr_cli.specs.Texts.{Readings}
use Rattle.fr_cli.specs.Visits.{Comings, SinkGhosts, Visit}
use Rattle.fr_cli.specs.declared.fault.Fault.{Fault}
use Rattle.fr_cli.specs.declared.words.Job.{Job}
use Rattle.fr_cli.specs.declared.words.Job.TheVariants as job
use Rattle.fr_cli.proofs.AnsweredLineLaws as answering
use Rattle.fr_cli.proofs.DeedLaws.{all_served, answered_lines, not_asked, not_served}
use Rattle.fr_cli.proofs.ServingLaws as serving

module _ {K : Type 0} (desk : Desk.Ghosts K) where
  abbrev Lined : K → K → List (List ℕ) → List Answer → Type 0
  Lined = AnswersEach desk.clean desk.stands

  abbrev Visited : K → K → List Visit → Type 0
  Visited = ServesEach desk.clean desk.stands

  -- the register behind the first lines
  behind_lines : (old new : K) (front more : List (List ℕ)) (told others : List Answer) → length told ≡ length front → Lined old new (front ++ more) (told ++ others) → desk.clean new
      → (it : K) × desk.clean it × Lined old it front told × Lined it new more others
  behind_lines old new [] more [] others same so is = (old, answering.each_falls desk old new more others so is, ((λ up. up), (λ up c b there. there)), so)
  behind_lines old new [] more (x ∷ told) others same so is = absurd cc
  behind_lines old new (line ∷ front) more [] others same so is = absurd cc
  behind_lines old new (line ∷ front) more (x ∷ told) others same so is =
      let (it, up, each, rest) = behind_lines so.0 new front more told others (omega (arith, same)) so.3 is in (it, up, (so.0, so.1, so.2, each), rest)

  -- the register behind the first connections
  behind_visits : (old new : K) (front more : List Visit) → Visited old new (front ++ more) → desk.clean new
      → (it : K) × desk.clean it × Visited old it front × Visited it new more
  behind_visits old new [] more so is = (old, serving.each_falls desk.clean desk.stands old new more so is, refl, so)
  behind_visits old new (visit ∷ front) more so is =
      let (it, up, each, rest) = behind_visits so.0 new front more so.3 is in (it, up, (so.0, so.1, so.2, each), rest)

module _ {D K : Type 0} (g : Ghosts D) (desk : Desk.Ghosts K) (leaves : K → Leaving)
    (keeps : (it : K) (c : Cluster) (b : Book) → desk.stands it c b → IsKept (leaves it c) c b) (held : Image) where
  -- What a crash leaves of the register behind a deed is what the deed leads to, or one request more.
  stops : (deed : Deed) (it : K) → StoodBehind g desk leaves held deed it → StopsBehind g desk leaves held deed it
  stops deed it led files next given are crash c b there sound =
      let (done, book, did, stood) = led c b there sound in
      let kept = keeps it c book stood in
      ∥∥₁_map (given are next crash c kept.books kept.left) (λ one.
      let x = one_of c (IsNear c book) kept.books one.0 kept.each one.2 in
      let holds : (done : Session) × (book : Book) × (last : Book) × Did c b deed done book × IsNear c book last × Held next c last = (done, book, x.0, did, x.1, inr (one.0, one.1, x.2)) in
      holds)

  module _ {rest : Option (Leftover D g)} (last : Leftover D g) (old new : K) (over : IsOver held rest last (desk.clean new) (desk.stands old) (desk.stands new)) where
    lines_stop : (lines : List (List ℕ)) (answers : List Answer) → Lined desk old new lines answers → IsCleanLeft last
        → StopsBehindEach g desk leaves held (Lines lines answers) old new
    lines_stop lines answers each is (Lines front told) (Lines more others) (same, split, split_too) =
        let up = over.closes is in
        let (it, clean, behind, before) = behind_lines desk old new front more told others same
        (subst (λ l. Lined desk old new l (told ++ others)) split (subst (λ a. Lined desk old new lines a) split_too each)) up in
        let stood : StoodBehind g desk leaves held (Lines front told) it = λ c b there sound.
        let (book, stands, are) = answering.each_all desk old it front told behind clean c b (over.finds up c b there) sound in
        (session_of (asks_in c b front told), book, (are, refl), stands) in
        (it, clean, behind, before, stood, stops (Lines front told) it stood)
    lines_stop lines answers each is (Lines front told) (Visits more) never = absurd never
    lines_stop lines answers each is (Lines front told) (Asked asks answer) never = absurd never
    lines_stop lines answers each is (Lines front told) (Drawn reader variant since drawn) never = absurd never
    lines_stop lines answers each is (Visits front) more never = absurd never
    lines_stop lines answers each is (Asked asks answer) more never = absurd never
    lines_stop lines answers each is (Drawn reader variant since drawn) more never = absurd never

    visits_stop : (visits : List Visit) → Visited desk old new visits → IsCleanLeft last → StopsBehindEach g desk leaves held (Visits visits) old new
    visits_stop visits each is (Visits front) (Visits more) split =
        let up = over.closes is in
        let (it, clean, behind, before) = behind_visits desk old new front more (subst (λ l. Visited desk old new l) split each) up in
        let stood : StoodBehind g desk leaves held (Visits front) it = λ c b there sound.
        let (xs, book, these, are, stands) = serving.each_all desk.clean desk.stands old it front behind clean c b (over.finds up c b there) sound in
        (session_of (asks_by xs), book, (xs, these, are, refl), stands) in
        (it, clean, behind, before, stood, stops (Visits front) it stood)
    visits_stop visits each is (Visits front) (Lines more others) never = absurd never
    visits_stop visits each is (Visits front) (Asked asks answer) never = absurd never
    visits_stop visits each is (Visits front) (Drawn reader variant since drawn) never = absurd never
    visits_stop visits each is (Lines front told) more never = absurd never
    visits_stop visits each is (Asked asks answer) more never = absurd never
    visits_stop visits each is (Drawn reader variant since drawn) more never = absurd never

  -- ---- by job

  module _ {O E : Type 0} {printed : SinkGhosts O} {told : SinkGhosts E} (rest : Option (Leftover D g)) (read : Readings) (comings : Comings) (s : Streams printed told)
      (status : ℕ) where
    -- How a job ended that answers one thing after another, and what a stop behind an answer leads to.
    abbrev Stopping : Job → Type 0
    Stopping j = WasNotOpened held rest comings s status
        ⊎ ((left : Leftover D g) × (deed : Deed) × IsDeedOf read comings s status j deed
        × (first : K) × (last : K) × IsOver held rest left (desk.clean last) (desk.stands first) (desk.stands last)
        × (IsCleanLeft left → StopsBehindEach g desk leaves held deed first last))

    ask : (db : Bor (List ℕ)) (numbered : Bool) (done : Result ⊤ Fault) → comings.none → IsAsked numbered desk held rest s.input.old s.input.new s.out done → Ends done s status
        → Stopping (job.Ask db numbered)
    unfolding IsAsked
    ask db numbered done none (inl (fault, failed, not, kept, silent)) ends = inl (not_asked desk held rest read comings s status done fault none failed not silent ends)
    ask db numbered done none (inr (asked, last, old, new, over, same, at_end, stops, has)) ends =
        let (lines, answers, were, all) = answered_lines desk held rest read comings s status numbered asked (ends.0 ∙ ap status_of same) has in
        inr (last, Lines lines answers, were, old, new, over, lines_stop last old new over lines answers all.1)

    serve : (files : Handlings) (db : Bor (List ℕ)) (port count seconds memory : ℕ) → Serves desk held rest read files comings port count seconds s status → Stopping (job.Serve db port count seconds memory)
    unfolding IsServed
    serve files db port count seconds memory (done, mid, ends, announced, inl (fault, failed, not, stayed, silent, kept), tells) =
        inl (not_served desk held rest read comings s status done mid fault ends failed not stayed silent kept tells)
    serve files db port count seconds memory (done, mid, ends, announced, inr (last, old, new, over, has), tells) = inr (
      last,
      Visits has.visits,
      (has.came_in, all_served desk held rest read comings s status count has.visits done ends has.all),
      old,
      new,
      over,
      visits_stop last old new over has.visits has.served.1,
    )

    pub job_stops : (files : Handlings) (j : Job) → IsPerformed desk held rest read files comings j s status → AnswersOn j → Stopping j
    unfolding IsPerformed
    job_stops files (job.Run numbered) did on = absurd on
    job_stops files (job.Create db config) did on = absurd on
    job_stops files (job.Migrate db) did on = absurd on
    job_stops files (job.Serve db port count seconds memory) (did, none, kept, handled) on = serve files db port count seconds memory did
    job_stops files (job.Ask db numbered) (done, did, ends, none, quiet, handled) on = ask db numbered done quiet did ends
    job_stops files (job.Report db query) did on = absurd on
    job_stops files (job.Picture db variant since supplier) did on = absurd on
    job_stops files (job.Deliver db delivery) did on = absurd on
    job_stops files (job.Check file) did on = absurd on
    job_stops files (job.Explain word) did on = absurd on
