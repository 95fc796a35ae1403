-- Deeds that are done one after another are a run, also where jobs come between them that did not open the file.
use Rattle.std.proofs.Common.{◌≡◌, inl, inr, List, [], ◌∷◌, ◌++◌, Some, None, Ok, Err, Result, Option, refl, subst, sym}
use Rattle.std.proofs.Math.Logic.{∥∥₁_elim, ∥∥₁_map}
use Rattle.fr_base.specs.Book.{Book}
use Rattle.fr_base.specs.Cluster.{Cluster}
use Rattle.fr_base.specs.Run.{IsRun}
use Rattle.fr_base.specs.Sound.{IsSound}
use Rattle.fr_base.specs.Step.{step}
use Rattle.fr_base.specs.declared.answer.Answer.{Answer}
use Rattle.fr_base.specs.declared.refusal.Refusal.{Refusal}
use Rattle.fr_base.specs.declared.request.Ask.{Ask}
use Rattle.fr_desks.specs.FileDesk.{Held}
use Rattle.fr_desks.specs.Sessions.{Session}
use Rattle.fr_http.specs.Exchanges.{Advised, Answered, AreExchanged, Asks, Dealing, Drawn, Exchanged}
use Rattle.fr_office.specs.Headline.{WereAnswered}
use Rattle.fr_office.proofs.RunLaws.{runs_joined, were_answered}
use Rattle.fr_cli.specs.Deeds.{Asked, Deed, Did, Drawn as DrawnBy, Lines, Visits, WasLeft, WasReplied, asks_at, asks_by, session_of}
use Rattle.fr_cli.specs.Series.{Adds, AllJobsAreKept, AreAllBy, Closed, End, Follows, JobsAreKept, Turn, Unclosed, joined, turns_of}
use Rattle.fr_cli.proofs.ScriptRunLaws.{lines-run}

-- From one book to another the session's requests had its answers.
abbrev Runs : Cluster → Book → Session → Book → Type 0
Runs c b session last = IsRun c b session.asks session.answers last

-- one session, and another that goes on from there
run_joined : (c : Cluster) (b mid last : Book) (first rest : Session) → Runs c b first mid → Runs c mid rest last → Runs c b (joined first rest) last
run_joined c b mid last first rest run more = runs_joined c b mid last first.asks rest.asks first.answers rest.answers run more

-- where nothing was asked
left_run : (c : Cluster) (b last : Book) (done : Session) → WasLeft b done last → Runs c b done last
left_run c b last done (same, none) = subst (λ s. Runs c b s last) (sym none) same

-- what was asked and answered
replied_run : (c : Cluster) (b last : Book) (asks : Result Ask Refusal) (answer : Answer) (done : Session) → WasReplied c b asks answer done last → Runs c b done last
replied_run c b last (Ok ask) answer done (replied, these) = subst (λ s. Runs c b s last) (sym these) replied
replied_run c b last (Err refusal) answer done (replied, these) = subst (λ s. Runs c b s last) (sym these) replied.1

-- what a connection asked, before others
dealt_run : (c : Cluster) (b next last : Book) (x : Exchanged) (asked : Option Dealing) (rest : List (Ask × Answer)) → Asks c b x asked next
    → Runs c next (session_of rest) last → Runs c b (session_of (asks_at asked ++ rest)) last
dealt_run c b next last x (Some (Answered ask method answer)) rest is run = runs_joined c b next last (ask ∷ []) (session_of rest).asks (answer ∷ []) (session_of rest).answers is.deals run
dealt_run c b next last x (Some (Drawn reader variant since drawn)) rest is run = subst (λ d. Runs c d (session_of rest) last) is.deals.0 run
dealt_run c b next last x (Some (Advised reader subject text)) rest is run = subst (λ d. Runs c d (session_of rest) last) is.deals run
dealt_run c b next last x None rest is run = subst (λ d. Runs c d (session_of rest) last) is.0 run

exchanges_run : (c : Cluster) (b last : Book) (xs : List Exchanged) → AreExchanged c b xs last → Runs c b (session_of (asks_by xs)) last
exchanges_run c b last [] same = same
exchanges_run c b last (x ∷ xs) are = dealt_run c b are.0 last x x.asked (asks_by xs) are.1.1 (exchanges_run c are.0 last xs are.2)

-- what the deed asked
did_run : (c : Cluster) (b last : Book) (deed : Deed) (done : Session) → Did c b deed done last → Runs c b done last
did_run c b last (Lines lines answers) done did = subst (λ s. Runs c b s last) (sym did.1) (lines-run c b last lines answers did.0)
did_run c b last (Visits visits) done (xs, these, are, all) = subst (λ s. Runs c b s last) (sym all) (exchanges_run c b last xs are)
did_run c b last (Asked asks (Some answer)) done did = replied_run c b last (asks c b) answer done did
did_run c b last (Asked asks None) done (inl none) = left_run c b last done none
did_run c b last (Asked asks None) done (inr (answer, did)) = replied_run c b last (asks c b) answer done did
did_run c b last (DrawnBy reader variant since (Some drawn)) done did = left_run c b last done did.1
did_run c b last (DrawnBy reader variant since None) done did = left_run c b last done did

-- what may have come behind it
one_more : (end : End) (c : Cluster) (b next : Book) → Follows end c b next → (more : Session) × Adds end c b more next × Runs c b more next
one_more Closed c b next same = (session_of [], (same, refl), same)
one_more Unclosed c b next (inl same) = (session_of [], inl (same, refl), same)
one_more Unclosed c b next (inr (ask, any, is)) =
    (session_of ((ask, (step c b ask.actor ask.request).answer) ∷ []), inr (ask, refl, is), inr (refl, is))

-- where a run from a sound book ends, it is sound
still_sound : (c : Cluster) (b last : Book) (s : Session) → IsSound c b → Runs c b s last → IsSound c last
still_sound c b last s sound run =
    let was = were_answered (λ d. d ≡ last) c b s.asks s.answers sound (last, refl, run) in subst (IsSound c) was.stands was.sound

-- Where a deed leads from one book to the next, and others from there, they lead together.
all_behind : (now : Book → Book → Type 0) (turn : Turn) (turns : List Turn) (c : Cluster) (b book next : Book) (done more : Session) → IsSound c b → Did c b turn.deed done book
    → Adds turn.end c book more next → Runs c book more next
    → (rest : Session) × (end : Book) × AreAllBy c next turns rest end × WereAnswered (now end) c next rest.asks rest.answers
    → (all : Session) × (end : Book) × AreAllBy c b (turn ∷ turns) all end × WereAnswered (now end) c b all.asks all.answers
all_behind now turn turns c b book next done more sound did adds second (rest, end, all, was) =
    let run = run_joined c b book was.last done (joined more rest) (did_run c b book turn.deed done did) (run_joined c book next was.last more rest second was.run) in
    let whole = joined done (joined more rest) in (
      whole,
      end,
      (done, more, rest, book, next, did, adds, all, refl),
      were_answered (now end) c b whole.asks whole.answers sound (was.last, was.stands, run),
    )

pub jobs_are_kept : JobsAreKept
jobs_are_kept held last [] led c b there sound = (
  session_of [],
  b,
  (refl, refl),
  were_answered (λ x. (x ≡ b) × Held last c x) c b [] [] sound (b, (refl, subst (λ image. Held image c b) (sym led) there), refl),
)
jobs_are_kept held last (turn ∷ turns) (image, leads, led) c b there sound =
    let (done, book, next, did, follows, holds) = leads c b there sound in
    let (more, adds, second) = one_more turn.end c book next follows in
    let start = still_sound c book next more (still_sound c b book done sound (did_run c b book turn.deed done did)) second in
    all_behind (λ end x. (x ≡ end) × Held last c x) turn turns c b book next done more sound did adds second (jobs_are_kept image last turns led c next holds start)

pub all_jobs_are_kept : AllJobsAreKept
all_jobs_are_kept held last [] led c b there sound = ∣ jobs_are_kept held last [] led c b there sound ∣₁
all_jobs_are_kept held last (Some turn ∷ jobs) (image, leads, led) c b there sound = ∥∥₁_elim (leads c b there sound) (hlevel) (λ by.
    let (done, book, next, did, follows, holds) = by in
    let (more, adds, second) = one_more turn.end c book next follows in
    let start = still_sound c book next more (still_sound c b book done sound (did_run c b book turn.deed done did)) second in
    ∥∥₁_map (all_jobs_are_kept image last jobs led c next holds start)
    (all_behind (λ end x. (x ≡ end) × Held last c x) turn (turns_of jobs) c b book next done more sound did adds second))
all_jobs_are_kept held last (None ∷ jobs) (image, holds, led) c b there sound =
    ∥∥₁_elim (holds c b there) (hlevel) (λ now. all_jobs_are_kept image last jobs led c b now sound)
