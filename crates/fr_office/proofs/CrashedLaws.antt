-- A crash leaves what was answered.
use Rattle.std.specs.Bool.{⊤}
use Rattle.std.proofs.Common.{◌≡◌, ◌⊎◌, ◌∙◌, inl, inr, List, [], ◌∷◌, ◌++◌, refl, sym, ap, subst}
use Rattle.fr_base.specs.Book.{Book}
use Rattle.fr_base.specs.Cluster.{Cluster}
use Rattle.fr_base.specs.Run.{IsRun}
use Rattle.fr_base.specs.Sound.{IsSound}
use Rattle.fr_base.specs.Step.{step}
use Rattle.fr_base.specs.declared.actor.Actor.{Actor}
use Rattle.fr_base.specs.declared.answer.Answer.{Answer}
use Rattle.fr_base.specs.declared.answer.Answer.TheVariants.{Done, Imported, Replaced, Report, Refused, RefusedRow}
use Rattle.fr_base.specs.declared.refusal.Refusal.TheVariants.{Unavailable}
use Rattle.fr_base.specs.declared.request.Ask.{Ask}
use Rattle.fr_base.specs.declared.request.Request.{Request}
use Rattle.fr_base.proofs.SoundLaws.{run-sound}
use Rattle.fr_office.specs.Answers.{Answers, AfterChange, KeepsChange, LeavesStep, WhereChanged}
use Rattle.fr_office.specs.Crashed.{IsTurn, WereAsked, NoneDone, TellsNoChange, WasLacking, WasNotDone, IsOrNext, IsNear, EachBook, IsKept, WereKept, KeepsAnswered, IsFound}
use Rattle.fr_office.proofs.DoneLaws.{changes, step-quiet}
use Rattle.fr_office.proofs.RunLaws.{run_more, were_answered}
use Rattle.fr_world.specs.Held.{Leaving, Standing}

-- ---- a change that was answered

where_so : (before after : Book) (answer : Answer) (P Q : Type 0) → (P → Q) → WhereChanged before after answer P → WhereChanged before after answer Q
where_so before after Done P Q follows h = follows h
where_so before after (Imported n) P Q follows h = elim h [ inl same ↦ inl same | inr p ↦ inr (follows p) ]
where_so before after (Replaced n) P Q follows h = follows h
where_so before after (Report all rows) P Q follows h = tt
where_so before after (Refused e) P Q follows h = tt
where_so before after (RefusedRow line e) P Q follows h = tt

-- records that serve after a change keep it
pub keeps_change : (old new : Standing) (left : Leaving) (serves : Type 0) (ask : Ask) (answer : Answer) → ((c : Cluster) (b : Book) → serves → new c b → left c (b ∷ []))
    → Answers old new ask answer → AfterChange old ask answer serves → KeepsChange old left ask answer
keeps_change old new left serves ask answer settled answers opened c b stood sound =
    let after = (step c b ask.actor ask.request).book in
    let a = answers c b stood sound in elim a.2 [
      | inl lacked ↦ subst (λ (said : Answer). WhereChanged b after said (left c (after ∷ []))) (sym lacked.1) tt
      | inr ran ↦ where_so b after answer serves (left c (after ∷ [])) (λ up. subst (λ (last : Book). left c (last ∷ [])) ran.1 (settled c a.0 up a.1)) (opened c b stood sound)
    ]

-- a step that was answered led to what is kept, or changed nothing
led : (c : Cluster) (b : Book) (actor : Actor) (request : Request) (answer : Answer) (P : Type 0) → answer ≡ (step c b actor request).answer → WhereChanged b (step c b actor request).book answer P
    → P ⊎ (TellsNoChange answer × ((step c b actor request).book ≡ b))
led c b actor request Done P is kept = inl kept
led c b actor request (Imported n) P is kept = elim kept [ inl same ↦ inr (tt, same) | inr p ↦ inl p ]
led c b actor request (Replaced n) P is kept = inl kept
led c b actor request (Report all rows) P is kept = inr (tt, step-quiet c b actor request (ap changes (sym is)))
led c b actor request (Refused e) P is kept = inr (tt, step-quiet c b actor request (ap changes (sym is)))
led c b actor request (RefusedRow line e) P is kept = inr (tt, step-quiet c b actor request (ap changes (sym is)))

not_done : (c : Cluster) (b : Book) (ask : Ask) (answer : Answer) → answer ≡ Refused Unavailable → WasNotDone c b ask answer
not_done c b ask answer lacked = (subst TellsNoChange (sym lacked) tt, inl lacked)

-- ---- the book, or the one after one request more

-- A crash leaves no more than before, or the book after a request.
near_left : (c : Cluster) (b : Book) (leaves : List Book → Type 0) (ask : Ask) (books : List Book)
    → EachBook (IsNear c b) books
    → leaves books ⊎ leaves ((step c b ask.actor ask.request).book ∷ books) → IsKept leaves c b
near_left c b leaves ask books each (inl same) = record { books = books; left = same; each = each }
near_left c b leaves ask books each (inr more) = record {
  books = (step c b ask.actor ask.request).book ∷ books;
  left = more;
  each = (inr (ask, tt, refl), each);
}

-- Where it left the book, or the one after one request more, so it does when a request is answered.
pub still_kept : (old new : Standing) (before after : Leaving) (ask : Ask) (answer : Answer)
    → Answers old new ask answer → LeavesStep old before after ask → KeepsChange old after ask answer
    → Answers (λ c b. old c b × IsKept (before c) c b) (λ c b. new c b × IsKept (after c) c b) ask answer
still_kept old new before after ask answer answers leaves keeps c b stood sound =
    let a = answers c b stood.0 sound in
    let next = (step c b ask.actor ask.request).book in
    let was = stood.1 in
    let left = leaves c b was.books stood.0 sound was.left in
    let stays : IsKept (after c) c b = near_left c b (after c) ask was.books was.each left in
    let kept : IsKept (after c) c a.0 = elim a.2 [
      | inl lacked ↦ subst (λ k. IsKept (after c) c k) (sym lacked.2) stays
      | inr ran ↦ elim (led c b ask.actor ask.request answer (after c (next ∷ [])) ran.0 (keeps c b stood.0 sound)) [
        | inl only ↦
            let alone : IsKept (after c) c next = record { books = next ∷ []; left = only; each = (inl refl, tt) } in
            subst (λ k. IsKept (after c) c k) (sym ran.1) alone
        | inr same ↦ subst (λ k. IsKept (after c) c k) (sym (ran.1 ∙ same.1)) stays
      ]
    ] in
    (a.0, (a.1, kept), a.2)

-- so where a register is only read
pub kept_still : (c : Cluster) (b : Book) (before after : List Book → Type 0)
    → ((books : List Book) → before books → after books) → IsKept before c b → IsKept after c b
kept_still c b before after follows was = record { books = was.books; left = follows was.books was.left; each = was.each }

-- so where a crash leaves the book for which it stands, and no other
pub kept_alone : (c : Cluster) (b : Book) (leaves : List Book → Type 0) → leaves (b ∷ []) → IsKept leaves c b
kept_alone c b leaves left = record { books = b ∷ []; left = left; each = (inl refl, tt) }

-- ---- requests one after another

each_so : (P Q : Book → Type 0) (books : List Book) → ((x : Book) → P x → Q x) → EachBook P books → EachBook Q books
each_so P Q [] follows each = tt
each_so P Q (x ∷ books) follows each = (follows x each.0, each_so P Q books follows each.1)

next_so : (c : Cluster) (Of Or : Ask → Type 0) (book x : Book) → ((ask : Ask) → Of ask → Or ask) → IsOrNext c Of book x → IsOrNext c Or book x
next_so c Of Or book x follows (inl same) = inl same
next_so c Of Or book x follows (inr next) = inr (next.0, follows next.0 next.1, next.2)

-- a request more before a run
run_from : (c : Cluster) (b mid x : Book) (ask : Ask) (answer : Answer) (asks : List Ask) (answers : List Answer) → IsRun c b (ask ∷ []) (answer ∷ []) mid → IsRun c mid asks answers x
    → IsRun c b (ask ∷ asks) (answer ∷ answers) x
run_from c b mid x ask answer asks answers (inl lacked) run = inl (lacked.0, lacked.1, subst (λ k. IsRun c k asks answers x) lacked.2 run)
run_from c b mid x ask answer asks answers (inr done) run = inr (done.0, subst (λ k. IsRun c k asks answers x) done.1 run)

module _ {R : Type 0} (stands : R → Standing) (leaves : R → Leaving) where
  -- one request more, after the others
  pub asked_more : (first mid last : R) (asks : List Ask) (ask : Ask) (answers : List Answer) (answer : Answer) → WereAsked stands leaves first asks answers mid
      → IsTurn stands leaves mid ask answer last → WereAsked stands leaves first (asks ++ ask ∷ []) (answers ++ answer ∷ []) last
  asked_more first mid last [] ask [] answer asked turn = (last, subst (λ r. IsTurn stands leaves r ask answer last) asked turn, refl)
  asked_more first mid last [] ask (a ∷ answers) answer asked turn = absurd asked
  asked_more first mid last (k ∷ asks) ask [] answer asked turn = absurd asked
  asked_more first mid last (k ∷ asks) ask (a ∷ answers) answer asked turn = (asked.0, asked.1, asked_more asked.0 mid last asks ask answers answer asked.2 turn)

  module _ (c : Cluster) where
    -- what was asked is a run
    pub asked_run : (b : Book) (first last : R) (asks : List Ask) (answers : List Answer) → WereAsked stands leaves first asks answers last → stands first c b → IsSound c b
        → (book : Book) × stands last c book × IsRun c b asks answers book
    asked_run b first last [] [] asked stood sound = (b, subst (λ r. stands r c b) (sym asked) stood, refl)
    asked_run b first last [] (a ∷ answers) asked stood sound = absurd asked
    asked_run b first last (ask ∷ asks) [] asked stood sound = absurd asked
    asked_run b first last (ask ∷ asks) (answer ∷ answers) asked stood sound =
        let a = asked.1.answers c b stood sound in
        let rest = asked_run a.0 asked.0 last asks answers asked.2 a.1 (run-sound c b a.0 (ask ∷ []) (answer ∷ []) sound a.2) in
        (rest.0, rest.1, run_from c b a.0 rest.0 ask answer asks answers a.2 rest.2)

    -- requests that were lacking before, where none was carried out since, or that were lacking then
    abbrev Since : (Ask → Type 0) → Book → List Ask → List Answer → Ask → Type 0
    Since Was b asks answers ask = (Was ask × NoneDone c b asks answers) ⊎ WasLacking c b asks answers ask

    record Kept (Was : Ask → Type 0) (b : Book) (last : R) (asks : List Ask) (answers : List Answer) : Type 0 where
      book : Book
      stood : stands last c book
      run : IsRun c b asks answers book
      books : List Book
      left : leaves last c books
      each : EachBook (IsOrNext c (Since Was b asks answers) book) books

    -- the first of the requests may be lacking
    abbrev WasOr : (Ask → Type 0) → Ask → Answer → Ask → Type 0
    WasOr Was first answer ask = Was ask ⊎ ((ask ≡ first) × (answer ≡ Refused Unavailable))

    go_on : (Was : Ask → Type 0) (b mid : Book) (last : R) (ask : Ask) (answer : Answer) (asks : List Ask) (answers : List Answer) → IsRun c b (ask ∷ []) (answer ∷ []) mid
        → WasNotDone c b ask answer → mid ≡ b → Kept (WasOr Was ask answer) mid last asks answers → Kept Was b last (ask ∷ asks) (answer ∷ answers)
    go_on Was b mid last ask answer asks answers first other same rest = record {
      book = rest.book;
      stood = rest.stood;
      run = run_from c b mid rest.book ask answer asks answers first rest.run;
      books = rest.books;
      left = rest.left;
      each = each_so _ _ rest.books (λ x near. next_so c (Since (WasOr Was ask answer) mid asks answers) (Since Was b (ask ∷ asks) (answer ∷ answers)) rest.book x (λ k since. elim since [
        | inl was ↦ elim was.0 [
          | inl before ↦ inl (before, (other, subst (λ (book : Book). NoneDone c book asks answers) same was.1))
          | inr now ↦ inr (mid, first, inl (now.0, now.1, was.1))
        ]
        | inr later ↦ inr (mid, first, inr later)
      ]) near) rest.each;
    }

    -- nothing else is left after a change
    afresh : (Was : Ask → Type 0) (b mid : Book) (last : R) (ask : Ask) (answer : Answer) (asks : List Ask) (answers : List Answer) → IsRun c b (ask ∷ []) (answer ∷ []) mid
        → Kept (λ _. ⊥) mid last asks answers → Kept Was b last (ask ∷ asks) (answer ∷ answers)
    afresh Was b mid last ask answer asks answers first rest = record {
      book = rest.book;
      stood = rest.stood;
      run = run_from c b mid rest.book ask answer asks answers first rest.run;
      books = rest.books;
      left = rest.left;
      each = each_so _ _ rest.books (λ x near. next_so c (Since (λ _. ⊥) mid asks answers) (Since Was b (ask ∷ asks) (answer ∷ answers)) rest.book x (λ k since. elim since [
        | inl was ↦ absurd was.0
        | inr later ↦ inr (mid, first, inr later)
      ]) near) rest.each;
    }

    -- what a crash leaves after one request more of which it is known what the step comes to
    with_step : (Was : Ask → Type 0) (b mid : Book) (after : R) (ask : Ask) (answer : Answer) (books : List Book) → mid ≡ b
        → IsOrNext c (WasOr Was ask answer) b (step c b ask.actor ask.request).book → EachBook (IsOrNext c Was b) books
        → leaves after c books ⊎ leaves after c ((step c b ask.actor ask.request).book ∷ books)
        → (found : List Book) × leaves after c found × EachBook (IsOrNext c (WasOr Was ask answer) mid) found
    with_step Was b mid after ask answer books is near each left =
        let before : EachBook (IsOrNext c (WasOr Was ask answer) b) books = each_so _ _ books (λ x h. next_so c Was (WasOr Was ask answer) b x (λ k was. inl was) h) each in elim left [
          | inl stays ↦ (books, stays, subst (λ k. EachBook (IsOrNext c (WasOr Was ask answer) k) books) (sym is) before)
          | inr more ↦ ((step c b ask.actor ask.request).book ∷ books, more, subst (λ k. EachBook (IsOrNext c (WasOr Was ask answer) k) ((step c b ask.actor ask.request).book ∷ books)) (sym is) (near, before))
        ]

    kept_by : (Was : Ask → Type 0) (b : Book) (first last : R) (asks : List Ask) (answers : List Answer) (books : List Book) → WereAsked stands leaves first asks answers last
        → stands first c b → IsSound c b → leaves first c books → EachBook (IsOrNext c Was b) books → Kept Was b last asks answers
    kept_by Was b first last [] [] books asked stood sound left each = record {
      book = b;
      stood = subst (λ r. stands r c b) (sym asked) stood;
      run = refl;
      books = books;
      left = subst (λ r. leaves r c books) (sym asked) left;
      each = each_so _ _ books (λ x near. next_so c Was (Since Was b [] []) b x (λ k was. inl (was, tt)) near) each;
    }
    kept_by Was b first last [] (a ∷ answers) books asked stood sound left each = absurd asked
    kept_by Was b first last (ask ∷ asks) [] books asked stood sound left each = absurd asked
    kept_by Was b first last (ask ∷ asks) (answer ∷ answers) books asked stood sound left each =
        let a = asked.1.answers c b stood sound in
        let next = run-sound c b a.0 (ask ∷ []) (answer ∷ []) sound a.2 in
        let after = (step c b ask.actor ask.request).book in elim a.2 [
          | inl lacked ↦
              let found = with_step Was b a.0 asked.0 ask answer books lacked.2 (inr (ask, inr (refl, lacked.1), refl)) each (asked.1.left c b books stood sound left) in
              go_on Was b a.0 last ask answer asks answers a.2 (not_done c b ask answer lacked.1) lacked.2
              (kept_by (WasOr Was ask answer) a.0 asked.0 last asks answers found.0 asked.2 a.1 next found.1 found.2)
          | inr ran ↦ elim (led c b ask.actor ask.request answer (leaves asked.0 c (after ∷ [])) ran.0 (asked.1.keeps c b stood sound)) [
            | inl kept ↦ afresh Was b a.0 last ask answer asks answers a.2 (kept_by (λ _. ⊥) a.0 asked.0 last asks answers (after ∷ []) asked.2 a.1 next kept (inl (sym ran.1), tt))
            | inr still ↦
                let same : a.0 ≡ b = subst (λ k. a.0 ≡ k) still.1 ran.1 in
                let found = with_step Was b a.0 asked.0 ask answer books same (inl still.1) each (asked.1.left c b books stood sound left) in
                go_on Was b a.0 last ask answer asks answers a.2 (still.0, inr still.1) same (kept_by (WasOr Was ask answer) a.0 asked.0 last asks answers found.0 asked.2 a.1 next found.1 found.2)
          ]
        ]

    pub were_kept : (b : Book) (first last : R) (asks : List Ask) (answers : List Answer) → WereAsked stands leaves first asks answers last → stands first c b → IsSound c b
        → leaves first c (b ∷ []) → WereKept (stands last c) (leaves last c) c b asks answers
    were_kept b first last asks answers asked stood sound left =
        let k = kept_by (λ _. ⊥) b first last asks answers (b ∷ []) asked stood sound left (inl refl, tt) in
        record {
          last = k.book;
          stands = k.stood;
          run = k.run;
          books = k.books;
          left = k.left;
          each = each_so _ _ k.books (λ x near. next_so c (Since (λ _. ⊥) b asks answers) (WasLacking c b asks answers) k.book x (λ ask since. elim since [
            | inl was ↦ absurd was.0
            | inr later ↦ later
          ]) near) k.each;
        }

-- so a crash leaves the book to which that led, or the one after one request more
pub near_kept : {now : Book → Type 0} (leaves : List Book → Type 0) (c : Cluster) (b : Book) (asks : List Ask) (answers : List Answer)
    → (kept : WereKept now leaves c b asks answers) → IsKept leaves c kept.last
near_kept leaves c b asks answers kept = record {
  books = kept.books;
  left = kept.left;
  each = each_so _ _ kept.books (λ x near. next_so c (WasLacking c b asks answers) (λ _. ⊤) kept.last x (λ _ _. tt) near) kept.each;
}

pub keeps_answered : {R : Type 0} (stands : R → Standing) (leaves : R → Leaving) → KeepsAnswered stands leaves
keeps_answered stands leaves c b first last asks answers asked stood sound left = were_kept stands leaves c b first last asks answers asked stood sound left

-- what is found of what was left is as promised
pub is_found : (now : Book → Type 0) (c : Cluster) (b last x : Book) (asks : List Ask) (answers : List Answer) → IsSound c b → IsRun c b asks answers last → IsOrNext c (WasLacking c b asks answers) last x
    → now x → IsFound now c b asks answers
is_found now c b last x asks answers sound run (inl same) stands = inl (were_answered now c b asks answers sound (x, stands, subst (IsRun c b asks answers) (sym same) run))
is_found now c b last x asks answers sound run (inr next) stands =
    let ask = next.0 in
    let answer = (step c last ask.actor ask.request).answer in
    let more : IsRun c last (ask ∷ []) (answer ∷ []) x = inr (refl, next.2) in
    inr (ask, answer, next.1, were_answered now c b (asks ++ ask ∷ []) (answers ++ answer ∷ []) sound (x, stands, run_more c b last x asks ask answers answer run more))
