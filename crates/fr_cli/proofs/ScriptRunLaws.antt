-- Lines that were answered so: the book stays sound, what they ask is a run, and to each supplier they are answered as if it were alone.
use Rattle.std.proofs.Common.{◌≡◌, ◌⊎◌, inl, inr, ℕ, Bool, true, false, true≢false, cond, zero, suc, take, ◌||◌, List, [], ◌∷◌, map, Option, Some, None, Result, Ok, Err, refl, sym, ap, ◌∙◌, subst}
use Rattle.std.specs.List.{list_any}
use Rattle.std.specs.Option.{option_and_then}
use Rattle.std.proofs.lemmas.Bool.{cases_Bool}
use Rattle.fr_base.specs.Actors.{actor_of}
use Rattle.fr_base.specs.Alone.{is_mine, is_refused, is_unavailable, rows_of}
use Rattle.fr_base.specs.Book.{Book, opening}
use Rattle.fr_base.specs.Cluster.{Cluster, ClusterFile, IsWellFormed}
use Rattle.fr_base.specs.Run.{IsRun}
use Rattle.fr_base.specs.Sound.{IsSound}
use Rattle.fr_base.specs.Step.{Outcome, step}
use Rattle.fr_base.specs.declared.actor.Actor.{Actor}
use Rattle.fr_base.specs.declared.actor.Actor.TheVariants.{Integrator, Supplier}
use Rattle.fr_base.specs.declared.answer.Answer.{Answer}
use Rattle.fr_base.specs.declared.answer.Answer.TheVariants.{Refused}
use Rattle.fr_base.specs.declared.name.Name.{Name}
use Rattle.fr_base.specs.declared.refusal.Refusal.{Refusal}
use Rattle.fr_base.specs.declared.request.Ask.{Ask}
use Rattle.fr_base.specs.declared.request.Request.{Request}
use Rattle.fr_base.proofs.SoundSteps.{step-sound}
use Rattle.fr_base.proofs.SoundLaws.{holder, one_frame, opening-sound}
use Rattle.fr_base.proofs.RefusedSteps.{step-unchanged}
use Rattle.fr_base.proofs.AloneSteps.{step-alone, step-not_mine}
use Rattle.fr_base.proofs.AloneRuns.{opening-alone}
use Rattle.fr_http.proofs.AloneActors.{actor-alone, is_heard, mine-heard, nobody-alone, not_lacked}
use Rattle.fr_cli.specs.Asked.{ask_in, asked, request_in, sender_of}
use Rattle.fr_cli.specs.ScriptRun.{AreAnswered, AreAsIfAlone, Replied, WasCollisionFreeAfter, answers_of, answers_to, asks_in, book_after, book_then, is_own, line_step, lines_of, outcome_of, with_ask}

-- A line that is answered leaves a sound book sound.
replied-sound : (c : Cluster) (old new : Book) (read : Result Ask Refusal) (answer : Answer) → Replied c old read answer new → IsSound c old → IsSound c new
replied-sound c old new (Err refusal) answer replied sound = subst (IsSound c) (sym replied.1) sound
replied-sound c old new (Ok ask) answer (inl lacks) sound = subst (IsSound c) (sym lacks.2) sound
replied-sound c old new (Ok ask) answer (inr steps) sound = subst (IsSound c) (sym steps.1) (step-sound c old sound ask.actor ask.request)

pub answered-sound : (c : Cluster) (b last : Book) (lines : List (List ℕ)) (answers : List Answer) → AreAnswered c b lines answers last → IsSound c b → IsSound c last
answered-sound c b last [] [] so sound = subst (IsSound c) (sym so) sound
answered-sound c b last [] (answer ∷ answers) so sound = absurd so
answered-sound c b last (line ∷ lines) [] so sound = absurd so
answered-sound c b last (line ∷ lines) (answer ∷ answers) so sound =
    answered-sound c so.0 last lines answers so.2 (replied-sound c b so.0 (ask_in c b line) answer so.1 sound)

-- ---- after each line

-- so many of the lines were answered so, up to a book
fronts : (c : Cluster) (b last : Book) (lines : List (List ℕ)) (answers : List Answer) (n : ℕ) → AreAnswered c b lines answers last →
    (mid : Book) × AreAnswered c b (take n lines) (take n answers) mid
fronts c b last lines answers zero so = (b, refl)
fronts c b last [] [] (suc n) so = (last, so)
fronts c b last [] (answer ∷ answers) (suc n) so = absurd so
fronts c b last (line ∷ lines) [] (suc n) so = absurd so
fronts c b last (line ∷ lines) (answer ∷ answers) (suc n) so =
    let rest = fronts c so.0 last lines answers n so.2 in
    (rest.0, (so.0, so.1, rest.1))

pub collision-free_after : (f : ClusterFile) (last : Book) (lines : List (List ℕ)) (answers : List Answer) → IsWellFormed f → AreAnswered f.cluster (opening f) lines answers last →
    (n : ℕ) → WasCollisionFreeAfter f lines answers n
collision-free_after f last lines answers formed so n =
    let front = fronts f.cluster (opening f) last lines answers n so in
    let sound = answered-sound f.cluster (opening f) front.0 (take n lines) (take n answers) front.1 (opening-sound f formed) in
    record {
      book = front.0;
      before = front.1;
      free = record {
        one = λ name v k l f g q r cell there x y. one_frame _ front.0 sound name v there k l f g q r cell x y;
        holder = λ name v k f q cell there x. holder _ front.0 sound name v there k f q cell x;
      };
    }

-- ---- the book after a line

either_same : {A : Type 0} (t : Bool) (x : A) → x ≡ cond t x x
either_same true x = refl
either_same false x = refl

unavailable_refused : (a : Answer) → is_unavailable a ≡ true → is_refused a ≡ true
unavailable_refused (Refused r) lacks = refl
unavailable_refused _ lacks = cc

module _ (c : Cluster) (b : Book) where
  -- a step that is answered Unavailable changes nothing
  step-then : (ask : Ask) → (step c b ask.actor ask.request).book ≡ cond (is_unavailable (step c b ask.actor ask.request).answer) b (step c b ask.actor ask.request).book
  step-then ask = elim (cases_Bool (is_unavailable (step c b ask.actor ask.request).answer)) [
    | inl lacks ↦ step-unchanged c b ask.actor ask.request (unavailable_refused _ lacks) ∙ sym (ap (λ t. cond t b (step c b ask.actor ask.request).book) lacks)
    | inr given ↦ sym (ap (λ t. cond t b (step c b ask.actor ask.request).book) given)
  ]

  replied-then : (d : Book) (read : Result Ask Refusal) (answer : Answer) → Replied c b read answer d → d ≡ cond (is_unavailable answer) b (outcome_of c b read).book
  replied-then d (Err refusal) answer replied = replied.1 ∙ either_same (is_unavailable answer) b
  replied-then d (Ok ask) answer (inl lacks) = lacks.2 ∙ sym (ap (λ a. cond (is_unavailable a) b (step c b ask.actor ask.request).book) lacks.1)
  replied-then d (Ok ask) answer (inr steps) =
      steps.1 ∙ step-then ask ∙ sym (ap (λ a. cond (is_unavailable a) b (step c b ask.actor ask.request).book) steps.0)

-- the first line's answer, and the others from the book that it leaves
first_line : (c : Cluster) (b last : Book) (line : List ℕ) (lines : List (List ℕ)) (answer : Answer) (answers : List Answer) → AreAnswered c b (line ∷ lines) (answer ∷ answers) last →
    Replied c b (ask_in c b line) answer (book_then c b line answer) × AreAnswered c (book_then c b line answer) lines answers last
first_line c b last line lines answer answers so =
    let is : so.0 ≡ book_then c b line answer = replied-then c b so.0 (ask_in c b line) answer so.1 in
    (subst (Replied c b (ask_in c b line) answer) is so.1, subst (λ d. AreAnswered c d lines answers last) is so.2)

-- ---- what the lines ask is a run

with_ask-run : (c : Cluster) (b mid last : Book) (read : Result Ask Refusal) (answer : Answer) (given : List (Ask × Answer)) → Replied c b read answer mid →
    IsRun c mid (map (λ a. a.0) given) (map (λ a. a.1) given) last → IsRun c b (map (λ a. a.0) (with_ask read answer given)) (map (λ a. a.1) (with_ask read answer given)) last
with_ask-run c b mid last (Err refusal) answer given replied rest = subst (λ d. IsRun c d (map (λ a. a.0) given) (map (λ a. a.1) given) last) replied.1 rest
with_ask-run c b mid last (Ok ask) answer given (inl lacks) rest = inl (lacks.0, lacks.1, subst (λ d. IsRun c d (map (λ a. a.0) given) (map (λ a. a.1) given) last) lacks.2 rest)
with_ask-run c b mid last (Ok ask) answer given (inr steps) rest = inr (steps.0, subst (λ d. IsRun c d (map (λ a. a.0) given) (map (λ a. a.1) given) last) steps.1 rest)

pub lines-run : (c : Cluster) (b last : Book) (lines : List (List ℕ)) (answers : List Answer) → AreAnswered c b lines answers last →
    IsRun c b (map (λ a. a.0) (asks_in c b lines answers)) (map (λ a. a.1) (asks_in c b lines answers)) last
lines-run c b last [] [] so = so
lines-run c b last [] (answer ∷ answers) so = absurd so
lines-run c b last (line ∷ lines) [] so = absurd so
lines-run c b last (line ∷ lines) (answer ∷ answers) so =
    let first = first_line c b last line lines answer answers so in
    with_ask-run c b (book_then c b line answer) last (ask_in c b line) answer (asks_in c (book_then c b line answer) lines answers) first.0
    (lines-run c (book_then c b line answer) last lines answers first.1)

-- ---- lines of which none is answered Unavailable

neither : (x y : Bool) → x || y ≡ false → (x ≡ false) × (y ≡ false)
neither true y h = cc
neither false y h = (refl, h)

replied-step : (c : Cluster) (b d : Book) (read : Result Ask Refusal) (answer : Answer) → Replied c b read answer d → is_unavailable answer ≡ false →
    record { book = d; answer = answer } ≡ outcome_of c b read
replied-step c b d (Err refusal) answer replied given = λ i. record { book = replied.1 i; answer = replied.0 i }
replied-step c b d (Ok ask) answer (inl lacks) given = absurd (true≢false (sym (ap is_unavailable lacks.1) ∙ given))
replied-step c b d (Ok ask) answer (inr steps) given = λ i. record { book = steps.1 i; answer = steps.0 i }

pub lines-steps : (c : Cluster) (b last : Book) (lines : List (List ℕ)) (answers : List Answer) → AreAnswered c b lines answers last →
    list_any is_unavailable answers ≡ false → (answers ≡ answers_to c b lines) × (last ≡ book_after c b lines)
lines-steps c b last [] [] so given = (refl, so)
lines-steps c b last [] (answer ∷ answers) so given = absurd so
lines-steps c b last (line ∷ lines) [] so given = absurd so
lines-steps c b last (line ∷ lines) (answer ∷ answers) so given =
    let both = neither _ _ given in
    let first = replied-step c b so.0 (ask_in c b line) answer so.1 both.0 in
    let rest = lines-steps c so.0 last lines answers so.2 both.1 in
    (ap (λ more. answer ∷ more) rest.0 ∙ ap (λ (o : Outcome). o.answer ∷ answers_to c o.book lines) first, rest.1 ∙ ap (λ (o : Outcome). book_after c o.book lines) first)

-- ---- who sends a line, in the register of one supplier alone

module _ (s : Name) where
  own-heard : (sender : Option Actor) (request : Option Request) (answer : Answer) → is_own s sender request answer ≡ true → (is_heard s sender ≡ true) ⊎ (sender ≡ None)
  own-heard None request answer own = inr refl
  own-heard (Some Integrator) request answer own = inl refl
  own-heard (Some (Supplier t)) None answer own = inl own
  own-heard (Some (Supplier t)) (Some request) answer own = inl (mine-heard s (Supplier t) request answer own)

  module _ (c : Cluster) (b : Book) where
    sender-alone : (parts : Option (List ℕ × List ℕ)) → let sender = option_and_then (λ p. actor_of c b p.0) parts in
        (is_heard s sender ≡ true) ⊎ (sender ≡ None) → option_and_then (λ p. actor_of c (rows_of s b) p.0) parts ≡ sender
    sender-alone None own = refl
    sender-alone (Some parts) (inl heard) = actor-alone s c b parts.0 heard
    sender-alone (Some parts) (inr nobodys) = nobody-alone s c b parts.0 nobodys ∙ sym nobodys

    -- ---- a line, in that register

    outcome-own : (d : Book) (request : Option Request) (sender : Option Actor) (answer : Answer) → IsSound c b → Replied c b (asked request sender) answer d →
        is_own s sender request answer ≡ true → outcome_of c (rows_of s b) (asked request sender) ≡ record { book = rows_of s d; answer = answer }
    outcome-own d None sender answer sound replied own = λ i. record { book = rows_of s (sym replied.1 i); answer = sym replied.0 i }
    outcome-own d (Some request) None answer sound replied own = λ i. record { book = rows_of s (sym replied.1 i); answer = sym replied.0 i }
    outcome-own d (Some request) (Some actor) answer sound (inl lacks) own =
        absurd (true≢false (sym own ∙ ap (is_mine s actor request) lacks.1 ∙ not_lacked s actor request))
    outcome-own d (Some request) (Some actor) answer sound (inr steps) own =
        let same = step-alone c b s actor request sound (ap (is_mine s actor request) (sym steps.0) ∙ own) in
        λ i. record { book = (same.1 ∙ ap (rows_of s) (sym steps.1)) i; answer = (same.0 ∙ sym steps.0) i }

    rows-other : (d : Book) (request : Option Request) (sender : Option Actor) (answer : Answer) → Replied c b (asked request sender) answer d →
        is_own s sender request answer ≡ false → rows_of s d ≡ rows_of s b
    rows-other d None sender answer replied other = ap (rows_of s) replied.1
    rows-other d (Some request) None answer replied other = ap (rows_of s) replied.1
    rows-other d (Some request) (Some actor) answer (inl lacks) other = ap (rows_of s) lacks.2
    rows-other d (Some request) (Some actor) answer (inr steps) other =
        ap (rows_of s) steps.1 ∙ step-not_mine c b s actor request (ap (is_mine s actor request) (sym steps.0) ∙ other)

    own-line : (d : Book) (line : List ℕ) (answer : Answer) → IsSound c b → Replied c b (ask_in c b line) answer d →
        is_own s (sender_of c b line) (request_in line) answer ≡ true → line_step c (rows_of s b) line ≡ record { book = rows_of s d; answer = answer }
    unfolding ask_in
    own-line d line answer sound replied own =
        ap (λ a. outcome_of c (rows_of s b) (asked (request_in line) a)) (sender-alone _ (own-heard _ _ answer own))
        ∙ outcome-own d (request_in line) (sender_of c b line) answer sound replied own

    other-line : (d : Book) (line : List ℕ) (answer : Answer) → Replied c b (ask_in c b line) answer d →
        is_own s (sender_of c b line) (request_in line) answer ≡ false → rows_of s d ≡ rows_of s b
    unfolding ask_in
    other-line d line answer replied other = rows-other d (request_in line) (sender_of c b line) answer replied other

-- ---- the lines, in that register

-- from this book the lines are answered so, and then the book is the last
abbrev Gives : Cluster → Book → List (List ℕ) → List Answer → Book → Type 0
Gives c b lines answers last = (answers_to c b lines ≡ answers) × (book_after c b lines ≡ last)

gives_first : (c : Cluster) (b d last : Book) (line : List ℕ) (lines : List (List ℕ)) (answer : Answer) (answers : List Answer) →
    line_step c b line ≡ record { book = d; answer = answer } → Gives c d lines answers last → Gives c b (line ∷ lines) (answer ∷ answers) last
gives_first c b d last line lines answer answers first rest =
    (ap (λ (o : Outcome). o.answer ∷ answers_to c o.book lines) first ∙ ap (λ more. answer ∷ more) rest.0, ap (λ (o : Outcome). book_after c o.book lines) first ∙ rest.1)

pub lines-alone : (s : Name) (c : Cluster) (b last : Book) (lines : List (List ℕ)) (answers : List Answer) → IsSound c b → AreAnswered c b lines answers last →
    Gives c (rows_of s b) (lines_of s c b lines answers) (answers_of s c b lines answers) (rows_of s last)
lines-alone s c b last [] [] sound so = (refl, ap (rows_of s) (sym so))
lines-alone s c b last [] (answer ∷ answers) sound so = absurd so
lines-alone s c b last (line ∷ lines) [] sound so = absurd so
lines-alone s c b last (line ∷ lines) (answer ∷ answers) sound so =
    let d : Book = book_then c b line answer in
    let first = first_line c b last line lines answer answers so in
    let rest = lines-alone s c d last lines answers (replied-sound c b d (ask_in c b line) answer first.0 sound) first.1 in
    elim (cases_Bool (is_own s (sender_of c b line) (request_in line) answer)) [
      | inl own ↦ rw own (gives_first c (rows_of s b) (rows_of s d) (rows_of s last) line (lines_of s c d lines answers) answer (answers_of s c d lines answers) (own-line s c b d line answer sound first.0 own) rest)
      | inr other ↦ rw other (subst (λ x. Gives c x (lines_of s c d lines answers) (answers_of s c d lines answers) (rows_of s last)) (other-line s c b d line answer first.0 other) rest)
    ]

pub script-alone : (f : ClusterFile) (last : Book) (lines : List (List ℕ)) (answers : List Answer) (s : Name) →
    IsWellFormed f → AreAnswered f.cluster (opening f) lines answers last → AreAsIfAlone s f lines answers last
script-alone f last lines answers s formed so =
    let c = f.cluster in
    let begin = opening-alone f s in
    let gives = lines-alone s c (opening f) last lines answers (opening-sound f formed) so in
    record {
      same = ap (λ b. answers_to c b (lines_of s c (opening f) lines answers)) (sym begin) ∙ gives.0;
      rows = ap (λ b. book_after c b (lines_of s c (opening f) lines answers)) (sym begin) ∙ gives.1;
    }
