-- Two runs from one book: each answer that is not Unavailable is the step's, and one that is changes nothing.
use Rattle.std.proofs.Common.{◌≡◌, Bool, true, false, cond, List, [], ◌∷◌, map, drop, refl, sym, ap, subst, ◌∙◌, inl, inr}
use Rattle.std.specs.List.{list_any}
use Rattle.std.proofs.lemmas.Bool.{cases_Bool, or_parts}
use Rattle.fr_base.specs.Alone.{lacked, is_unavailable, is_refused, answers_to, book_after}
use Rattle.fr_base.specs.Book.{Book}
use Rattle.fr_base.specs.Cluster.{Cluster}
use Rattle.fr_base.specs.Run.{IsRun}
use Rattle.fr_base.specs.Step.{step}
use Rattle.fr_base.specs.declared.answer.Answer.{Answer}
use Rattle.fr_base.specs.declared.answer.Answer.TheVariants.{Refused}
use Rattle.fr_base.specs.declared.refusal.Refusal.{Refusal}
use Rattle.fr_base.specs.declared.refusal.Refusal.TheVariants.{Unavailable}
use Rattle.fr_base.specs.declared.request.Ask.{Ask}
use Rattle.fr_base.proofs.RefusedSteps.{step-unchanged}

lacked_is : (r : Refusal) → lacked r ≡ true → r ≡ Unavailable
lacked_is Unavailable lacks = refl
lacked_is _ lacks = cc

unavailable_is : (a : Answer) → is_unavailable a ≡ true → a ≡ Refused Unavailable
unavailable_is (Refused r) lacks = ap Refused (lacked_is r lacks)
unavailable_is _ lacks = cc

unavailable_refused : (a : Answer) → is_unavailable a ≡ true → is_refused a ≡ true
unavailable_refused (Refused r) lacks = refl
unavailable_refused _ lacks = cc

-- ---- the first request of a run

module _ (c : Cluster) (b : Book) (ask : Ask) where
  -- the answer to the request, and the book after it, by whether the answer is Unavailable
  abbrev answer_by : Bool → Answer
  answer_by lacks = cond lacks (Refused Unavailable) (step c b ask.actor ask.request).answer

  abbrev book_by : Bool → Book
  book_by lacks = cond lacks b (step c b ask.actor ask.request).book

  by_step : (answer : Answer) → answer ≡ (step c b ask.actor ask.request).answer →
      ((step c b ask.actor ask.request).book ≡ book_by (is_unavailable answer)) × (answer ≡ answer_by (is_unavailable answer))
  by_step answer is = elim (cases_Bool (is_unavailable answer)) [
    | inl lacks ↦ (
      step-unchanged c b ask.actor ask.request (unavailable_refused _ (ap is_unavailable (sym is) ∙ lacks)) ∙ sym (ap book_by lacks),
      unavailable_is answer lacks ∙ sym (ap answer_by lacks),
    )
    | inr given ↦ (sym (ap book_by given), is ∙ sym (ap answer_by given))
  ]

  first_of_run : (asks : List Ask) (answer : Answer) (answers : List Answer) (last : Book) → IsRun c b (ask ∷ asks) (answer ∷ answers) last →
      (answer ≡ answer_by (is_unavailable answer)) × IsRun c (book_by (is_unavailable answer)) asks answers last
  first_of_run asks answer answers last (inl lacks) = (
    lacks.1 ∙ sym (ap (λ a. answer_by (is_unavailable a)) lacks.1),
    subst (λ a. IsRun c (book_by (is_unavailable a)) asks answers last) (sym lacks.1) lacks.2,
  )
  first_of_run asks answer answers last (inr steps) =
      let by = by_step answer steps.0 in
      (by.1, subst (λ d. IsRun c d asks answers last) by.0 steps.1)

-- ---- a run without Unavailable

pub run-steps : (c : Cluster) (b last : Book) (asks : List Ask) (answers : List Answer) → IsRun c b asks answers last →
    list_any is_unavailable answers ≡ false → (answers ≡ answers_to c b asks) × (last ≡ book_after c b asks)
run-steps c b last [] [] run given = (refl, run)
run-steps c b last [] (answer ∷ answers) run given = absurd run
run-steps c b last (ask ∷ asks) [] run given = absurd run
run-steps c b last (ask ∷ asks) (answer ∷ answers) run given =
    let both = or_parts _ _ given in
    let first = first_of_run c b ask asks answer answers last run in
    let rest = run-steps c (step c b ask.actor ask.request).book last asks answers
    (subst (λ t. IsRun c (book_by c b ask t) asks answers last) both.0 first.1) both.1 in
    let is : answer ≡ (step c b ask.actor ask.request).answer = first.0 ∙ ap (answer_by c b ask) both.0 in
    (λ i. is i ∷ rest.0 i, rest.1)

-- ---- two runs

head_of : List Bool → Bool
head_of [] = false
head_of (t ∷ _) = t

pub runs-one : (c : Cluster) (b last end : Book) (asks : List Ask) (answers replies : List Answer) → IsRun c b asks answers last → IsRun c b asks replies end →
    map is_unavailable answers ≡ map is_unavailable replies → (answers ≡ replies) × (last ≡ end)
unfolding head_of
runs-one c b last end [] [] [] one two alike = (refl, one ∙ sym two)
runs-one c b last end [] (answer ∷ answers) replies one two alike = absurd one
runs-one c b last end [] [] (reply ∷ replies) one two alike = absurd two
runs-one c b last end (ask ∷ asks) [] replies one two alike = absurd one
runs-one c b last end (ask ∷ asks) (answer ∷ answers) [] one two alike = absurd two
runs-one c b last end (ask ∷ asks) (answer ∷ answers) (reply ∷ replies) one two alike =
    let lacks : is_unavailable answer ≡ is_unavailable reply = ap head_of alike in
    let more : map is_unavailable answers ≡ map is_unavailable replies = ap (drop 1) alike in
    let first = first_of_run c b ask asks answer answers last one in
    let other = first_of_run c b ask asks reply replies end two in
    let is : answer ≡ reply = first.0 ∙ ap (answer_by c b ask) lacks ∙ sym other.0 in
    let rest = runs-one c (book_by c b ask (is_unavailable answer)) last end asks answers replies first.1
    (subst (λ t. IsRun c (book_by c b ask t) asks replies end) (sym lacks) other.1) more in
    (λ i. is i ∷ rest.0 i, rest.1)
