-- A request for a report changes nothing, and what its answer tells.
use Rattle.std.proofs.Common.{◌≡◌, ◌⊎◌, Bool, Result, Ok, Err, IfOk, refl, sym, ap, subst, ◌∙◌, inl, inr}
use Rattle.std.specs.Prelude.{List, ℕ, ⊤}
use Rattle.fr_base.specs.Book.{Book}
use Rattle.fr_base.specs.Checks.{check, query}
use Rattle.fr_base.specs.Cluster.{Cluster}
use Rattle.fr_base.specs.Desks.{Standing}
use Rattle.fr_base.specs.Queries.{reply, rows_in}
use Rattle.fr_base.specs.Sound.{IsSound}
use Rattle.fr_base.specs.Step.{Outcome, act, knows, outcome, step}
use Rattle.fr_base.specs.declared.actor.Actor.{Actor}
use Rattle.fr_base.specs.declared.answer.Answer.{Answer}
use Rattle.fr_base.specs.declared.answer.Answer.TheVariants.{Done, Imported, Replaced, Report as Told, Refused, RefusedRow}
use Rattle.fr_base.specs.declared.answer.ReportRows.{ReportRows}
use Rattle.fr_base.specs.declared.params.Params.{Params}
use Rattle.fr_base.specs.declared.refusal.Refusal.{Refusal}
use Rattle.fr_base.specs.declared.refusal.Refusal.TheVariants.{Unavailable}
use Rattle.fr_base.specs.declared.request.Checked.{Checked}
use Rattle.fr_base.specs.declared.request.Checked.TheVariants as checked
use Rattle.fr_base.specs.declared.request.Request.{Request}
use Rattle.fr_base.specs.declared.query.Query.{Query}
use Rattle.fr_base.specs.declared.report.Report.{Report}
use Rattle.fr_base.specs.declared.request.Request.TheVariants as request
use Rattle.fr_base.proofs.SoundRefusing.{gives_each, gives_unless, gives_when}
use Rattle.fr_picture.specs.Reports.{Answered, MayRefuse, Reports, answer_to, asks, asks_difference}

-- ---- the book stays

abbrev IsQuery : Checked → Type 0
IsQuery (checked.Command command) = ⊥
IsQuery (checked.Deliver d) = ⊥
IsQuery (checked.Query query) = ⊤

abbrev Same : Book → Outcome → Type 0
Same b o = o.book ≡ b

act_same : (c : Cluster) (b : Book) (actor : Actor) (what : Checked) → IsQuery what → IfOk (act c b actor what) (Same b)
unfolding act
act_same c b actor (checked.Command command) is = absurd is
act_same c b actor (checked.Deliver d) is = absurd is
act_same c b actor (checked.Query query) is = gives_each _ (reply c.params b actor query) _ (λ rows _. refl)

outcome_same : (b : Book) (r : Result Outcome Refusal) → IfOk r (Same b) → Same b (outcome b r)
unfolding outcome
outcome_same b (Ok o) same = same
outcome_same b (Err e) same = refl

abbrev IsAsked : Request → Type 0
IsAsked asked = (p : Params) (actor : Actor) → IfOk (check p actor asked) IsQuery

stays : (asked : Request) → IsAsked asked → (c : Cluster) (b : Book) (actor : Actor) → (step c b actor asked).book ≡ b
unfolding step
stays asked queries c b actor = outcome_same b _ (
    gives_unless _ _ (knows b actor) _ (λ _.
    gives_each _ (check c.params actor asked) _ (λ what is. act_same c b actor what (subst (λ r. IfOk r IsQuery) is (queries c.params actor)))))

pub query_stays : (asked : Query (List ℕ) ℕ) (c : Cluster) (b : Book) (actor : Actor) → (step c b actor (request.Query asked)).book ≡ b
unfolding check
query_stays asked = stays (request.Query asked) (λ p actor. gives_when _ _ _ _ (λ _. gives_each _ (query asked) _ (λ q _. gives_when _ _ _ _ (λ _. tt))))

-- ---- what its answer tells

module _ {X : Type 0} (old new : Standing) (actor : Actor) (asked : Request) (kind : Bool → X → Answer) (answer : Answer)
    (same : (c : Cluster) (b : Book) (actor : Actor) → (step c b actor asked).book ≡ b) (answered : Answered old new actor asked answer) where
  told : (c : Cluster) (b : Book) → old c b → IsSound c b → new c b × ((answer ≡ Refused Unavailable) ⊎ (answer ≡ answer_to c b actor asked))
  told c b stood sound =
      let a = answered c b stood sound in
      elim a.2 [
        | inl lack ↦ (subst (λ k. new c k) lack.2 a.1, inl lack.1)
        | inr did ↦ (subst (λ k. new c k) (did.1 ∙ same c b actor) a.1, inr did.0)
      ]

  -- its rows
  pub reported : ((all : Bool) (rows : X) → kind all rows ≡ Refused Unavailable → ⊥) → (all : Bool) (rows copied : X) → answer ≡ kind all rows → copied ≡ rows
      → Reports old new actor asked kind (Ok copied)
  reported apart all rows copied is copies c b stood sound =
      let a = told c b stood sound in (
        a.0,
        elim a.1 [
          | inl lack ↦ absurd (apart all rows (sym is ∙ lack))
          | inr did ↦ (all, sym did ∙ is ∙ ap (kind all) (sym copies))
        ],
      )

  -- its refusal
  pub refused : (e : Refusal) → MayRefuse answer e → Reports old new actor asked kind (Err e)
  refused e may c b stood sound =
      let a = told c b stood sound in (
        a.0,
        elim may [
          | inl lacked ↦ inl lacked
          | inr is ↦ elim a.1 [
            | inl lack ↦ (let same : e ≡ Unavailable = cc in inl same)
            | inr did ↦ inr (sym did ∙ is)
          ]
        ],
      )

-- ---- the rows of a report

-- what was made of its answer
module _ (old new : Standing) (actor : Actor) (asked : Query (List ℕ) ℕ) where
  of_answer : (answer : Answer) → Answered old new actor (request.Query asked) answer → Reports old new actor (request.Query asked) Told (rows_in answer)
  of_answer (Told all rows) answered =
      reported old new actor (request.Query asked) Told (Told all rows) (query_stays asked) answered (λ all rows e. cc) all rows rows refl refl
  of_answer (Refused e) answered = refused old new actor (request.Query asked) Told (Refused e) (query_stays asked) answered e (inr refl)
  of_answer Done answered = refused old new actor (request.Query asked) Told Done (query_stays asked) answered Unavailable (inl refl)
  of_answer (Imported n) answered = refused old new actor (request.Query asked) Told (Imported n) (query_stays asked) answered Unavailable (inl refl)
  of_answer (Replaced n) answered = refused old new actor (request.Query asked) Told (Replaced n) (query_stays asked) answered Unavailable (inl refl)
  of_answer (RefusedRow n e) answered = refused old new actor (request.Query asked) Told (RefusedRow n e) (query_stays asked) answered Unavailable (inl refl)

  pub rows_reported : (answer : Answer) (r : Result ReportRows Refusal) → Answered old new actor (request.Query asked) answer → r ≡ rows_in answer → Reports old new actor (request.Query asked) Told r
  rows_reported answer r answered is = subst (Reports old new actor (request.Query asked) Told) (sym is) (of_answer answer answered)

-- what is told of a variant's name is told of another that is the same
pub report_same : (old new : Standing) (actor : Actor) (v w : List ℕ) (asked : Report (List ℕ) ℕ) (r : Result ReportRows Refusal) → w ≡ v → Reports old new actor (asks w asked) Told r → Reports old new actor (asks v asked) Told r
report_same old new actor v w asked r alike reports = subst (λ name. Reports old new actor (asks name asked) Told r) alike reports

-- the same of the names of two variants
pub difference_same : (old new : Standing) (actor : Actor) (v w from other : List ℕ) (r : Result ReportRows Refusal) → w ≡ v → other ≡ from
    → Reports old new actor (asks_difference w other) Told r → Reports old new actor (asks_difference v from) Told r
difference_same old new actor v w from other r alike same reports =
    subst (λ name. Reports old new actor (asks_difference v name) Told r) same (subst (λ name. Reports old new actor (asks_difference name other) Told r) alike reports)

module _ {X : Type 0} (old new : Standing) (actor : Actor) (asked : Request) (into : X → ReportRows) where
  -- rows of this kind
  pub of_kind : (rows : ReportRows) (x : X) → rows ≡ into x → Reports old new actor asked Told (Ok rows) → Reports old new actor asked (λ all x. Told all (into x)) (Ok x)
  of_kind rows x is reports c b stood sound =
      let a = reports c b stood sound in
      (a.0, (a.1.0, a.1.1 ∙ ap (Told a.1.0) is))

  -- rows of another kind
  pub of_no_kind : (rows : ReportRows) → Reports old new actor asked Told (Ok rows) → Reports old new actor asked (λ all x. Told all (into x)) (Err Unavailable)
  of_no_kind rows reports c b stood sound = ((reports c b stood sound).0, inl refl)
