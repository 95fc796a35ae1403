-- What comes of a request that is refused before it acts, and what a query is answered.
use Rattle.std.proofs.Common.{◌≡◌, ◌∙◌, ℕ, Bool, false, Result, Ok, Err, IsTrue, refl, ap}
use Rattle.fr_base.specs.Refusing.{◌>>=◌, ◌>>◌, refuse◌when◌}
use Rattle.fr_base.specs.Checks.{is_integrator, check}
use Rattle.fr_base.specs.Cluster.{Cluster}
use Rattle.fr_base.specs.Book.{Book}
use Rattle.fr_base.specs.Queries.{found, reply}
use Rattle.fr_base.specs.Step.{Outcome, act, outcome, knows, step}
use Rattle.fr_base.specs.declared.name.Name.{Name}
use Rattle.fr_base.specs.declared.answer.Answer.{Answer}
use Rattle.fr_base.specs.declared.answer.Answer.TheVariants.{Report, Refused}
use Rattle.fr_base.specs.declared.answer.ReportRows.{ReportRows}
use Rattle.fr_base.specs.declared.refusal.Refusal.{Refusal}
use Rattle.fr_base.specs.declared.refusal.Refusal.TheVariants.{UnknownKey}
use Rattle.fr_base.specs.declared.actor.Actor.{Actor}
use Rattle.fr_base.specs.declared.query.Query.{Query}
use Rattle.fr_base.specs.declared.request.Request.{Request}
use Rattle.fr_base.specs.declared.request.Checked.{Checked}
use Rattle.fr_base.specs.declared.request.Checked.TheVariants as checked

-- the book stays, and this is answered
abbrev pub only_told : Book → Answer → Outcome
only_told b answer = record { book = b; answer = answer }

-- what is answered of rows that were asked for
abbrev pub told_of : Bool → Result ReportRows Refusal → Answer
told_of all (Ok rows) = Report all rows
told_of all (Err refusal) = Refused refusal

-- where the same comes of two requests, the same is answered
pub answers : (o p : Outcome) → o ≡ p → o.answer ≡ p.answer
answers o p same = ap (λ (o : Outcome). o.answer) same

module _ (c : Cluster) (b : Book) (actor : Actor) (request : Request) where
  abbrev stepped : Outcome
  stepped = step c b actor request

  pub unknown : knows b actor ≡ false → stepped ≡ only_told b (Refused UnknownKey)
  unfolding step outcome ◌>>=◌ ◌>>◌ refuse◌when◌
  unknown stranger = rw stranger refl

  pub unchecked : (e : Refusal) → IsTrue (knows b actor) → check c.params actor request ≡ Err e →
      stepped ≡ only_told b (Refused e)
  unfolding step outcome ◌>>=◌ ◌>>◌ refuse◌when◌
  unchecked e known checks = rw (known, checks) refl

  pub acts : (valid : Checked) → IsTrue (knows b actor) → check c.params actor request ≡ Ok valid →
      stepped ≡ outcome b (act c b actor valid)
  unfolding step ◌>>=◌ ◌>>◌ refuse◌when◌
  acts valid known checks = rw (known, checks) refl

  query-told : (query : Query Name ℕ) →
      outcome b (act c b actor (checked.Query query)) ≡ only_told b (told_of (is_integrator actor) (found c.params b actor query))
  unfolding act reply outcome ◌>>=◌
  query-told query = by (found c.params b actor query)
    where
      by : (rows : Result ReportRows Refusal) →
          outcome b ((rows >>= (λ rows. Ok (Report (is_integrator actor) rows))) >>= (λ told. Ok (only_told b told)))
          ≡ only_told b (told_of (is_integrator actor) rows)
      by (Ok rows) = refl
      by (Err e) = refl

  -- a query is answered with what is found
  pub query-step : (query : Query Name ℕ) → IsTrue (knows b actor) → check c.params actor request ≡ Ok (checked.Query query) →
      stepped ≡ only_told b (told_of (is_integrator actor) (found c.params b actor query))
  query-step query known checks = acts (checked.Query query) known checks ∙ query-told query
