-- What a request comes to: who asks, its check, and what is made of it.
use Rattle.std.proofs.Common.{◌≡◌, ℕ, Bool, true, false, [], ◌∷◌, Result, Ok, Err, IfOk, refl, sym, ap, subst, ◌∙◌, inl, inr}
use Rattle.std.specs.Prelude.{IsTrue, MatchResult, is_ok, ⊤}
use Rattle.fr_base.specs.Refusing.{◌>>=◌, ◌>>◌, refuse◌when◌}
use Rattle.fr_base.specs.Checks.{check}
use Rattle.fr_base.specs.Cluster.{Cluster, ClusterFile}
use Rattle.fr_base.specs.Book.{Book, file_of}
use Rattle.fr_base.specs.Run.{IsRun}
use Rattle.fr_base.specs.Queries.{reply}
use Rattle.fr_base.specs.Step.{Outcome, act, knows, outcome, perform, step}
use Rattle.fr_base.specs.declared.actor.Actor.{Actor}
use Rattle.fr_base.specs.declared.actor.Actor.TheVariants.{Integrator, Supplier}
use Rattle.fr_base.specs.declared.answer.Answer.{Answer}
use Rattle.fr_base.specs.declared.answer.Answer.TheVariants.{Done, Refused}
use Rattle.fr_base.specs.declared.params.Params.{Params}
use Rattle.fr_base.specs.declared.refusal.Refusal.{Refusal}
use Rattle.fr_base.specs.declared.refusal.Refusal.TheVariants.{UnknownKey}
use Rattle.fr_base.specs.declared.request.Ask.{Ask}
use Rattle.fr_base.specs.declared.request.Command.{Command}
use Rattle.fr_base.specs.declared.delivery.Delivery.{Delivery}
use Rattle.fr_base.specs.declared.name.Name.{Name}
use Rattle.fr_base.specs.declared.query.Query.{Query}
use Rattle.fr_base.specs.declared.request.Request.{Request}
use Rattle.fr_base.specs.declared.request.Checked.{Checked}
use Rattle.fr_base.specs.declared.request.Checked.TheVariants as checked
use Rattle.fr_base.proofs.SoundChecks.{IsFormed, check-form}
use Rattle.fr_base.proofs.SuppliersLaws.{contains-listed}
use Rattle.fr_office.specs.Answers.{Acts, Answers, HasPassed, answer_of, is_known}
use Rattle.fr_office.specs.Carried.{Performs, Replies}
use Rattle.fr_world.specs.Held.{Standing}
use Rattle.fr_office.specs.Deliveries.{GivesDelivery}
use Rattle.fr_office.proofs.CheckedLaws.{command-checked, command-own}

-- who is in the book is in what a cluster file says of it
pub known-so : (c : Cluster) (b : Book) (actor : Actor) → knows b actor ≡ is_known (file_of c b) actor
known-so c b Integrator = refl
known-so c b (Supplier s) = sym (contains-listed b s)

-- what passed the check
pub passed : (p : Params) (actor : Actor) (request : Request) (valid : Checked) → check p actor request ≡ Ok valid → HasPassed p actor valid
passed p actor request (checked.Command command) said = (command-checked p actor request command said, command-own p actor request command said)
passed p actor request (checked.Deliver d) said = (subst (λ r. IfOk r (IsFormed p actor)) said (check-form p actor request)).asks
passed p actor request (checked.Query query) said = subst (λ r. IfOk r (IsFormed p actor)) said (check-form p actor request)

module _ (c : Cluster) (b : Book) (ask : Ask) where
  -- one step
  stepped : (o : Outcome) → step c b ask.actor ask.request ≡ o → IsRun c b (ask ∷ []) (o.answer ∷ []) o.book
  stepped o is = inr (ap (λ o. o.answer) (sym is), ap (λ o. o.book) (sym is))

  of_unknown : knows b ask.actor ≡ false → step c b ask.actor ask.request ≡ record { book = b; answer = Refused UnknownKey }
  unfolding step outcome ◌>>◌ refuse◌when◌
  of_unknown unknown = rw unknown refl

  module _ (known : knows b ask.actor ≡ true) where
    of_known : (said : Result Checked Refusal) → check c.params ask.actor ask.request ≡ said → step c b ask.actor ask.request ≡ outcome b (said >>= act c b ask.actor)
    unfolding step ◌>>◌ refuse◌when◌
    of_known said is = rw known (ap (λ r. outcome b (r >>= act c b ask.actor)) is)

module _ (now : Standing) (config : ClusterFile) (same : (c : Cluster) (b : Book) → now c b → config ≡ file_of c b) (ask : Ask) where
  pub knows-so : (t : Bool) → is_known config ask.actor ≡ t → (c : Cluster) (b : Book) → now c b → knows b ask.actor ≡ t
  knows-so t is c b stood = known-so c b ask.actor ∙ ap (λ k. is_known k ask.actor) (sym (same c b stood)) ∙ is

  -- who asks is not there
  pub unknown : is_known config ask.actor ≡ false → Answers now now ask (Refused UnknownKey)
  unknown is c b stood sound = (b, stood, stepped c b ask _ (of_unknown c b ask (knows-so false is c b stood)))

  module _ (is : is_known config ask.actor ≡ true) where
    checked_so : (said : Result Checked Refusal) → check config.cluster.params ask.actor ask.request ≡ said → (c : Cluster) (b : Book) → now c b →
        step c b ask.actor ask.request ≡ outcome b (said >>= act c b ask.actor)
    checked_so said checks c b stood =
        of_known c b ask (knows-so true is c b stood) said (ap (λ (k : ClusterFile). check k.cluster.params ask.actor ask.request) (sym (same c b stood)) ∙ checks)

    -- the request's own text refuses it
    pub unchecked : (e : Refusal) → check config.cluster.params ask.actor ask.request ≡ Err e → Answers now now ask (Refused e)
    unfolding outcome ◌>>=◌
    unchecked e checks c b stood sound = (b, stood, stepped c b ask _ (checked_so (Err e) checks c b stood))

    -- it was carried out, or nothing was done
    pub acted : (valid : Checked) → check config.cluster.params ask.actor ask.request ≡ Ok valid → (new : Standing) (r : Result Answer Refusal) → Acts now new r ask.actor valid → Answers now new ask (answer_of r)
    unfolding outcome ◌>>=◌
    acted valid checks new (Ok answer) acts c b stood sound =
        let a = acts c b stood sound (knows-so true is c b stood) in
        (a.0, a.2, stepped c b ask (record { book = a.0; answer = answer }) (checked_so (Ok valid) checks c b stood ∙ ap (outcome b) a.1))
    acted valid checks new (Err e) acts c b stood sound =
        let known = knows-so true is c b stood in
        let a = acts c b stood sound known in (
          b,
          a.0,
          elim a.1 [
            | inl lacked ↦ inl (record { known = known; checked = ap is_ok (ap (λ (k : ClusterFile). check k.cluster.params ask.actor ask.request) (sym (same c b stood)) ∙ checks) }, ap Refused lacked, refl)
            | inr refused ↦ stepped c b ask (record { book = b; answer = Refused e }) (checked_so (Ok valid) checks c b stood ∙ ap (outcome b) refused)
          ],
        )

    -- what it comes to, where it is carried out
    pub acts_so : (valid : Checked) → check config.cluster.params ask.actor ask.request ≡ Ok valid → (c : Cluster) (b : Book) → now c b →
        IsTrue (knows b ask.actor) × ((after : Outcome) → act c b ask.actor valid ≡ Ok after → step c b ask.actor ask.request ≡ after)
    unfolding outcome ◌>>=◌
    acts_so valid checks c b stood = (knows-so true is c b stood, λ after made. checked_so (Ok valid) checks c b stood ∙ ap (outcome b) made)

-- ---- what is made of it

module _ (old new : Standing) (actor : Actor) where
  -- a command that was carried out, or was not
  pub command_acts : (command : Command) (carried : Result ⊤ Refusal) (said : Result Answer Refusal) → MatchResult carried (λ _. said ≡ Ok Done) (λ e. said ≡ Err e) → Performs old new carried (λ c b. perform c b command)
      → Acts old new said actor (checked.Command command)
  unfolding act
  command_acts command (Ok x) said is does = subst (λ (r : Result Answer Refusal). Acts old new r actor (checked.Command command)) (sym is) (λ c b stood sound known. does c b stood sound)
  command_acts command (Err e) said is refused = subst (λ (r : Result Answer Refusal). Acts old new r actor (checked.Command command)) (sym is) (λ c b stood sound known. refused c b stood sound)

  -- a delivered file
  pub delivery_acts : (d : Delivery) (r : Result Answer Refusal) → actor ≡ Supplier d.supplier → GivesDelivery old new r d d.how → Acts old new r actor (checked.Deliver d)
  unfolding act
  delivery_acts d r asks gives c b stood sound known = gives c b stood sound (subst (λ a. IsTrue (knows b a)) asks known)

  -- a query
  pub query_acts : (query : Query Name ℕ) (r : Result Answer Refusal) → Replies (λ c b. reply c.params b actor query) old new r → Acts old new r actor (checked.Query query)
  unfolding act ◌>>=◌
  query_acts query (Ok answer) replies c b stood sound known =
      let t = replies c b stood sound in
      (b, ap (λ r. r >>= λ shown. Ok (record { book = b; answer = shown })) t.1, t.0)
  query_acts query (Err e) replies c b stood sound known =
      let t = replies c b stood sound in (
        t.0,
        elim t.1 [
          | inl lacked ↦ inl lacked
          | inr refused ↦ inr (ap (λ r. r >>= λ shown. Ok (record { book = b; answer = shown })) refused)
        ],
      )
