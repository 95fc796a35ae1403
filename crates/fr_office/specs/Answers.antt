-- Answers: a request is one step of a sound book, or `Unavailable` where that may be, and the
-- records stand for the book after it. What a crash leaves of the records until the answer, and
-- that it leaves a change that was answered. What a call that does so comes to, in a record.
use Rattle.std.specs.Prelude.{◌≡◌, ◌⊎◌, Bool, true, List, [], ◌∷◌, Result, Ok, Err, IsTrue, MatchResult, OnOk, ⊤}
use Rattle.std.specs.List.{list_any}
use Rattle.fr_base.specs.Book.{Book}
use Rattle.fr_base.specs.Checks.{has_repetition}
use Rattle.fr_base.specs.Cluster.{Cluster, ClusterFile}
use Rattle.fr_base.specs.Names.{same_text}
use Rattle.fr_base.specs.Run.{IsRun}
use Rattle.fr_base.specs.Sound.{IsSound}
use Rattle.fr_base.specs.Step.{Outcome, act, knows, step}
use Rattle.fr_base.specs.declared.actor.Actor.{Actor}
use Rattle.fr_base.specs.declared.actor.Actor.TheVariants.{Integrator, Supplier}
use Rattle.fr_base.specs.declared.answer.Answer.{Answer}
use Rattle.fr_base.specs.declared.answer.Answer.TheVariants.{Done, Imported, Replaced, Refused}
use Rattle.fr_base.specs.declared.params.Params.{Params}
use Rattle.fr_base.specs.declared.refusal.Refusal.{Refusal}
use Rattle.fr_base.specs.declared.request.Ask.{Ask}
use Rattle.fr_base.specs.declared.request.Checked.{Checked}
use Rattle.fr_base.specs.declared.request.Checked.TheVariants as checked
use Rattle.fr_office.specs.Carried.{IsRefused}
use Rattle.fr_office.specs.Decided.{IsCheckedCommand, IsOwnCommand}
use Rattle.fr_office.specs.Deliveries.{AfterDelivery}
use Rattle.fr_world.specs.Held.{Leaving, Standing}
use Rattle.fr_world.specs.declared.records.Records.{Ghosts}

-- whether the sender is in what a cluster file says
abbrev pub is_known : ClusterFile → Actor → Bool
is_known f Integrator = true
is_known f (Supplier s) = list_any (λ t. same_text s t.name) f.suppliers

-- What is needed of a request that was checked. A command's values fit the cluster. A change of a
-- frame and a delivered file are of the sender. The repetition of a query, where
-- it has one, divides the count of cycles.
abbrev pub HasPassed : Params → Actor → Checked → Type 0
HasPassed p actor (checked.Command command) = IsCheckedCommand p command × IsOwnCommand actor command
HasPassed p actor (checked.Deliver d) = actor ≡ Supplier d.supplier
HasPassed p actor (checked.Query query) = IsTrue (has_repetition p query)

-- In a sound book that knows the sender, a request with checked values was carried out as the
-- definition says, and the records stand for the book after it; or nothing was done.
abbrev pub Acts : Standing → Standing → Result Answer Refusal → Actor → Checked → Type 0
Acts old new r actor valid = (c : Cluster) (b : Book) → old c b → IsSound c b → IsTrue (knows b actor) → MatchResult r
    (λ answer. (after : Book) × (act c b actor valid ≡ Ok (record { book = after; answer = answer })) × new c after)
    (λ e. IsRefused new c b e (act c b actor valid))

-- the answer to a request; a refusal is an answer too
abbrev pub answer_of : Result Answer Refusal → Answer
answer_of (Ok answer) = answer
answer_of (Err refusal) = Refused refusal

-- In a sound book the request was answered by one step, or it is Unavailable where it may be; and the records stand for the book after it.
abbrev pub Answers : Standing → Standing → Ask → Answer → Type 0
Answers old new ask answer = (c : Cluster) (b : Book) → old c b → IsSound c b → (last : Book) × new c last × IsRun c b (ask ∷ []) (answer ∷ []) last

-- This holds after a command, a new import or a replacement with checked values, if it was carried
-- out.
abbrev pub AfterAct : Standing → Checked → Result Answer Refusal → Type 0 → Type 0
AfterAct stands (checked.Command command) r P = OnOk r P
AfterAct stands (checked.Deliver d) r P = AfterDelivery stands d d.how r P
AfterAct stands (checked.Query query) r P = ⊤

-- This holds after a step from the first book to the second, if its answer tells of a change. An
-- import that was kept already has such an answer too, and changes nothing.
abbrev pub WhereChanged : Book → Book → Answer → Type 0 → Type 0
WhereChanged before after Done P = P
WhereChanged before after (Imported rows) P = (after ≡ before) ⊎ P
WhereChanged before after (Replaced rows) P = P
WhereChanged before after _ P = ⊤

-- This holds after a request to records of a sound book, if its answer tells of a change.
abbrev pub AfterChange : Standing → Ask → Answer → Type 0 → Type 0
AfterChange stands ask answer P = (c : Cluster) (b : Book) → stands c b → IsSound c b → WhereChanged b (step c b ask.actor ask.request).book answer P

-- After a request with checked values a crash leaves what it left before, or the book after the
-- request.
abbrev pub LeavesAct : Standing → Leaving → Leaving → Actor → Checked → Type 0
LeavesAct stands old new actor valid = (c : Cluster) (b : Book) (books : List Book) → stands c b → IsSound c b → IsTrue (knows b actor) → old c books
    → new c books ⊎ ((after : Outcome) × (act c b actor valid ≡ Ok after) × new c (after.book ∷ books))

-- After any request a crash leaves what it left before, or the book after the request.
abbrev pub LeavesStep : Standing → Leaving → Leaving → Ask → Type 0
LeavesStep stands old new ask = (c : Cluster) (b : Book) (books : List Book) → stands c b → IsSound c b → old c books
    → new c books ⊎ new c ((step c b ask.actor ask.request).book ∷ books)

-- A change that was answered is kept: a crash leaves the register after the step, and no other.
abbrev pub KeepsChange : Standing → Leaving → Ask → Answer → Type 0
KeepsChange stands new ask answer = (c : Cluster) (b : Book) → stands c b → IsSound c b
    → WhereChanged b (step c b ask.actor ask.request).book answer (new c ((step c b ask.actor ask.request).book ∷ []))

-- ---- calls on records

-- In a sound book that knows the sender, a call carried out a request with checked values, or did
-- nothing. The records were clean before if they are now. After a change that was carried out they
-- can be read and changed. A crash leaves what it left before, or the book after the request.
pub record CarriesAct {R : Type 0} (g : Ghosts R) (actor : Actor) (valid : Checked) (old new : R) (r : Result Answer Refusal) : Type 0 where
  pub falls : g.clean new → g.clean old
  pub serves : g.clean new → AfterAct (g.stands old) valid r (g.serves new)
  pub leaves : g.clean new → LeavesAct (g.stands old) (g.leaves old) (g.leaves new) actor valid
  pub acts : g.clean new → Acts (g.stands old) (g.stands new) r actor valid

-- A call answered a request to a sound book. The records were clean before if they are now. After a
-- change they can be read and changed. A crash leaves what it left before, or the book after the
-- request.
pub record AnswersAsk {R : Type 0} (g : Ghosts R) (ask : Ask) (old new : R) (answer : Answer) : Type 0 where
  pub falls : g.clean new → g.clean old
  pub serves : g.clean new → AfterChange (g.stands old) ask answer (g.serves new)
  pub leaves : g.clean new → LeavesStep (g.stands old) (g.leaves old) (g.leaves new) ask
  pub answers : g.clean new → Answers (g.stands old) (g.stands new) ask answer
