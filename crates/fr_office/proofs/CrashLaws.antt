-- What a crash leaves of a request that is under way.
use Rattle.std.proofs.Common.{◌≡◌, ◌⊎◌, inl, inr, List, ◌∷◌, Result, Ok, IsTrue, ap, subst}
use Rattle.fr_base.specs.Book.{Book}
use Rattle.fr_base.specs.Cluster.{Cluster}
use Rattle.fr_base.specs.Refusing.{◌>>=◌}
use Rattle.fr_base.specs.Step.{act, perform, done, knows}
use Rattle.fr_base.specs.declared.actor.Actor.{Actor}
use Rattle.fr_base.specs.declared.actor.Actor.TheVariants.{Supplier}
use Rattle.fr_base.specs.declared.answer.Answer.TheVariants.{Done}
use Rattle.fr_base.specs.declared.refusal.Refusal.{Refusal}
use Rattle.fr_base.specs.declared.request.Command.{Command}
use Rattle.fr_base.specs.declared.request.Checked.TheVariants as checked
use Rattle.fr_base.specs.declared.delivery.Delivery.{Delivery}
use Rattle.fr_office.specs.Answers.{LeavesAct}
use Rattle.fr_office.specs.Carried.{Does, LeavesDone, MayLeave}
use Rattle.fr_office.specs.Deliveries.{LeavesDelivery}
use Rattle.fr_world.specs.Held.{Leaving, LeavesNoMore, Standing}

-- where records may be left for a book more, seen as records that stand for it
abbrev pub AddsTo : List Book → Leaving → Leaving → Standing
AddsTo books old new c after = old c books → new c books ⊎ new c (after ∷ books)

-- what was only read
pub may_stay : (stands : Standing) (old new : Leaving) (does : Cluster → Book → Result Book Refusal) → LeavesNoMore old new → MayLeave stands old new does
may_stay stands old new does same c b books stood sound left = inl (same c books left)

-- what was read, and then carried out
pub may_do : (stands : Standing) (old mid new : Leaving) (does : Cluster → Book → Result Book Refusal) → LeavesNoMore old mid
    → ((books : List Book) → Does stands (AddsTo books mid new) (Ok tt) does) → MayLeave stands old new does
may_do stands old mid new does same did c b books stood sound left =
    let d = did books c b stood sound in elim (d.2 (same c books left)) [
      | inl stays ↦ inl stays
      | inr more ↦ inr (d.0, d.1, more)
    ]

-- a command's outcome
pub may_perform : (stands : Standing) (old new : Leaving) (does : Cluster → Book → Result Book Refusal) → MayLeave stands old new does → LeavesDone stands old new (λ c b. done (does c b))
unfolding done ◌>>=◌
may_perform stands old new does may c b books stood sound left = elim (may c b books stood sound left) [
  | inl same ↦ inl same
  | inr made ↦ inr (record { book = made.0; answer = Done }, ap (λ r. r >>= λ after. Ok (record { book = after; answer = Done })) made.1, made.2)
]

module _ (stands : Standing) (old new : Leaving) (actor : Actor) where
  pub act_command : (command : Command) → LeavesDone stands old new (λ c b. perform c b command) → LeavesAct stands old new actor (checked.Command command)
  unfolding act
  act_command command may c b books stood sound known left = may c b books stood sound left

  pub act_deliver : (d : Delivery) → actor ≡ Supplier d.supplier → LeavesDelivery stands old new d d.how → LeavesAct stands old new actor (checked.Deliver d)
  unfolding act
  act_deliver d asks may c b books stood sound known left = may c b books stood sound (subst (λ a. IsTrue (knows b a)) asks known) left
