-- Each request leaves a sound book sound.
use Rattle.std.proofs.Common.{Result, Ok, Err, IfOk, IsTrue, subst}
use Rattle.fr_base.specs.Tables.{get}
use Rattle.fr_base.specs.Checks.{check}
use Rattle.fr_base.specs.Cluster.{Cluster}
use Rattle.fr_base.specs.Book.{Book}
use Rattle.fr_base.specs.Queries.{reply}
use Rattle.fr_base.specs.Step.{Outcome, act, deliver, outcome, step, knows}
use Rattle.fr_base.specs.Sound.{IsSound}
use Rattle.fr_base.specs.declared.refusal.Refusal.{Refusal}
use Rattle.fr_base.specs.declared.actor.Actor.{Actor}
use Rattle.fr_base.specs.declared.request.Request.{Request}
use Rattle.fr_base.specs.declared.request.Checked.{Checked}
use Rattle.fr_base.specs.declared.request.Checked.TheVariants as checked
use Rattle.fr_base.specs.declared.delivery.Delivery.{Delivery}
use Rattle.fr_base.specs.declared.delivery.Purpose.{Purpose}
use Rattle.fr_base.specs.declared.delivery.Purpose.TheVariants as purpose
use Rattle.fr_base.specs.declared.name.Name.{Name}
use Rattle.fr_base.proofs.SoundRefusing.{gives_bind, gives_each, gives_unless}
use Rattle.fr_base.proofs.SoundChecks.{IsFormedDelivery, IsFormedPurpose, IsFormed, check-form}
use Rattle.fr_base.proofs.SoundCommands.{perform-sound}
use Rattle.fr_base.proofs.SoundImports.{import-sound}
use Rattle.fr_base.proofs.SoundReplacements.{replace-sound}
use Rattle.fr_base.proofs.SoundTrials.{trial-leaves, proposal-leaves}

module _ (c : Cluster) (b : Book) (sound : IsSound c b) where
  delivered-sound : (actor : Actor) → IsTrue (knows b actor) → (d : Delivery) → IsFormedDelivery actor d → (how : Purpose Name) → IsFormedPurpose how → IfOk (deliver c.params b d how) (λ o. IsSound c o.book)
  unfolding deliver
  delivered-sound actor known d h (purpose.Import label) labelled =
      import-sound c b sound d label labelled (subst (λ a. IsTrue (knows b a)) h.asks known) (get b.imports (d.supplier, label))
  delivered-sound actor known d h (purpose.Replacement whole) formed = replace-sound c b sound d whole
  delivered-sound actor known d h (purpose.Trial how) formed = trial-leaves (IsSound c) b sound c.params d how
  delivered-sound actor known d h (purpose.Proposal replace) formed = proposal-leaves (IsSound c) b sound c.params d replace

  act-sound : (actor : Actor) → IsTrue (knows b actor) → (what : Checked) → IsFormed c.params actor what → IfOk (act c b actor what) (λ o. IsSound c o.book)
  unfolding act
  act-sound actor known (checked.Command command) h = perform-sound c b sound command h
  act-sound actor known (checked.Deliver d) h = delivered-sound actor known d h d.how h.how
  act-sound actor known (checked.Query query) h = gives_each _ (reply c.params b actor query) _ (λ rows _. sound)

  outcome-sound : (r : Result Outcome Refusal) → IfOk r (λ o. IsSound c o.book) → IsSound c (outcome b r).book
  unfolding outcome
  outcome-sound (Ok o) h = h
  outcome-sound (Err e) h = sound

  pub step-sound : (actor : Actor) (request : Request) → IsSound c (step c b actor request).book
  unfolding step
  step-sound actor request = outcome-sound _ (
      gives_unless _ _ (knows b actor) _ (λ known.
      gives_bind _ _ (check c.params actor request) _ (check-form c.params actor request) (λ what h.
      act-sound actor known what h)))
