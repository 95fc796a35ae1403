-- A refusal changes nothing.
use Rattle.std.proofs.Common.{Bool, ◌≡◌, ℕ, true, Option, Some, None, Result, Ok, Err, IfOk, refl}
use Rattle.fr_base.specs.Tables.{get}
use Rattle.fr_base.specs.Checks.{check}
use Rattle.fr_base.specs.Cluster.{Cluster}
use Rattle.fr_base.specs.Book.{Kept, Book}
use Rattle.fr_base.specs.Queries.{reply}
use Rattle.fr_base.specs.Step.{Outcome, RefusedAt, knows, common, add_supplier, set_key, add_node, change_rows, done, perform, imported, import, replaced, replace, act, deliver, outcome, step}
use Rattle.fr_base.specs.Alone.{is_refused}
use Rattle.fr_base.specs.declared.params.Params.{Params}
use Rattle.fr_base.specs.declared.refusal.Refusal.{Refusal}
use Rattle.fr_base.specs.declared.actor.Actor.{Actor}
use Rattle.fr_base.specs.declared.request.Request.{Request}
use Rattle.fr_base.specs.declared.request.Command.{Command}
use Rattle.fr_base.specs.declared.request.Command.TheVariants.{Common, AddSupplier, SetKey, AddNode, Rows}
use Rattle.fr_base.specs.declared.delivery.Delivery.{Delivery}
use Rattle.fr_base.specs.declared.request.Checked.{Checked}
use Rattle.fr_base.specs.declared.request.Checked.TheVariants as checked
use Rattle.fr_base.specs.declared.delivery.Purpose.{Purpose}
use Rattle.fr_base.specs.declared.delivery.Purpose.TheVariants as purpose
use Rattle.fr_base.specs.declared.name.Name.{Name}
use Rattle.fr_base.proofs.SoundRefusing.{gives_or, gives_each, gives_when, gives_unless, gives_bind_last}
use Rattle.fr_base.proofs.SoundTrials.{trial-leaves, proposal-leaves}

module _ (b : Book) where
  -- a refusal leaves the book
  abbrev Unchanged : Outcome → Type 0
  Unchanged o = is_refused o.answer ≡ true → o.book ≡ b

  perform-unchanged : (c : Cluster) (command : Command) → IfOk (perform c b command) Unchanged
  unfolding perform done
  perform-unchanged c (Common command) = gives_each _ (common b command) _ (λ after _ refused. cc)
  perform-unchanged c (AddSupplier s key) = gives_each _ (add_supplier c b s key) _ (λ after _ refused. cc)
  perform-unchanged c (SetKey s key) = gives_each _ (set_key c b s key) _ (λ after _ refused. cc)
  perform-unchanged c (AddNode s n) = gives_each _ (add_node b s n) _ (λ after _ refused. cc)
  perform-unchanged c (Rows rows) = gives_each _ (change_rows c.params b rows.supplier rows.variant rows.change) _ (λ after _ refused. cc)

  imported-unchanged : (i : Delivery) (label : Name) (count : ℕ) (r : Result Book RefusedAt) → Unchanged (imported b i label count r)
  unfolding imported
  imported-unchanged i label count (Ok d) refused = cc
  imported-unchanged i label count (Err fault) refused = refl

  import-unchanged : (p : Params) (i : Delivery) (label : Name) (kept : Option Kept) → IfOk (import p b i label kept) Unchanged
  unfolding import
  import-unchanged p i label None =
      gives_or _ (get b.variants i.variant) _ _ (λ x _.
      gives_when _ _ _ _ (λ _.
      gives_when _ _ _ _ (λ _.
      gives_when _ _ _ _ (λ _. imported-unchanged i label _ _))))
  import-unchanged p i label (Some one) = gives_unless _ _ _ _ (λ _ refused. refl)

  replaced-unchanged : (count : ℕ) (r : Result Book RefusedAt) → Unchanged (replaced b count r)
  unfolding replaced
  replaced-unchanged count (Ok d) refused = cc
  replaced-unchanged count (Err fault) refused = refl

  replace-unchanged : (p : Params) (r : Delivery) (whole : Bool) → IfOk (replace p b r whole) Unchanged
  unfolding replace
  replace-unchanged p r whole =
      gives_or _ (get b.variants r.variant) _ _ (λ x _.
      gives_when _ _ _ _ (λ _.
      gives_when _ _ _ _ (λ _. replaced-unchanged _ _)))

  delivered-unchanged : (p : Params) (d : Delivery) (how : Purpose Name) → IfOk (deliver p b d how) Unchanged
  unfolding deliver
  delivered-unchanged p d (purpose.Import label) = import-unchanged p d label (get b.imports (d.supplier, label))
  delivered-unchanged p d (purpose.Replacement whole) = replace-unchanged p d whole
  delivered-unchanged p d (purpose.Trial how) = gives_bind_last Unchanged (λ (o : Outcome). o.book ≡ b) _ (trial-leaves (λ e. e ≡ b) b refl p d how) (λ o still refused. still)
  delivered-unchanged p d (purpose.Proposal replace) = gives_bind_last Unchanged (λ (o : Outcome). o.book ≡ b) _ (proposal-leaves (λ e. e ≡ b) b refl p d replace) (λ o still refused. still)

  act-unchanged : (c : Cluster) (actor : Actor) (what : Checked) → IfOk (act c b actor what) Unchanged
  unfolding act
  act-unchanged c actor (checked.Command command) = perform-unchanged c command
  act-unchanged c actor (checked.Deliver d) = delivered-unchanged c.params d d.how
  act-unchanged c actor (checked.Query query) = gives_each _ (reply c.params b actor query) _ (λ rows _ refused. refl)

  outcome-unchanged : (r : Result Outcome Refusal) → IfOk r Unchanged → Unchanged (outcome b r)
  unfolding outcome
  outcome-unchanged (Ok o) h = h
  outcome-unchanged (Err e) h = λ refused. refl

pub step-unchanged : (c : Cluster) (b : Book) (actor : Actor) (request : Request) → is_refused (step c b actor request).answer ≡ true → (step c b actor request).book ≡ b
unfolding step
step-unchanged c b actor request = outcome-unchanged b _ (
    gives_unless _ _ (knows b actor) _ (λ _.
    gives_each _ (check c.params actor request) _ (λ what _. act-unchanged b c actor what)))
