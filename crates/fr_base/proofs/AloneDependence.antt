-- A request that is one supplier's, over all rows and over its own: the one dependence between suppliers.
use Rattle.std.proofs.Common.{◌≡◌, ℕ, Bool, true, false, cond, not, Result, Ok, Err, IfOk, refl, sym, ap, subst, ◌∙◌}
use Rattle.std.specs.Prelude.{⊤}
use Rattle.fr_base.specs.Refusing.{◌>>=◌, ◌>>◌, refuse◌when◌}
use Rattle.fr_base.specs.Checks.{is_integrator, check}
use Rattle.fr_base.specs.Tables.{get}
use Rattle.fr_base.specs.Cluster.{Cluster}
use Rattle.fr_base.specs.Book.{Book}
use Rattle.fr_base.specs.Queries.{reply}
use Rattle.fr_base.specs.Step.{Outcome, knows, common, add_supplier, set_key, add_node, change_rows, done, perform, import, replace, try, propose, act, deliver, outcome, step}
use Rattle.fr_base.specs.Sound.{IsSound}
use Rattle.fr_base.specs.Alone.{rows_of, concerns, is_another, holder_at, another_has, is_full, beside}
use Rattle.fr_base.specs.declared.name.Name.{Name}
use Rattle.fr_base.specs.declared.answer.Answer.{Answer}
use Rattle.fr_base.specs.declared.answer.Answer.TheVariants as answer
use Rattle.fr_base.specs.declared.refusal.Refusal.{Refusal}
use Rattle.fr_base.specs.declared.refusal.Refusal.TheVariants.{UnknownKey, Limit, Taken, KeyTaken}
use Rattle.fr_base.specs.declared.actor.Actor.{Actor}
use Rattle.fr_base.specs.declared.actor.Actor.TheVariants.{Integrator, Supplier}
use Rattle.fr_base.specs.declared.request.Request.{Request}
use Rattle.fr_base.specs.declared.request.Request.TheVariants as request
use Rattle.fr_base.specs.declared.query.Query.{Query}
use Rattle.fr_base.specs.declared.request.Command.{Command}
use Rattle.fr_base.specs.declared.request.Command.TheVariants.{Common, AddSupplier, SetKey, AddNode, Rows}
use Rattle.fr_base.specs.declared.delivery.Delivery.{Delivery}
use Rattle.fr_base.specs.declared.request.Checked.{Checked}
use Rattle.fr_base.specs.declared.request.Checked.TheVariants as checked
use Rattle.fr_base.specs.declared.delivery.Purpose.{Purpose}
use Rattle.fr_base.specs.declared.delivery.Purpose.TheVariants as purpose
use Rattle.fr_base.specs.declared.delivery.Manner.{Manner}
use Rattle.fr_base.proofs.SoundRows.{same_text-is}
use Rattle.fr_base.proofs.SoundRefusing.{gives_each, gives_unless}
use Rattle.fr_base.proofs.AloneRefusing.{map_ok, alike_when, alike_bind}
use Rattle.fr_base.proofs.AloneRows.{rows_of-supplier, rows_of-import}
use Rattle.fr_base.proofs.AloneImports.{import-own}
use Rattle.fr_base.proofs.AloneReplacements.{replace-own}
use Rattle.fr_base.proofs.AloneTrials.{try-own}
use Rattle.fr_base.proofs.AloneProposals.{propose-own}
use Rattle.fr_base.proofs.AloneChanges.{unless, unless_none}
use Rattle.fr_base.proofs.AloneJoining.{others_refuse}
use Rattle.fr_base.proofs.AloneKeys.{another_refuses}
use Rattle.fr_base.proofs.AloneCommands.{perform-own}
use Rattle.fr_base.proofs.AloneChecks.{asked_of, refused_beside, Says, check-says}
use Rattle.fr_base.proofs.AloneOutcomes.{seen, answer-seen}
use Rattle.fr_base.proofs.AloneQueries.{reply-own}

-- the supplier that is meant is the one that is told
pub supplier-is : {s t : Name} → Supplier s ≡ Supplier t → s ≡ t
supplier-is e = cc

-- the lines of a step
abbrev pub lines : Cluster → Book → Actor → Request → Result Outcome Refusal
lines c b actor request = (refuse UnknownKey when not (knows b actor)) >> (check c.params actor request >>= (λ what. act c b actor what))

module _ (c : Cluster) (b : Book) (s : Name) where
  abbrev Beside : Result ⊤ Refusal → Result Outcome Refusal → Result Outcome Refusal → Type 0
  Beside t r u = map_ok (seen s) r ≡ (u >>= unless t)

  same : (t : Result ⊤ Refusal) (e : Refusal) → Beside t (Err e) (Err e)
  unfolding ◌>>=◌
  same t e = refl

  shown-own : (r : Result Answer Refusal) → Beside (Ok tt) (r >>= (λ rows. Ok (record { book = b; answer = rows }))) (r >>= (λ rows. Ok (record { book = rows_of s b; answer = rows })))
  unfolding seen unless ◌>>=◌ ◌>>◌
  shown-own (Ok rows) = refl
  shown-own (Err e) = refl

  query-own : (query : Query Name ℕ) → Beside (Ok tt) (act c b (Supplier s) (checked.Query query)) (act c (rows_of s b) (Supplier s) (checked.Query query))
  unfolding act
  query-own query =
      shown-own (reply c.params b (Supplier s) query)
      ∙ ap (λ r. (r >>= (λ rows. Ok (record { book = rows_of s b; answer = rows }))) >>= unless (Ok tt)) (reply-own c.params s b query)

  import-alone : (i : Delivery) (label : Name) → s ≡ i.supplier → IsSound c b → Beside (Ok tt) (import c.params b i label (get b.imports (i.supplier, label))) (import c.params (rows_of s b) i label (get (rows_of s b).imports (i.supplier, label)))
  import-alone i label is sound =
      subst (λ u. map_ok (seen u) (import c.params b i label (get b.imports (i.supplier, label))) ≡ (import c.params (rows_of u b) i label (get (rows_of u b).imports (i.supplier, label)) >>= unless (Ok tt))) (sym is)
      (import-own i label c b sound (get b.imports (i.supplier, label))
      ∙ ap (import c.params (rows_of i.supplier b) i label) (sym (rows_of-import i.supplier b label))
      ∙ sym (unless_none _))

  replace-alone : (r : Delivery) (whole : Bool) → s ≡ r.supplier → IsSound c b → Beside (Ok tt) (replace c.params b r whole) (replace c.params (rows_of s b) r whole)
  replace-alone r whole is sound =
      subst (λ u. map_ok (seen u) (replace c.params b r whole) ≡ (replace c.params (rows_of u b) r whole >>= unless (Ok tt))) (sym is) (replace-own r whole c b sound ∙ sym (unless_none _))

  try-alone : (t : Delivery) (how : Manner) → s ≡ t.supplier → IsSound c b → Beside (Ok tt) (try c.params b t how) (try c.params (rows_of s b) t how)
  try-alone t how is sound =
      subst (λ u. map_ok (seen u) (try c.params b t how) ≡ (try c.params (rows_of u b) t how >>= unless (Ok tt))) (sym is) (try-own t how c b sound ∙ sym (unless_none _))

  propose-alone : (d : Delivery) (replace : Bool) → s ≡ d.supplier → Beside (Ok tt) (propose c.params b d replace) (propose c.params (rows_of s b) d replace)
  propose-alone d replace is =
      subst (λ u. map_ok (seen u) (propose c.params b d replace) ≡ (propose c.params (rows_of u b) d replace >>= unless (Ok tt))) (sym is) (propose-own d replace c b ∙ sym (unless_none _))

  deliver-alone : (d : Delivery) (how : Purpose Name) → s ≡ d.supplier → IsSound c b → Beside (Ok tt) (deliver c.params b d how) (deliver c.params (rows_of s b) d how)
  unfolding deliver
  deliver-alone d (purpose.Import label) = import-alone d label
  deliver-alone d (purpose.Replacement whole) = replace-alone d whole
  deliver-alone d (purpose.Trial how) = try-alone d how
  deliver-alone d (purpose.Proposal replace) = λ is sound. propose-alone d replace is

  act-own : (actor : Actor) (request : Request) → (is_integrator actor ≡ false → IsSound c b) → asked_of s actor request ≡ true → (what : Checked) → Says actor request what →
      Beside (refused_beside s b actor request) (act c b actor what) (act c (rows_of s b) actor what)
  unfolding act
  act-own actor request sound asked (checked.Command command) says =
      perform-own c b s command (λ frame. sound (says.frames frame)) (says.names s ∙ asked)
      ∙ ap (λ t. perform c (rows_of s b) command >>= unless t) (says.against s b)
  act-own Integrator request sound asked (checked.Deliver d) says = cc
  act-own (Supplier t) request sound asked (checked.Deliver d) says = deliver-alone d d.how (sym (same_text-is t s asked) ∙ supplier-is says) (sound refl)
  act-own Integrator request sound asked (checked.Query query) says = let none = says refl s in cc
  act-own (Supplier t) request sound asked (checked.Query query) says =
      subst (λ u. Beside (Ok tt) (act c b (Supplier u) (checked.Query query)) (act c (rows_of s b) (Supplier u) (checked.Query query))) (sym (same_text-is t s asked)) (query-own query)

  said : (actor : Actor) (request : Request) (what : Checked) → check c.params actor request ≡ Ok what → Says actor request what
  said actor request what passed = subst (λ r. IfOk r (Says actor request)) passed (check-says c.params actor request)

  knows-own : (actor : Actor) (request : Request) → asked_of s actor request ≡ true → knows (rows_of s b) actor ≡ knows b actor
  knows-own Integrator request asked = refl
  knows-own (Supplier t) request asked = subst (λ u. knows (rows_of s b) (Supplier u) ≡ knows b (Supplier u)) (sym (same_text-is t s asked)) (rows_of-supplier s b)

  -- a request that is the supplier's is refused as alone, and then by what is against it, and does the same to the supplier's rows
  pub lines-own : (actor : Actor) (request : Request) → (is_integrator actor ≡ false → IsSound c b) → asked_of s actor request ≡ true →
      map_ok (seen s) (lines c b actor request) ≡ (lines c (rows_of s b) actor request >>= unless (refused_beside s b actor request))
  lines-own actor request sound asked =
      let t : Result ⊤ Refusal = refused_beside s b actor request in
      alike_when (Beside t) (same t) UnknownKey (not (knows b actor)) _ (ap not (knows-own actor request asked)) _ _ (λ _.
      alike_bind (Beside t) (same t) (check c.params actor request) _ refl _ _ (λ what passed. act-own actor request sound asked what (said actor request what passed)))

  -- ---- the integrator's requests

  perform-done : (k : Cluster) (d : Book) (command : Command) → IfOk (perform k d command) (λ o. o.answer ≡ answer.Done)
  unfolding perform done
  perform-done k d (Common command) = gives_each _ (common d command) _ (λ after _. refl)
  perform-done k d (AddSupplier t key) = gives_each _ (add_supplier k d t key) _ (λ after _. refl)
  perform-done k d (SetKey t key) = gives_each _ (set_key k d t key) _ (λ after _. refl)
  perform-done k d (AddNode t n) = gives_each _ (add_node d t n) _ (λ after _. refl)
  perform-done k d (Rows rows) = gives_each _ (change_rows k.params d rows.supplier rows.variant rows.change) _ (λ after _. refl)

  act-answer : (request : Request) → concerns s request ≡ true → (d : Book) (what : Checked) → Says Integrator request what → IfOk (act c d Integrator what) (λ o. o.answer ≡ answer.Done)
  unfolding act
  act-answer request asked d (checked.Command command) says = perform-done c d command
  act-answer request asked d (checked.Deliver file) says = cc
  act-answer request asked d (checked.Query query) says = let none = says refl s in cc

  lines-answer : (request : Request) → concerns s request ≡ true → (d : Book) → IfOk (lines c d Integrator request) (λ o. o.answer ≡ answer.Done)
  lines-answer request asked d =
      gives_unless _ _ (knows d Integrator) _ (λ _.
      gives_each _ (check c.params Integrator request) _ (λ what passed. act-answer request asked d what (said Integrator request what passed)))

  refused-beside : (request : Request) (e : Refusal) → answer.Refused e ≡ beside s b request (answer.Refused e)
  refused-beside (request.Grant v number text t n) e = refl
  refused-beside (request.AddSupplier t key) e = refl
  refused-beside (request.SetKey t key) e = refl
  refused-beside request e = refl

  done-beside : (d : Book) (request : Request) (o : Outcome) → o.answer ≡ answer.Done → (outcome d (unless (refused_beside s b Integrator request) o)).answer ≡ beside s b request answer.Done
  unfolding outcome unless others_refuse another_refuses ◌>>◌ refuse◌when◌
  done-beside d (request.Grant v number text t n) o is = grant (is_another s (holder_at b v number text))
    where
      grant : (another : Bool) → (outcome d ((refuse Taken when another) >> Ok o)).answer ≡ cond another (answer.Refused Taken) answer.Done
      grant true = refl
      grant false = is
  done-beside d (request.AddSupplier t key) o is = joined (another_has s b key) (is_full b)
    where
      joined : (another full : Bool) → (outcome d (((refuse KeyTaken when another) >> (refuse Limit when full)) >> Ok o)).answer ≡ cond another (answer.Refused KeyTaken) (cond full (answer.Refused Limit) answer.Done)
      joined true full = refl
      joined false true = refl
      joined false false = is
  done-beside d (request.SetKey t key) o is = keyed (another_has s b key)
    where
      keyed : (another : Bool) → (outcome d ((refuse KeyTaken when another) >> Ok o)).answer ≡ cond another (answer.Refused KeyTaken) answer.Done
      keyed true = refl
      keyed false = is
  done-beside d request o is = is

  answer-beside : (d : Book) (request : Request) (u : Result Outcome Refusal) → IfOk u (λ o. o.answer ≡ answer.Done) → (outcome d (u >>= unless (refused_beside s b Integrator request))).answer ≡ beside s b request (outcome d u).answer
  unfolding outcome ◌>>=◌
  answer-beside d request (Ok o) h = done-beside d request o h ∙ sym (ap (beside s b request) h)
  answer-beside d request (Err e) h = refused-beside request e

  -- an integrator's command that is common or names the supplier is answered as alone, unless another's rows refuse it
  pub step-beside : (request : Request) → concerns s request ≡ true → (step c b Integrator request).answer ≡ beside s b request (step c (rows_of s b) Integrator request).answer
  unfolding step
  step-beside request asked =
      answer-seen s b (rows_of s b) (lines c b Integrator request)
      ∙ ap (λ r. (outcome (rows_of s b) r).answer) (lines-own Integrator request (λ h. cc) asked)
      ∙ answer-beside (rows_of s b) request (lines c (rows_of s b) Integrator request) (lines-answer request asked (rows_of s b))
