-- A step, and the same step in the register that holds one supplier alone.
use Rattle.std.proofs.Common.{◌≡◌, ℕ, Option, Some, None, Bool, true, false, true≢false, not, ◌&&◌, Result, Ok, Err, IfOk, refl, sym, ap, ◌∙◌, ◌⊎◌, inl, inr}
use Rattle.std.specs.Prelude.{⊤}
use Rattle.fr_base.specs.Refusing.{◌>>=◌, ◌>>◌, ◌or◌}
use Rattle.fr_base.specs.Tables.{get}
use Rattle.fr_base.specs.Names.{same_text}
use Rattle.fr_base.specs.Checks.{check}
use Rattle.fr_base.specs.Cluster.{Cluster}
use Rattle.fr_base.specs.Book.{Kept, Book}
use Rattle.fr_base.specs.Queries.{reply}
use Rattle.fr_base.specs.Step.{Outcome, knows, common, add_supplier, set_key, add_node, change_rows, done, perform, RefusedAt, imported, import, replaced, replace, act, deliver, outcome, step}
use Rattle.fr_base.specs.Sound.{IsSound}
use Rattle.fr_base.specs.Alone.{rows_of, is_done, is_unavailable, is_mine}
use Rattle.fr_base.specs.declared.name.Name.{Name}
use Rattle.fr_base.specs.declared.answer.Answer.{Answer}
use Rattle.fr_base.specs.declared.answer.Answer.TheVariants as answer
use Rattle.fr_base.specs.declared.params.Params.{Params}
use Rattle.fr_base.specs.declared.refusal.Refusal.{Refusal}
use Rattle.fr_base.specs.declared.refusal.Refusal.TheVariants.{NoVariant}
use Rattle.fr_base.specs.declared.actor.Actor.{Actor}
use Rattle.fr_base.specs.declared.actor.Actor.TheVariants.{Integrator, Supplier}
use Rattle.fr_base.specs.declared.request.Request.{Request}
use Rattle.fr_base.specs.declared.request.Command.TheVariants.{Common, AddSupplier, SetKey, AddNode, Rows}
use Rattle.fr_base.specs.declared.delivery.Delivery.{Delivery}
use Rattle.fr_base.specs.declared.request.Checked.{Checked}
use Rattle.fr_base.specs.declared.request.Checked.TheVariants as checked
use Rattle.fr_base.specs.declared.delivery.Purpose.{Purpose}
use Rattle.fr_base.specs.declared.delivery.Purpose.TheVariants as purpose
use Rattle.fr_base.proofs.SoundRefusing.{gives_bind, gives_bind_last, gives_each, gives_when, gives_unless}
use Rattle.fr_base.proofs.AloneRefusing.{map_ok}
use Rattle.fr_base.proofs.AloneChanges.{unless, unless_none}
use Rattle.fr_base.proofs.AloneCommands.{perform-other}
use Rattle.fr_base.proofs.AloneChecks.{asked_of, refused_beside, Says, check-says}
use Rattle.fr_base.proofs.AloneOutcomes.{seen, outcome-own, outcome-still}
use Rattle.fr_base.proofs.AloneImports.{import-other}
use Rattle.fr_base.proofs.AloneReplacements.{replace-other}
use Rattle.fr_base.proofs.SoundTrials.{trial-leaves, proposal-leaves}
use Rattle.fr_base.proofs.AloneDependence.{supplier-is, lines, lines-own}

-- ---- a request that was not done

-- whether an answer tells the actor that its request was carried out, or may have been
abbrev carried : Actor → Answer → Bool
carried Integrator a = is_done a
carried (Supplier s) a = not (is_unavailable a)

outcome-undone : (actor : Actor) (b : Book) (r : Result Outcome Refusal) → IfOk r (λ o. carried actor o.answer ≡ false → o.book ≡ b) → carried actor (outcome b r).answer ≡ false → (outcome b r).book ≡ b
unfolding outcome
outcome-undone actor b (Ok o) h undone = h undone
outcome-undone actor b (Err e) h undone = refl

done-carried : (actor : Actor) → carried actor answer.Done ≡ true
done-carried Integrator = refl
done-carried (Supplier s) = refl

module _ (p : Params) (b : Book) (i : Delivery) (label : Name) where
  imported-carried : (count : ℕ) (r : Result Book RefusedAt) → is_unavailable (imported b i label count r).answer ≡ false
  unfolding imported
  imported-carried count (Ok d) = refl
  imported-carried count (Err fault) = refl

  import-carried : (kept : Option Kept) → IfOk (import p b i label kept) (λ o. is_unavailable o.answer ≡ false)
  unfolding import
  import-carried None =
      gives_each _ (get b.variants i.variant or NoVariant) _ (λ x _.
      gives_when _ _ _ _ (λ _.
      gives_when _ _ _ _ (λ _.
      gives_when _ _ _ _ (λ _. imported-carried _ _))))
  import-carried (Some one) = gives_unless _ _ _ _ (λ _. refl)

replaced-carried : (b : Book) (count : ℕ) (r : Result Book RefusedAt) → is_unavailable (replaced b count r).answer ≡ false
unfolding replaced
replaced-carried b count (Ok d) = refl
replaced-carried b count (Err fault) = refl

replace-carried : (p : Params) (b : Book) (r : Delivery) (whole : Bool) → IfOk (replace p b r whole) (λ o. is_unavailable o.answer ≡ false)
unfolding replace
replace-carried p b r whole =
    gives_each _ (get b.variants r.variant or NoVariant) _ (λ x _.
    gives_when _ _ _ _ (λ _.
    gives_when _ _ _ _ (λ _. replaced-carried b _ _)))

-- an import or a replacement is always carried out, and a trial or a proposal changes nothing
delivered-undone : (p : Params) (b : Book) (d : Delivery) (how : Purpose Name) → IfOk (deliver p b d how) (λ o. is_unavailable o.answer ≡ true → o.book ≡ b)
unfolding deliver
delivered-undone p b d (purpose.Import label) =
    gives_bind_last _ (λ (o : Outcome). is_unavailable o.answer ≡ false) _ (import-carried p b d label (get b.imports (d.supplier, label))) (λ o available undone. absurd (true≢false (sym undone ∙ available)))
delivered-undone p b d (purpose.Replacement whole) =
    gives_bind_last _ (λ (o : Outcome). is_unavailable o.answer ≡ false) _ (replace-carried p b d whole) (λ o available undone. absurd (true≢false (sym undone ∙ available)))
delivered-undone p b d (purpose.Trial how) = gives_bind_last _ (λ (o : Outcome). o.book ≡ b) _ (trial-leaves (λ e. e ≡ b) b refl p d how) (λ o still undone. still)
delivered-undone p b d (purpose.Proposal replace) = gives_bind_last _ (λ (o : Outcome). o.book ≡ b) _ (proposal-leaves (λ e. e ≡ b) b refl p d replace) (λ o still undone. still)

not_available : (x : Bool) → not x ≡ false → x ≡ true
not_available true h = refl
not_available false h = cc

act-undone : (c : Cluster) (b : Book) (actor : Actor) (request : Request) (what : Checked) → Says actor request what → IfOk (act c b actor what) (λ o. carried actor o.answer ≡ false → o.book ≡ b)
unfolding act perform done
act-undone c b actor request (checked.Command (Common command)) says = gives_each _ (common b command) _ (λ after _ undone. absurd (true≢false (sym (done-carried actor) ∙ undone)))
act-undone c b actor request (checked.Command (AddSupplier s key)) says = gives_each _ (add_supplier c b s key) _ (λ after _ undone. absurd (true≢false (sym (done-carried actor) ∙ undone)))
act-undone c b actor request (checked.Command (SetKey s key)) says = gives_each _ (set_key c b s key) _ (λ after _ undone. absurd (true≢false (sym (done-carried actor) ∙ undone)))
act-undone c b actor request (checked.Command (AddNode s n)) says = gives_each _ (add_node b s n) _ (λ after _ undone. absurd (true≢false (sym (done-carried actor) ∙ undone)))
act-undone c b actor request (checked.Command (Rows rows)) says = gives_each _ (change_rows c.params b rows.supplier rows.variant rows.change) _ (λ after _ undone. absurd (true≢false (sym (done-carried actor) ∙ undone)))
act-undone c b Integrator request (checked.Deliver d) says = cc
act-undone c b (Supplier s) request (checked.Deliver d) says =
    gives_bind_last _ (λ (o : Outcome). is_unavailable o.answer ≡ true → o.book ≡ b) _ (delivered-undone c.params b d d.how) (λ o still undone. still (not_available _ undone))
act-undone c b actor request (checked.Query query) says = gives_each _ (reply c.params b actor query) _ (λ rows _ undone. refl)

-- what was not carried out has changed nothing
pub step-undone : (c : Cluster) (b : Book) (actor : Actor) (request : Request) → carried actor (step c b actor request).answer ≡ false → (step c b actor request).book ≡ b
unfolding step
step-undone c b actor request = outcome-undone actor b _ (
    gives_unless _ _ (knows b actor) _ (λ _.
    gives_bind _ _ (check c.params actor request) _ (check-says c.params actor request) (λ what says. act-undone c b actor request what says)))

-- ---- a request that is the supplier's, and any other

and_either : (x y : Bool) → x && y ≡ false → (x ≡ false) ⊎ ((x ≡ true) × (y ≡ false))
and_either true y h = inr (refl, h)
and_either false y h = inl refl

and_both : (x y : Bool) → x && y ≡ true → (x ≡ true) × (y ≡ true)
and_both true y h = (refl, h)
and_both false y h = cc

module _ (c : Cluster) (b : Book) (s : Name) where
  outcome-done : (t : Result ⊤ Refusal) (r u : Result Outcome Refusal) → map_ok (seen s) r ≡ (u >>= unless t) → is_done (outcome b r).answer ≡ true → outcome (rows_of s b) u ≡ seen s (outcome b r)
  unfolding outcome unless ◌>>=◌ ◌>>◌
  outcome-done t (Err e) u h is = cc
  outcome-done (Ok x) (Ok o) (Ok d) h is = cc
  outcome-done (Err e) (Ok o) (Ok d) h is = cc
  outcome-done t (Ok o) (Err e) h is = cc

  -- in a sound book a step that is the supplier's is the same alone, on the supplier's rows
  pub step-mine : IsSound c b → (actor : Actor) (request : Request) → is_mine s actor request (step c b actor request).answer ≡ true → step c (rows_of s b) actor request ≡ seen s (step c b actor request)
  unfolding step
  step-mine sound Integrator request h =
      let both = and_both _ _ h in
      outcome-done (refused_beside s b Integrator request) (lines c b Integrator request) (lines c (rows_of s b) Integrator request) (lines-own c b s Integrator request (λ _. sound) both.1) both.0
  step-mine sound (Supplier t) request h =
      sym (ap (outcome (rows_of s b)) (lines-own c b s (Supplier t) request (λ _. sound) (and_both _ _ h).0 ∙ unless_none (lines c (rows_of s b) (Supplier t) request)))
      ∙ outcome-own s b (lines c b (Supplier t) request)

  delivered-other : (p : Params) (d : Delivery) (how : Purpose Name) → same_text d.supplier s ≡ false → IfOk (deliver p b d how) (λ o. rows_of s o.book ≡ rows_of s b)
  unfolding deliver
  delivered-other p d (purpose.Import label) other = import-other p b s d label other (get b.imports (d.supplier, label))
  delivered-other p d (purpose.Replacement whole) other = replace-other p b s d whole other
  delivered-other p d (purpose.Trial how) other = trial-leaves (λ e. rows_of s e ≡ rows_of s b) b refl p d how
  delivered-other p d (purpose.Proposal replace) other = proposal-leaves (λ e. rows_of s e ≡ rows_of s b) b refl p d replace

  act-other : (actor : Actor) (request : Request) → asked_of s actor request ≡ false → (what : Checked) → Says actor request what → IfOk (act c b actor what) (λ o. rows_of s o.book ≡ rows_of s b)
  unfolding act
  act-other actor request other (checked.Command command) says = perform-other c b s command (says.names s ∙ other)
  act-other Integrator request other (checked.Deliver d) says = cc
  act-other (Supplier t) request other (checked.Deliver d) says = delivered-other c.params d d.how (ap (λ u. same_text u s) (sym (supplier-is says)) ∙ other)
  act-other actor request other (checked.Query query) says = gives_each _ (reply c.params b actor query) _ (λ rows _. refl)

  step-other : (actor : Actor) (request : Request) → asked_of s actor request ≡ false → rows_of s (step c b actor request).book ≡ rows_of s b
  unfolding step
  step-other actor request other = outcome-still s b _ (
      gives_unless _ _ (knows b actor) _ (λ _.
      gives_bind _ _ (check c.params actor request) _ (check-says c.params actor request) (λ what says. act-other actor request other what says)))

  -- and any other leaves the supplier's rows as they were
  pub step-not_mine : (actor : Actor) (request : Request) → is_mine s actor request (step c b actor request).answer ≡ false → rows_of s (step c b actor request).book ≡ rows_of s b
  step-not_mine (Supplier t) request h = elim (and_either _ _ h) [
    | inl other ↦ step-other (Supplier t) request other
    | inr own ↦ ap (rows_of s) (step-undone c b (Supplier t) request own.1)
  ]
  step-not_mine Integrator request h = elim (and_either _ _ h) [
    | inl undone ↦ ap (rows_of s) (step-undone c b Integrator request undone)
    | inr other ↦ step-other Integrator request other.1
  ]

pub step-alone : (c : Cluster) (b : Book) (s : Name) (actor : Actor) (request : Request) → IsSound c b → is_mine s actor request (step c b actor request).answer ≡ true →
    ((step c (rows_of s b) actor request).answer ≡ (step c b actor request).answer) × ((step c (rows_of s b) actor request).book ≡ rows_of s (step c b actor request).book)
unfolding seen
step-alone c b s actor request sound mine =
    let same = step-mine c b s sound actor request mine in
    (ap (λ (o : Outcome). o.answer) same, ap (λ (o : Outcome). o.book) same)
