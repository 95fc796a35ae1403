-- What is answered Done is a command; and what changes a register is that, an import that is new, or a replacement.
use Rattle.std.proofs.Common.{◌≡◌, ◌⊎◌, inl, inr, ℕ, Bool, true, false, true≢false, Option, Some, None, Result, Ok, Err, IfOk, refl, subst}
use Rattle.fr_base.specs.Alone.{is_done}
use Rattle.fr_base.specs.Book.{Book, Kept}
use Rattle.fr_base.specs.Cluster.{Cluster}
use Rattle.fr_base.specs.Checks.{check}
use Rattle.fr_base.specs.Queries.{found, reply}
use Rattle.fr_base.specs.Refusing.{◌or◌}
use Rattle.fr_base.specs.Sound.{IsSound}
use Rattle.fr_base.specs.Step.{Outcome, RefusedAt, act, deliver, add_node, add_supplier, set_key, change_rows, common, done, import, imported, knows, outcome, perform, replace, replaced, propose, try, step}
use Rattle.fr_base.specs.Tables.{get}
use Rattle.fr_base.specs.declared.actor.Actor.{Actor}
use Rattle.fr_base.specs.declared.answer.Answer.{Answer}
use Rattle.fr_base.specs.declared.answer.Answer.TheVariants.{Done, Imported, Replaced, Report as Told, Refused, RefusedRow}
use Rattle.fr_base.specs.declared.name.Name.{Name}
use Rattle.fr_base.specs.declared.params.Params.{Params}
use Rattle.fr_base.specs.declared.refusal.Refusal.{Refusal}
use Rattle.fr_base.specs.declared.refusal.Refusal.TheVariants.{NoVariant}
use Rattle.fr_base.specs.declared.request.Command.{Command}
use Rattle.fr_base.specs.declared.request.Command.TheVariants.{Common, AddSupplier, SetKey, AddNode, Rows}
use Rattle.fr_base.specs.declared.request.Request.{Request}
use Rattle.fr_base.specs.declared.request.Checked.{Checked}
use Rattle.fr_base.specs.declared.request.Checked.TheVariants as checked
use Rattle.fr_base.specs.declared.delivery.Delivery.{Delivery}
use Rattle.fr_base.specs.declared.delivery.Manner.{Manner}
use Rattle.fr_base.specs.declared.query.Query.{Query}
use Rattle.fr_base.proofs.SoundRefusing.{gives_bind, gives_bind_last, gives_each, gives_unless, gives_when}
use Rattle.fr_base.proofs.SoundTrials.{trial-leaves, proposal-leaves}
use Rattle.fr_office.specs.Deliveries.{AfterDelivery}
use Rattle.fr_office.specs.Answers.{AfterAct, WhereChanged}
use Rattle.fr_world.specs.Held.{Standing}
use Rattle.fr_base.specs.declared.delivery.Purpose.TheVariants as purpose
use Rattle.fr_base.specs.declared.delivery.Purpose.{Purpose}

-- whether the answer is that of an import, or of a replacement, that was carried out
abbrev is_imported : Answer → Bool
is_imported (Imported rows) = true
is_imported _ = false

abbrev is_replaced : Answer → Bool
is_replaced (Replaced rows) = true
is_replaced _ = false

-- the answer is neither that of a command nor of a replacement, or of an import
abbrev IsNoChange : Answer → Type 0
IsNoChange answer = (is_done answer ≡ false) × (is_replaced answer ≡ false)

abbrev IsNoImport : Answer → Type 0
IsNoImport answer = (is_done answer ≡ false) × (is_imported answer ≡ false)

module _ (p : Params) (b : Book) (i : Delivery) (label : Name) where
  imported-told : (count : ℕ) (r : Result Book RefusedAt) → IsNoChange (imported b i label count r).answer
  unfolding imported
  imported-told count (Ok d) = (refl, refl)
  imported-told count (Err fault) = (refl, refl)

  import-told : (kept : Option Kept) → IfOk (import p b i label kept) (λ o. IsNoChange o.answer)
  unfolding import
  import-told None =
      gives_each _ (get b.variants i.variant or NoVariant) _ (λ x _.
      gives_when _ _ _ _ (λ _.
      gives_when _ _ _ _ (λ _.
      gives_when _ _ _ _ (λ _. imported-told _ _))))
  import-told (Some one) = gives_unless _ _ _ _ (λ _. (refl, refl))

module _ (p : Params) (b : Book) (r : Delivery) (whole : Bool) where
  replaced-told : (count : ℕ) (made : Result Book RefusedAt) → IsNoImport (replaced b count made).answer
  unfolding replaced
  replaced-told count (Ok d) = (refl, refl)
  replaced-told count (Err fault) = (refl, refl)

  replace-told : IfOk (replace p b r whole) (λ o. IsNoImport o.answer)
  unfolding replace
  replace-told =
      gives_each _ (get b.variants r.variant or NoVariant) _ (λ x _.
      gives_when _ _ _ _ (λ _.
      gives_when _ _ _ _ (λ _. replaced-told _ _)))

-- a trial tells of rows
trial-told : (p : Params) (b : Book) (t : Delivery) (how : Manner) → IfOk (try p b t how) (λ o. IsNoChange o.answer)
unfolding try
trial-told p b t how =
    gives_each _ (get b.variants t.variant or NoVariant) _ (λ x _.
    gives_when _ _ _ _ (λ _.
    gives_when _ _ _ _ (λ _. (refl, refl))))

proposal-told : (p : Params) (b : Book) (d : Delivery) (replace : Bool) → IfOk (propose p b d replace) (λ o. IsNoChange o.answer)
unfolding propose
proposal-told p b d replace =
    gives_each _ (get b.variants d.variant or NoVariant) _ (λ x _.
    gives_when _ _ _ _ (λ _.
    gives_when _ _ _ _ (λ _. (refl, refl))))

module _ (p : Params) (actor : Actor) where
  reply-told : (b : Book) (query : Query Name ℕ) → IfOk (reply p b actor query) IsNoChange
  unfolding reply
  reply-told b query = gives_each _ (found p b actor query) _ (λ rows _. (refl, refl))

-- ---- what changes a register

-- whether the answer tells of a change
abbrev pub changes : Answer → Bool
changes Done = true
changes (Imported rows) = true
changes (Replaced rows) = true
changes _ = false

module _ (b : Book) where
  -- what tells of none leaves the book
  abbrev Quiet : Outcome → Type 0
  Quiet o = changes o.answer ≡ false → o.book ≡ b

  perform-quiet : (c : Cluster) (command : Command) → IfOk (perform c b command) Quiet
  unfolding perform done
  perform-quiet c (Common command) = gives_each _ (common b command) _ (λ after _ quiet. cc)
  perform-quiet c (AddSupplier s key) = gives_each _ (add_supplier c b s key) _ (λ after _ quiet. cc)
  perform-quiet c (SetKey s key) = gives_each _ (set_key c b s key) _ (λ after _ quiet. cc)
  perform-quiet c (AddNode s n) = gives_each _ (add_node b s n) _ (λ after _ quiet. cc)
  perform-quiet c (Rows rows) = gives_each _ (change_rows c.params b rows.supplier rows.variant rows.change) _ (λ after _ quiet. cc)

  imported-quiet : (i : Delivery) (label : Name) (count : ℕ) (r : Result Book RefusedAt) → Quiet (imported b i label count r)
  unfolding imported
  imported-quiet i label count (Ok d) quiet = cc
  imported-quiet i label count (Err fault) quiet = refl

  import-quiet : (p : Params) (i : Delivery) (label : Name) (kept : Option Kept) → IfOk (import p b i label kept) Quiet
  unfolding import
  import-quiet p i label None =
      gives_each _ (get b.variants i.variant or NoVariant) _ (λ x _.
      gives_when _ _ _ _ (λ _.
      gives_when _ _ _ _ (λ _.
      gives_when _ _ _ _ (λ _. imported-quiet i label _ _))))
  import-quiet p i label (Some one) = gives_unless _ _ _ _ (λ _ quiet. refl)

  replaced-quiet : (count : ℕ) (r : Result Book RefusedAt) → Quiet (replaced b count r)
  unfolding replaced
  replaced-quiet count (Ok d) quiet = cc
  replaced-quiet count (Err fault) quiet = refl

  replace-quiet : (p : Params) (r : Delivery) (whole : Bool) → IfOk (replace p b r whole) Quiet
  unfolding replace
  replace-quiet p r whole =
      gives_each _ (get b.variants r.variant or NoVariant) _ (λ x _.
      gives_when _ _ _ _ (λ _.
      gives_when _ _ _ _ (λ _. replaced-quiet _ _)))

  delivered-quiet : (p : Params) (d : Delivery) (how : Purpose Name) → IfOk (deliver p b d how) Quiet
  unfolding deliver
  delivered-quiet p d (purpose.Import label) = import-quiet p d label (get b.imports (d.supplier, label))
  delivered-quiet p d (purpose.Replacement whole) = replace-quiet p d whole
  delivered-quiet p d (purpose.Trial how) = gives_bind_last Quiet (λ (o : Outcome). o.book ≡ b) _ (trial-leaves (λ e. e ≡ b) b refl p d how) (λ o still quiet. still)
  delivered-quiet p d (purpose.Proposal replace) = gives_bind_last Quiet (λ (o : Outcome). o.book ≡ b) _ (proposal-leaves (λ e. e ≡ b) b refl p d replace) (λ o still quiet. still)

  act-quiet : (c : Cluster) (actor : Actor) (what : Checked) → IfOk (act c b actor what) Quiet
  unfolding act
  act-quiet c actor (checked.Command command) = perform-quiet c command
  act-quiet c actor (checked.Deliver d) = delivered-quiet c.params d d.how
  act-quiet c actor (checked.Query query) = gives_each _ (reply c.params b actor query) _ (λ rows _ quiet. refl)

  outcome-quiet : (r : Result Outcome Refusal) → IfOk r Quiet → Quiet (outcome b r)
  unfolding outcome
  outcome-quiet (Ok o) h = h
  outcome-quiet (Err e) h = λ quiet. refl

pub step-quiet : (c : Cluster) (b : Book) (actor : Actor) (request : Request) → changes (step c b actor request).answer ≡ false → (step c b actor request).book ≡ b
unfolding step
step-quiet c b actor request = outcome-quiet b _ (
    gives_unless _ _ (knows b actor) _ (λ _.
    gives_each _ (check c.params actor request) _ (λ what _. act-quiet b c actor what)))

-- an import that is kept already changes nothing
again-same : (p : Params) (b : Book) (i : Delivery) (label : Name) (one : Kept) → IfOk (import p b i label (Some one)) (λ o. o.book ≡ b)
unfolding import
again-same p b i label one = gives_unless _ _ _ _ (λ _. refl)

module _ (c : Cluster) (b : Book) (actor : Actor) where
  query-told : (query : Query Name ℕ) (after : Book) (answer : Answer) → act c b actor (checked.Query query) ≡ Ok (record { book = after; answer = answer }) → IsNoChange answer
  unfolding act
  query-told query after answer made =
      subst (λ r. IfOk r (λ (o : Outcome). IsNoChange o.answer)) made (gives_bind _ IsNoChange (reply c.params b actor query) _ (reply-told c.params actor b query) (λ a none. none))

  delivered_done : (stands : Standing) (d : Delivery) (how : Purpose Name) (P : Type 0) (after : Book) → deliver c.params b d how ≡ Ok (record { book = after; answer = Done }) → P
  unfolding deliver
  delivered_done stands d (purpose.Import label) P after made =
      absurd (true≢false (subst (λ r. IfOk r (λ (o : Outcome). IsNoChange o.answer)) made (import-told c.params b d label (get b.imports (d.supplier, label)))).0)
  delivered_done stands d (purpose.Replacement whole) P after made =
      absurd (true≢false (subst (λ r. IfOk r (λ (o : Outcome). IsNoImport o.answer)) made (replace-told c.params b d whole)).0)
  delivered_done stands d (purpose.Trial how) P after made =
      absurd (true≢false (subst (λ r. IfOk r (λ (o : Outcome). IsNoChange o.answer)) made (trial-told c.params b d how)).0)
  delivered_done stands d (purpose.Proposal replace) P after made =
      absurd (true≢false (subst (λ r. IfOk r (λ (o : Outcome). IsNoChange o.answer)) made (proposal-told c.params b d replace)).0)

  delivered_imported : (stands : Standing) (d : Delivery) (how : Purpose Name) (P : Type 0) (after : Book) (rows : ℕ) → stands c b → IsSound c b → deliver c.params b d how ≡ Ok (record { book = after; answer = Imported rows })
      → AfterDelivery stands d how (Ok (Imported rows)) P → (after ≡ b) ⊎ P
  unfolding deliver
  delivered_imported stands d (purpose.Import label) P after rows stood sound made h =
      elim (get b.imports (d.supplier, label)) as (λ found. get b.imports (d.supplier, label) ≡ found → import c.params b d label found ≡ Ok (record { book = after; answer = Imported rows }) → (after ≡ b) ⊎ P) [
        | None ↦ λ free made. inr (h c b stood sound free)
        | Some one ↦ λ kept made. inl (subst (λ r. IfOk r (λ (o : Outcome). o.book ≡ b)) made (again-same c.params b d label one))
      ] refl made
  delivered_imported stands d (purpose.Replacement whole) P after rows stood sound made h =
      absurd (true≢false (subst (λ r. IfOk r (λ (o : Outcome). IsNoImport o.answer)) made (replace-told c.params b d whole)).1)
  delivered_imported stands d (purpose.Trial how) P after rows stood sound made h =
      inl (subst (λ r. IfOk r (λ (o : Outcome). o.book ≡ b)) made (trial-leaves (λ e. e ≡ b) b refl c.params d how))
  delivered_imported stands d (purpose.Proposal replace) P after rows stood sound made h =
      inl (subst (λ r. IfOk r (λ (o : Outcome). o.book ≡ b)) made (proposal-leaves (λ e. e ≡ b) b refl c.params d replace))

  delivered_replaced : (stands : Standing) (d : Delivery) (how : Purpose Name) (P : Type 0) (after : Book) (rows : ℕ) → deliver c.params b d how ≡ Ok (record { book = after; answer = Replaced rows })
      → AfterDelivery stands d how (Ok (Replaced rows)) P → P
  unfolding deliver
  delivered_replaced stands d (purpose.Import label) P after rows made h =
      absurd (true≢false (subst (λ r. IfOk r (λ (o : Outcome). IsNoChange o.answer)) made (import-told c.params b d label (get b.imports (d.supplier, label)))).1)
  delivered_replaced stands d (purpose.Replacement whole) P after rows made h = h
  delivered_replaced stands d (purpose.Trial how) P after rows made h =
      absurd (true≢false (subst (λ r. IfOk r (λ (o : Outcome). IsNoChange o.answer)) made (trial-told c.params b d how)).1)
  delivered_replaced stands d (purpose.Proposal replace) P after rows made h =
      absurd (true≢false (subst (λ r. IfOk r (λ (o : Outcome). IsNoChange o.answer)) made (proposal-told c.params b d replace)).1)

  done_so : (stands : Standing) (valid : Checked) (P : Type 0) (after : Book) → act c b actor valid ≡ Ok (record { book = after; answer = Done }) → AfterAct stands valid (Ok Done) P → P
  unfolding act
  done_so stands (checked.Command command) P after made h = h
  done_so stands (checked.Deliver d) P after made h = delivered_done stands d d.how P after made
  done_so stands (checked.Query query) P after made h =
      absurd (true≢false (query-told query after Done made).0)

  imported_so : (stands : Standing) (valid : Checked) (P : Type 0) (after : Book) (rows : ℕ) → stands c b → IsSound c b → act c b actor valid ≡ Ok (record { book = after; answer = Imported rows })
      → AfterAct stands valid (Ok (Imported rows)) P → (after ≡ b) ⊎ P
  unfolding act
  imported_so stands (checked.Command command) P after rows stood sound made h = inr h
  imported_so stands (checked.Deliver d) P after rows stood sound made h = delivered_imported stands d d.how P after rows stood sound made h
  imported_so stands (checked.Query query) P after rows stood sound made h =
      inl (subst (λ r. IfOk r (λ (o : Outcome). o.book ≡ b)) made (gives_each _ (reply c.params b actor query) _ (λ shown _. refl)))

  replaced_so : (stands : Standing) (valid : Checked) (P : Type 0) (after : Book) (rows : ℕ) → act c b actor valid ≡ Ok (record { book = after; answer = Replaced rows }) → AfterAct stands valid (Ok (Replaced rows)) P → P
  unfolding act
  replaced_so stands (checked.Command command) P after rows made h = h
  replaced_so stands (checked.Deliver d) P after rows made h = delivered_replaced stands d d.how P after rows made h
  replaced_so stands (checked.Query query) P after rows made h = absurd (true≢false (query-told query after (Replaced rows) made).1)

  -- what holds after a command, a new import or a replacement holds after what tells of a change
  pub changed_so : (stands : Standing) (valid : Checked) (answer : Answer) (P : Type 0) (after : Book) → stands c b → IsSound c b → act c b actor valid ≡ Ok (record { book = after; answer = answer })
      → AfterAct stands valid (Ok answer) P → WhereChanged b after answer P
  changed_so stands valid Done P after stood sound made h = done_so stands valid P after made h
  changed_so stands valid (Imported rows) P after stood sound made h = imported_so stands valid P after rows stood sound made h
  changed_so stands valid (Replaced rows) P after stood sound made h = replaced_so stands valid P after rows made h
  changed_so stands valid (Told all rows) P after stood sound made h = tt
  changed_so stands valid (Refused e) P after stood sound made h = tt
  changed_so stands valid (RefusedRow line e) P after stood sound made h = tt
