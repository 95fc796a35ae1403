-- What a request makes of the suppliers and their keys: they stay, or one has a new key, which was nobody's. So a supplier
-- that is there stays.
use Rattle.std.proofs.Common.{◌≡◌, ℕ, true, false, List, [], ◌∷◌, Option, Some, None, Result, Ok, Err, IfOk, IsTrue, refl, ap, subst, ◌∙◌, inl, inr}
use Rattle.std.specs.Prelude.{◌⊎◌}
use Rattle.fr_base.specs.Tables.{get, contains, insert}
use Rattle.fr_base.specs.Checks.{name, check}
use Rattle.fr_base.specs.Cluster.{Cluster}
use Rattle.fr_base.specs.Book.{Kept, Book}
use Rattle.fr_base.specs.ImportRows.{rows_of_body}
use Rattle.fr_base.specs.Queries.{reply}
use Rattle.fr_base.specs.Step.{Outcome, RefusedAt, knows, begun, common, has_key, add_supplier, set_key, add_node, change_rows, done, perform, imported, import, act, deliver, outcome, step}
use Rattle.fr_base.specs.Run.{IsRun}
use Rattle.fr_base.specs.Alone.{is_done}
use Rattle.fr_base.specs.declared.key.Key.{Key}
use Rattle.fr_base.specs.declared.name.Name.{Name}
use Rattle.fr_base.specs.declared.answer.Answer.{Answer}
use Rattle.fr_base.specs.declared.answer.Answer.TheVariants.{Done}
use Rattle.fr_base.specs.declared.params.Params.{Params}
use Rattle.fr_base.specs.declared.refusal.Refusal.{Refusal}
use Rattle.fr_base.specs.declared.actor.Actor.{Actor}
use Rattle.fr_base.specs.declared.actor.Actor.TheVariants.{Integrator, Supplier}
use Rattle.fr_base.specs.declared.request.Ask.{Ask}
use Rattle.fr_base.specs.declared.request.Request.{Request}
use Rattle.fr_base.specs.declared.request.Request.TheVariants as request
use Rattle.fr_base.specs.declared.request.Command.{Command}
use Rattle.fr_base.specs.declared.request.Command.TheVariants.{Common, AddSupplier, SetKey, AddNode, Rows}
use Rattle.fr_base.specs.declared.request.CommonCommand.{CommonCommand}
use Rattle.fr_base.specs.declared.request.CommonCommand.TheVariants.{OpenVariant, Release}
use Rattle.fr_base.specs.declared.delivery.Delivery.{Delivery}
use Rattle.fr_base.specs.declared.request.Checked.{Checked}
use Rattle.fr_base.specs.declared.request.Checked.TheVariants as checked
use Rattle.fr_base.specs.declared.delivery.Purpose.TheVariants as purpose
use Rattle.fr_base.specs.declared.delivery.Purpose.{Purpose}
use Rattle.fr_base.proofs.AloneChecks.{name-is}
use Rattle.fr_base.proofs.SoundTables.{contains-more}
use Rattle.fr_base.proofs.SoundRefusing.{gives_or, gives_bind, gives_bind_last, gives_each, gives_when, gives_unless}
use Rattle.fr_base.proofs.SoundImports.{Keeps, change_rows-keeps, rows-keep}
use Rattle.fr_base.proofs.SoundReplacements.{replace-keeps}
use Rattle.fr_base.proofs.SoundTrials.{trial-leaves, proposal-leaves}

-- whom a request names that is to have another key
abbrev pub keyed_by : Request → Option Name
keyed_by (request.SetKey s key) = Some s
keyed_by _ = None

-- the same of a request with checked values
abbrev keyed : Checked → Option Name
keyed (checked.Command (SetKey s k)) = Some s
keyed _ = None

-- A supplier has a key that was nobody's. It was not there before, or it is the one that was named, and the answer is Done.
pub record HasNewKey (c : Cluster) (b : Book) (named : Option Name) (o : Outcome) : Type 0 where
  pub supplier : Name
  pub key : Key
  pub whose : (contains b.suppliers supplier ≡ false) ⊎ ((named ≡ Some supplier) × (is_done o.answer ≡ true))
  pub free : has_key c b key ≡ false
  pub inserted : o.book.suppliers ≡ insert b.suppliers supplier key

-- the suppliers with their keys are as before, or one has a new key
abbrev pub Becomes : Cluster → Book → Option Name → Outcome → Type 0
Becomes c b named o = (o.book.suppliers ≡ b.suppliers) ⊎ HasNewKey c b named o

-- ---- what the check leaves of a SetKey

check-keyed : (p : Params) (actor : Actor) (r : Request) → IfOk (check p actor r) (λ what. keyed what ≡ keyed_by r)
unfolding check
check-keyed p actor (request.OpenVariant variant beginning) = gives_when _ _ _ _ (λ _. gives_each _ _ _ (λ v _. gives_each _ _ _ (λ from _. refl)))
check-keyed p actor (request.Release variant) = gives_when _ _ _ _ (λ _. gives_each _ _ _ (λ v _. refl))
check-keyed p actor (request.AddSupplier supplier text) = gives_when _ _ _ _ (λ _. gives_each _ _ _ (λ s _. gives_each _ _ _ (λ k _. refl)))
check-keyed p actor (request.SetKey supplier text) = gives_when _ _ _ _ (λ _. gives_bind _ _ (name supplier) _ (name-is supplier) (λ s is. gives_each _ _ _ (λ k _. ap Some is)))
check-keyed p actor (request.AddNode supplier node) = gives_when _ _ _ _ (λ _. gives_each _ _ _ (λ s _. gives_each _ _ _ (λ n _. refl)))
check-keyed p actor (request.Grant variant number text supplier node) = gives_when _ _ _ _ (λ _. gives_each _ _ _ (λ v _. gives_each _ _ _ (λ s _. gives_each _ _ _ (λ n _. gives_each _ _ _ (λ k _. gives_each _ _ _ (λ c _. refl))))))
check-keyed p actor (request.Revoke variant number text supplier) = gives_when _ _ _ _ (λ _. gives_each _ _ _ (λ v _. gives_each _ _ _ (λ s _. gives_each _ _ _ (λ k _. gives_each _ _ _ (λ c _. refl)))))
check-keyed p actor (request.AddFrame variant frame node) = gives_each _ _ _ (λ s _. gives_each _ _ _ (λ v _. gives_each _ _ _ (λ f _. gives_each _ _ _ (λ n _. refl))))
check-keyed p actor (request.DropFrame variant frame) = gives_each _ _ _ (λ s _. gives_each _ _ _ (λ v _. gives_each _ _ _ (λ f _. refl)))
check-keyed p actor (request.Place variant frame number text base repetition) = gives_each _ _ _ (λ s _. gives_each _ _ _ (λ v _. gives_each _ _ _ (λ f _. gives_each _ _ _ (λ q _. refl))))
check-keyed p actor (request.Unplace variant frame number text base repetition) = gives_each _ _ _ (λ s _. gives_each _ _ _ (λ v _. gives_each _ _ _ (λ f _. gives_each _ _ _ (λ q _. refl))))
check-keyed p actor (request.AddSignal variant frame named start length text) = gives_each _ _ _ (λ s _. gives_each _ _ _ (λ v _. gives_each _ _ _ (λ f _. gives_each _ _ _ (λ n _. gives_each _ _ _ (λ x _. refl)))))
check-keyed p actor (request.DropSignal variant frame named) = gives_each _ _ _ (λ s _. gives_each _ _ _ (λ v _. gives_each _ _ _ (λ f _. gives_each _ _ _ (λ n _. refl))))
check-keyed p actor (request.Deliver variant how body) = gives_each _ _ _ (λ s _. gives_each _ _ _ (λ v _. gives_each _ _ _ (λ h _. refl)))
check-keyed p actor (request.Query asked) = gives_when _ _ _ _ (λ _. gives_each _ _ _ (λ q _. gives_when _ _ _ _ (λ _. refl)))

-- ---- what a step makes of the suppliers

module _ (c : Cluster) (b : Book) where
  abbrev Stays : Book → Type 0
  Stays d = d.suppliers ≡ b.suppliers

  abbrev StaysWith : Outcome → Type 0
  StaysWith o = Stays o.book

  common-stays : (command : CommonCommand) → IfOk (common b command) Stays
  unfolding common
  common-stays (OpenVariant v beginning) =
      gives_each _ (begun b beginning) _ (λ x _.
      gives_when _ _ _ _ (λ _.
      gives_when _ _ _ _ (λ _. refl)))
  common-stays (Release v) =
      gives_or _ (get b.variants v) _ _ (λ x _.
      gives_when _ _ _ _ (λ _. refl))

  add_node-stays : (t n : Name) → IfOk (add_node b t n) Stays
  unfolding add_node
  add_node-stays t n =
      gives_unless _ _ _ _ (λ _.
      gives_when _ _ _ _ (λ _.
      gives_when _ _ _ _ (λ _. refl)))

  add_supplier-becomes : (t : Name) (k : Key) → IfOk (add_supplier c b t k) (λ d. Becomes c b None (record { book = d; answer = Done }))
  unfolding add_supplier
  add_supplier-becomes t k =
      gives_when _ _ _ _ (λ lacks.
      gives_when _ _ _ _ (λ free.
      gives_when _ _ _ _ (λ _. inr (record { supplier = t; key = k; whose = inl lacks; free = free; inserted = refl }))))

  set_key-becomes : (t : Name) (k : Key) → IfOk (set_key c b t k) (λ d. Becomes c b (Some t) (record { book = d; answer = Done }))
  unfolding set_key
  set_key-becomes t k =
      gives_unless _ _ _ _ (λ _.
      gives_when _ _ _ _ (λ free. inr (record { supplier = t; key = k; whose = inr (refl, refl); free = free; inserted = refl })))

  perform-becomes : (command : Command) → IfOk (perform c b command) (Becomes c b (keyed (checked.Command command)))
  unfolding perform done
  perform-becomes (Common command) = gives_bind _ _ (common b command) _ (common-stays command) (λ after h. inl h)
  perform-becomes (AddSupplier t k) = gives_bind _ _ (add_supplier c b t k) _ (add_supplier-becomes t k) (λ after h. h)
  perform-becomes (SetKey t k) = gives_bind _ _ (set_key c b t k) _ (set_key-becomes t k) (λ after h. h)
  perform-becomes (AddNode t n) = gives_bind _ _ (add_node b t n) _ (add_node-stays t n) (λ after h. inl h)
  perform-becomes (Rows rows) =
      gives_bind _ _ (change_rows c.params b rows.supplier rows.variant rows.change) _
      (change_rows-keeps c.params b rows.supplier rows.variant rows.change) (λ after keeps. inl keeps.suppliers)

  imported-stays : (i : Delivery) (label : Name) (count : ℕ) (r : Result Book RefusedAt) → IfOk r (Keeps b) → Stays (imported b i label count r).book
  unfolding imported
  imported-stays i label count (Ok d) keeps = keeps.suppliers
  imported-stays i label count (Err fault) keeps = refl

  import-stays : (p : Params) (i : Delivery) (label : Name) (kept : Option Kept) → IfOk (import p b i label kept) StaysWith
  unfolding import
  import-stays p i label None =
      gives_or _ (get b.variants i.variant) _ _ (λ x _.
      gives_when _ _ _ _ (λ _.
      gives_when _ _ _ _ (λ _.
      gives_when _ _ _ _ (λ _.
      imported-stays i label _ _ (rows-keep p i.supplier i.variant (rows_of_body p i.body) b)))))
  import-stays p i label (Some other) = gives_unless _ _ _ _ (λ _. refl)

  delivered-stays : (p : Params) (d : Delivery) (how : Purpose Name) → IfOk (deliver p b d how) StaysWith
  unfolding deliver
  delivered-stays p d (purpose.Import label) = import-stays p d label (get b.imports (d.supplier, label))
  delivered-stays p d (purpose.Replacement whole) = gives_bind_last _ (λ (o : Outcome). Keeps b o.book) _ (replace-keeps p b d whole) (λ o keeps. keeps.suppliers)
  delivered-stays p d (purpose.Trial how) = trial-leaves Stays b refl p d how
  delivered-stays p d (purpose.Proposal replace) = proposal-leaves Stays b refl p d replace

  act-becomes : (actor : Actor) (what : Checked) → IfOk (act c b actor what) (Becomes c b (keyed what))
  unfolding act
  act-becomes actor (checked.Command command) = perform-becomes command
  act-becomes actor (checked.Deliver d) = gives_bind_last _ StaysWith _ (delivered-stays c.params d d.how) (λ o stays. inl stays)
  act-becomes actor (checked.Query query) = gives_each _ (reply c.params b actor query) _ (λ rows _. inl refl)

  outcome-becomes : (named : Option Name) (r : Result Outcome Refusal) → IfOk r (Becomes c b named) → Becomes c b named (outcome b r)
  unfolding outcome
  outcome-becomes named (Ok o) h = h
  outcome-becomes named (Err e) h = inl refl

  -- what a request makes of the suppliers
  pub step-becomes : (actor : Actor) (request : Request) → Becomes c b (keyed_by request) (step c b actor request)
  unfolding step
  step-becomes actor request = outcome-becomes _ _ (
      gives_unless _ _ (knows b actor) _ (λ _.
      gives_bind _ _ (check c.params actor request) _ (check-keyed c.params actor request) (λ what alike.
      subst (λ named. IfOk (act c b actor what) (Becomes c b named)) alike (act-becomes actor what))))

-- ---- a supplier that is there stays

pub step-knows : (b : Book) (s : Name) → IsTrue (contains b.suppliers s) → (c : Cluster) (actor : Actor) (request : Request) → IsTrue (contains (step c b actor request).book.suppliers s)
step-knows b s there c actor request = elim (step-becomes c b actor request) [
  | inl stays ↦ ap (λ t. contains t s) stays ∙ there
  | inr new ↦ ap (λ t. contains t s) new.inserted ∙ contains-more b.suppliers new.supplier new.key s there
]

pub run-knows_supplier : (c : Cluster) (b last : Book) (asks : List Ask) (answers : List Answer) (s : Name) → IsTrue (contains b.suppliers s) → IsRun c b asks answers last → IsTrue (contains last.suppliers s)
run-knows_supplier c b last [] [] s there run = ap (λ (d : Book). contains d.suppliers s) run ∙ there
run-knows_supplier c b last [] (answer ∷ answers) s there run = absurd run
run-knows_supplier c b last (ask ∷ asks) [] s there run = absurd run
run-knows_supplier c b last (ask ∷ asks) (answer ∷ answers) s there (inl lacking) = run-knows_supplier c b last asks answers s there lacking.2
run-knows_supplier c b last (ask ∷ asks) (answer ∷ answers) s there (inr done) = run-knows_supplier c (step c b ask.actor ask.request).book last asks answers s (step-knows b s there c ask.actor ask.request) done.1

-- who is known stays known
pub run-knows : (c : Cluster) (b last : Book) (asks : List Ask) (answers : List Answer) (actor : Actor) → IsTrue (knows b actor) → IsRun c b asks answers last → IsTrue (knows last actor)
run-knows c b last asks answers Integrator known run = refl
run-knows c b last asks answers (Supplier s) known run = run-knows_supplier c b last asks answers s known run
