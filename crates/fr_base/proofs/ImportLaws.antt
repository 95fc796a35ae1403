-- An import acts once.
use Rattle.std.proofs.Common.{◌≡◌, ℕ, true, false, ◌&&◌, cond, List, [], ◌∷◌, Option, Some, None, Result, Ok, Err, IfOk, IsTrue, refl, sym, ap, ◌∙◌, inl, inr}
use Rattle.std.specs.Ordering.{eq_by_cmp}
use Rattle.std.proofs.lemmas.Bool.{cases_Bool, and_parts}
use Rattle.fr_base.specs.Refusing.{◌>>=◌, ◌>>◌, refuse◌when◌}
use Rattle.fr_base.specs.Tables.{get, contains}
use Rattle.fr_base.specs.Keys.{owned}
use Rattle.fr_base.specs.Names.{is_name, same_text}
use Rattle.fr_base.specs.Checks.{asking, name, purpose, check}
use Rattle.fr_base.specs.Cluster.{Cluster}
use Rattle.fr_base.specs.Book.{Kept, Book}
use Rattle.fr_base.specs.ImportRows.{rows_of_body}
use Rattle.fr_base.specs.Queries.{reply}
use Rattle.fr_base.specs.Step.{Outcome, RefusedAt, knows, begun, common, add_supplier, set_key, add_node, change_rows, done, perform, imported, import, act, deliver, outcome, step}
use Rattle.fr_base.specs.Run.{IsRun}
use Rattle.fr_base.specs.Laws.{WasImported}
use Rattle.fr_base.specs.declared.key.Key.{Key}
use Rattle.fr_base.specs.declared.name.Name.{Name}
use Rattle.fr_base.specs.declared.answer.Answer.{Answer}
use Rattle.fr_base.specs.declared.answer.Answer.TheVariants as answer
use Rattle.fr_base.specs.declared.params.Params.{Params}
use Rattle.fr_base.specs.declared.refusal.Refusal.{Refusal}
use Rattle.fr_base.specs.declared.refusal.Refusal.TheVariants.{BadName, LabelUsed}
use Rattle.fr_base.specs.declared.actor.Actor.{Actor}
use Rattle.fr_base.specs.declared.actor.Actor.TheVariants.{Supplier}
use Rattle.fr_base.specs.declared.request.Ask.{Ask}
use Rattle.fr_base.specs.declared.request.Request.{Request}
use Rattle.fr_base.specs.declared.request.Request.TheVariants as request
use Rattle.fr_base.specs.declared.request.Command.{Command}
use Rattle.fr_base.specs.declared.request.Command.TheVariants.{Common, AddSupplier, SetKey, AddNode, Rows}
use Rattle.fr_base.specs.declared.request.CommonCommand.{CommonCommand}
use Rattle.fr_base.specs.declared.request.CommonCommand.TheVariants.{OpenVariant, Release}
use Rattle.fr_base.specs.declared.delivery.Delivery.{Delivery}
use Rattle.fr_base.specs.declared.request.Checked.{Checked}
use Rattle.fr_base.specs.declared.request.Checked.TheVariants as checked
use Rattle.fr_base.specs.declared.delivery.Purpose.TheVariants as purpose
use Rattle.fr_base.specs.declared.delivery.Purpose.{Purpose}
use Rattle.fr_base.proofs.TableLaws.{equal, get-insert}
use Rattle.fr_base.proofs.SoundTables.{same_key}
use Rattle.fr_base.proofs.SoundRows.{same_text-is}
use Rattle.fr_base.proofs.AloneCells.{same_text-itself}
use Rattle.fr_base.proofs.SoundRefusing.{gives_or, gives_bind, gives_bind_last, gives_each, gives_when, gives_unless}
use Rattle.fr_base.proofs.KnownSteps.{step-knows, run-knows_supplier}
use Rattle.fr_base.proofs.SoundImports.{Keeps, change_rows-keeps, rows-keep}
use Rattle.fr_base.proofs.SoundReplacements.{replace-keeps}
use Rattle.fr_base.proofs.SoundTrials.{trial-leaves, proposal-leaves}

rows-are : {m n : ℕ} → answer.Imported m ≡ answer.Imported n → m ≡ n
rows-are e = cc

-- ---- a kept import stays

module _ (b : Book) (k : Name × Name) (one : Kept) (there : get b.imports k ≡ Some one) where
  abbrev Has : Book → Type 0
  Has d = get d.imports k ≡ Some one

  common-has : (command : CommonCommand) → IfOk (common b command) Has
  unfolding common
  common-has (OpenVariant v beginning) =
      gives_each _ (begun b beginning) _ (λ x _.
      gives_when _ _ _ _ (λ _.
      gives_when _ _ _ _ (λ _. there)))
  common-has (Release v) =
      gives_or _ (get b.variants v) _ _ (λ x _.
      gives_when _ _ _ _ (λ _. there))

  add_supplier-has : (c : Cluster) (s : Name) (key : Key) → IfOk (add_supplier c b s key) Has
  unfolding add_supplier
  add_supplier-has c s key =
      gives_when _ _ _ _ (λ _.
      gives_when _ _ _ _ (λ _.
      gives_when _ _ _ _ (λ _. there)))

  set_key-has : (c : Cluster) (s : Name) (key : Key) → IfOk (set_key c b s key) Has
  unfolding set_key
  set_key-has c s key =
      gives_unless _ _ _ _ (λ _.
      gives_when _ _ _ _ (λ _. there))

  add_node-has : (s n : Name) → IfOk (add_node b s n) Has
  unfolding add_node
  add_node-has s n =
      gives_unless _ _ _ _ (λ _.
      gives_when _ _ _ _ (λ _.
      gives_when _ _ _ _ (λ _. there)))

  keeps-has : (d : Book) → Keeps b d → Has d
  keeps-has d keeps = ap (λ t. get t k) keeps.imports ∙ there

  perform-has : (c : Cluster) (command : Command) → IfOk (perform c b command) (λ o. Has o.book)
  unfolding perform done
  perform-has c (Common command) = gives_bind _ _ (common b command) _ (common-has command) (λ after h. h)
  perform-has c (AddSupplier s key) = gives_bind _ _ (add_supplier c b s key) _ (add_supplier-has c s key) (λ after h. h)
  perform-has c (SetKey s key) = gives_bind _ _ (set_key c b s key) _ (set_key-has c s key) (λ after h. h)
  perform-has c (AddNode s n) = gives_bind _ _ (add_node b s n) _ (add_node-has s n) (λ after h. h)
  perform-has c (Rows rows) = gives_bind _ _ (change_rows c.params b rows.supplier rows.variant rows.change) _ (change_rows-keeps c.params b rows.supplier rows.variant rows.change) (λ after keeps. keeps-has after keeps)

  imported-has : (i : Delivery) (label : Name) → get b.imports (i.supplier, label) ≡ None → (count : ℕ) (r : Result Book RefusedAt) → IfOk r (Keeps b) → Has (imported b i label count r).book
  unfolding imported
  imported-has i label free count (Ok d) keeps =
      get-insert d.imports (i.supplier, label) _ k ∙ elim (cases_Bool (eq_by_cmp owned.compare k (i.supplier, label))) [
        | inl tie ↦ let none : Some one ≡ None = sym there ∙ ap (get b.imports) (owned.exact k (i.supplier, label) (equal _ tie)) ∙ free in cc
        | inr apart ↦ ap (λ t. cond t (Some (record { variant = i.variant; body = i.body; rows = count })) (get d.imports k)) apart ∙ keeps-has d keeps
      ]
  imported-has i label free count (Err fault) keeps = there

  import-has : (p : Params) (i : Delivery) (label : Name) (kept : Option Kept) → get b.imports (i.supplier, label) ≡ kept → IfOk (import p b i label kept) (λ o. Has o.book)
  unfolding import
  import-has p i label None free =
      gives_or _ (get b.variants i.variant) _ _ (λ x _.
      gives_when _ _ _ _ (λ _.
      gives_when _ _ _ _ (λ _.
      gives_when _ _ _ _ (λ _.
      imported-has i label free _ _ (rows-keep p i.supplier i.variant (rows_of_body p i.body) b)))))
  import-has p i label (Some other) found = gives_unless _ _ _ _ (λ _. there)

  delivered-has : (p : Params) (d : Delivery) (how : Purpose Name) → IfOk (deliver p b d how) (λ o. Has o.book)
  unfolding deliver
  delivered-has p d (purpose.Import label) = import-has p d label (get b.imports (d.supplier, label)) refl
  delivered-has p d (purpose.Replacement whole) = gives_bind_last _ (λ (o : Outcome). Keeps b o.book) _ (replace-keeps p b d whole) (λ o keeps. keeps-has o.book keeps)
  delivered-has p d (purpose.Trial how) = trial-leaves Has b there p d how
  delivered-has p d (purpose.Proposal replace) = proposal-leaves Has b there p d replace

  act-has : (c : Cluster) (actor : Actor) (what : Checked) → IfOk (act c b actor what) (λ o. Has o.book)
  unfolding act
  act-has c actor (checked.Command command) = perform-has c command
  act-has c actor (checked.Deliver d) = delivered-has c.params d d.how
  act-has c actor (checked.Query query) = gives_each _ (reply c.params b actor query) _ (λ rows _. there)

  outcome-has : (r : Result Outcome Refusal) → IfOk r (λ o. Has o.book) → Has (outcome b r).book
  unfolding outcome
  outcome-has (Ok o) h = h
  outcome-has (Err e) h = there

  pub step-has : (c : Cluster) (actor : Actor) (request : Request) → Has (step c b actor request).book
  unfolding step
  step-has c actor request = outcome-has _ (
      gives_unless _ _ (knows b actor) _ (λ _.
      gives_each _ (check c.params actor request) _ (λ what _. act-has c actor what)))

pub run-has : (c : Cluster) (b last : Book) (asks : List Ask) (answers : List Answer) (k : Name × Name) (one : Kept) → get b.imports k ≡ Some one → IsRun c b asks answers last → get last.imports k ≡ Some one
run-has c b last [] [] k one there run = ap (λ (d : Book). get d.imports k) run ∙ there
run-has c b last [] (answer ∷ answers) k one there run = absurd run
run-has c b last (ask ∷ asks) [] k one there run = absurd run
run-has c b last (ask ∷ asks) (answer ∷ answers) k one there (inl lacking) = run-has c b last asks answers k one there lacking.2
run-has c b last (ask ∷ asks) (answer ∷ answers) k one there (inr done) = run-has c (step c b ask.actor ask.request).book last asks answers k one (step-has b k one there c ask.actor ask.request) done.1

-- ---- the step of an import

module _ (c : Cluster) (s : Name) (variant label body : List ℕ) where
  abbrev it : Delivery
  it = record { supplier = s; variant = variant; how = purpose.Import label; body = body }

  -- the supplier is known, and the names are names
  abbrev IsAsked : Book → Type 0
  IsAsked b = (contains b.suppliers s ≡ true) × (is_name variant ≡ true) × (is_name label ≡ true)

  step-import : (b : Book) → IsAsked b → step c b (Supplier s) (request.Deliver variant (purpose.Import label) body) ≡ outcome b (import c.params b it label (get b.imports (s, label)))
  unfolding step act deliver check purpose asking name ◌>>=◌ ◌>>◌ refuse◌when◌
  step-import b asked = rw (asked.0, asked.1, asked.2) refl

  was_asked : (b : Book) (rows : ℕ) → (step c b (Supplier s) (request.Deliver variant (purpose.Import label) body)).answer ≡ answer.Imported rows → IsAsked b
  unfolding step act deliver check purpose asking name outcome ◌>>=◌ ◌>>◌ refuse◌when◌
  was_asked b rows told = elim (cases_Bool (contains b.suppliers s)) [
    | inl known ↦ elim (cases_Bool (is_name variant)) [
      | inl named ↦ elim (cases_Bool (is_name label)) [
        | inl labelled ↦ (known, named, labelled)
        | inr unlabelled ↦ let none = rw (known, named, unlabelled) at told in cc
      ]
      | inr unnamed ↦ let none = rw (known, unnamed) at told in cc
    ]
    | inr unknown ↦ let none = rw unknown at told in cc
  ]

  abbrev kept : ℕ → Kept
  kept rows = record { variant = variant; body = body; rows = rows }

  module _ (b : Book) (rows : ℕ) where
    -- where it was carried out, it is kept
    abbrev Told : Outcome → Type 0
    Told o = o.answer ≡ answer.Imported rows → get o.book.imports (s, label) ≡ Some (kept rows)

    told-outcome : (r : Result Outcome Refusal) → IfOk r Told → Told (outcome b r)
    unfolding outcome
    told-outcome (Ok o) h = h
    told-outcome (Err e) h = λ told. cc

    told-imported : (count : ℕ) (r : Result Book RefusedAt) → Told (imported b it label count r)
    unfolding imported
    told-imported count (Ok d) told =
        get-insert d.imports (s, label) (kept count) (s, label) ∙ ap (λ t. cond t (Some (kept count)) (get d.imports (s, label))) (same_key owned (s, label)) ∙ ap (λ n. Some (kept n)) (rows-are told)
    told-imported count (Err fault) told = cc

    told-import : (there : Option Kept) → get b.imports (s, label) ≡ there → IfOk (import c.params b it label there) Told
    unfolding import
    told-import None free =
        gives_or _ (get b.variants variant) _ _ (λ x _.
        gives_when _ _ _ _ (λ _.
        gives_when _ _ _ _ (λ _.
        gives_when _ _ _ _ (λ _. told-imported _ _))))
    told-import (Some one) found =
        gives_unless _ _ (same_text one.variant variant && same_text one.body body) _ (λ is told.
        let both = and_parts _ _ is in
        found ∙ ap Some (λ i. record { variant = same_text-is one.variant variant both.0 i; body = same_text-is one.body body both.1 i; rows = rows-are told i }))

  pub carried_out : (b : Book) (rows : ℕ) → (step c b (Supplier s) (request.Deliver variant (purpose.Import label) body)).answer ≡ answer.Imported rows →
      get (step c b (Supplier s) (request.Deliver variant (purpose.Import label) body)).book.imports (s, label) ≡ Some (kept rows)
  carried_out b rows told =
      let same = step-import b (was_asked b rows told) in
      ap (λ (o : Outcome). get o.book.imports (s, label)) same
      ∙ told-outcome b rows _ (told-import b rows (get b.imports (s, label)) refl) (sym (ap (λ (o : Outcome). o.answer) same) ∙ told)

  -- ever after it is kept, and the supplier is known
  module _ (rows : ℕ) (last : Book) (was : WasImported c s variant label body rows last) where
    pub still-kept : get last.imports (s, label) ≡ Some (kept rows)
    still-kept = run-has c _ last was.asks was.answers (s, label) (kept rows) (carried_out was.begin rows was.imported) was.run

    still-asked : IsAsked last
    still-asked =
        let asked = was_asked was.begin rows was.imported in
        (run-knows_supplier c _ last was.asks was.answers s (step-knows was.begin s asked.0 c (Supplier s) (request.Deliver variant (purpose.Import label) body)) was.run, asked.1, asked.2)

    pub acts_once : step c last (Supplier s) (request.Deliver variant (purpose.Import label) body) ≡ record { book = last; answer = answer.Imported rows }
    unfolding import outcome ◌>>◌ refuse◌when◌
    acts_once = step-import last still-asked ∙ ap (λ o. outcome last (import c.params last it label o)) still-kept ∙ rw (same_text-itself variant, same_text-itself body) refl

module _ (c : Cluster) (s : Name) (variant label body : List ℕ) (rows : ℕ) (last : Book) (was : WasImported c s variant label body rows last) where
  pub stays_used : (other file : List ℕ) → IsTrue (is_name other) → same_text variant other && same_text body file ≡ false →
      step c last (Supplier s) (request.Deliver other (purpose.Import label) file) ≡ record { book = last; answer = answer.Refused LabelUsed }
  unfolding import outcome ◌>>◌ refuse◌when◌
  stays_used other file named differs =
      let asked = still-asked c s variant label body rows last was in
      step-import c s other label file last (asked.0, named, asked.2)
      ∙ ap (λ o. outcome last (import c.params last (it c s other label file) label o)) (still-kept c s variant label body rows last was)
      ∙ rw differs refl

  pub bad_variant : (other file : List ℕ) → is_name other ≡ false → step c last (Supplier s) (request.Deliver other (purpose.Import label) file) ≡ record { book = last; answer = answer.Refused BadName }
  unfolding step check asking name outcome ◌>>=◌ ◌>>◌ refuse◌when◌
  bad_variant other file unnamed = let asked = still-asked c s variant label body rows last was in rw (asked.0, unnamed) refl
