-- A released variant stays as it is, whatever is asked.
use Rattle.std.proofs.Common.{Bool, ◌≡◌, ℕ, true, false, cond, List, [], ◌∷◌, Option, Some, None, is_some, Result, Ok, Err, IfOk, IsTrue, refl, sym, ap, ◌∙◌, inl, inr, true≢false}
use Rattle.std.specs.Ordering.{eq_by_cmp}
use Rattle.std.proofs.lemmas.Bool.{cases_Bool}
use Rattle.fr_base.specs.Refusing.{◌>>=◌, ◌>>◌, ◌or◌, refuse◌when◌}
use Rattle.fr_base.specs.Tables.{get, contains}
use Rattle.fr_base.specs.Keys.{names}
use Rattle.fr_base.specs.Checks.{is_integrator, check}
use Rattle.fr_base.specs.Cluster.{Cluster}
use Rattle.fr_base.specs.Names.{same_text}
use Rattle.fr_base.specs.Book.{Frame, Variant, Kept, Book}
use Rattle.fr_base.specs.ImportRows.{rows_of_body}
use Rattle.fr_base.specs.Queries.{shown, found, reply}
use Rattle.fr_base.specs.Differences.{differences}
use Rattle.fr_base.specs.declared.answer.ReportRows.TheVariants as rows
use Rattle.fr_base.specs.Step.{Outcome, knows, with_variant, begun, common, add_supplier, set_key, add_node, own_rows, shared_by, admits, change_rows, done, perform, RefusedAt, frame_at, with_frame, act_row, act_rows, imported, import, replace_row, replace_rows, replace, act, deliver, outcome, step}
use Rattle.fr_base.specs.Run.{IsRun}
use Rattle.fr_base.specs.declared.key.Key.{Key}
use Rattle.fr_base.specs.declared.name.Name.{Name}
use Rattle.fr_base.specs.declared.params.Params.{Params}
use Rattle.fr_base.specs.declared.answer.Answer.{Answer}
use Rattle.fr_base.specs.declared.answer.Answer.TheVariants as answer
use Rattle.fr_base.specs.declared.refusal.Refusal.{Refusal}
use Rattle.fr_base.specs.declared.refusal.Refusal.TheVariants.{NoVariant}
use Rattle.fr_base.specs.declared.actor.Actor.{Actor}
use Rattle.fr_base.specs.declared.request.Ask.{Ask}
use Rattle.fr_base.specs.declared.request.Request.{Request}
use Rattle.fr_base.specs.declared.query.Query.{Query}
use Rattle.fr_base.specs.declared.query.Query.TheVariants.{Variant as OfVariant, Difference}
use Rattle.fr_base.specs.declared.report.Report.{Report}
use Rattle.fr_base.specs.declared.request.Command.{Command}
use Rattle.fr_base.specs.declared.request.Command.TheVariants.{Common, AddSupplier, SetKey, AddNode, Rows}
use Rattle.fr_base.specs.declared.request.CommonCommand.{CommonCommand}
use Rattle.fr_base.specs.declared.request.CommonCommand.TheVariants.{OpenVariant, Release}
use Rattle.fr_base.specs.declared.request.Change.{Change}
use Rattle.fr_base.specs.declared.request.Change.TheVariants as change
use Rattle.fr_base.specs.declared.request.FrameChange.TheVariants.{Add, Place, AddSignal}
use Rattle.fr_base.specs.declared.delivery.Delivery.{Delivery}
use Rattle.fr_base.specs.declared.import.Row.{Row}
use Rattle.fr_base.specs.declared.import.Row.TheVariants as row
use Rattle.fr_base.specs.declared.import.RowRead.{RowRead}
use Rattle.fr_base.specs.declared.request.Checked.{Checked}
use Rattle.fr_base.specs.declared.request.Checked.TheVariants as checked
use Rattle.fr_base.specs.declared.delivery.Purpose.{Purpose}
use Rattle.fr_base.specs.declared.delivery.Purpose.TheVariants as purpose
use Rattle.fr_base.proofs.TableLaws.{equal, get-insert}
use Rattle.fr_base.proofs.SoundTables.{same_some}
use Rattle.fr_base.proofs.SoundRefusing.{gives_or, gives_each, gives_then, gives_bind, gives_when, gives_unless}
use Rattle.fr_base.proofs.SoundImports.{at_line-gives}
use Rattle.fr_base.proofs.SoundReplacements.{replaced-gives}
use Rattle.fr_base.proofs.SoundTrials.{trial-leaves, proposal-leaves}
use Rattle.fr_base.proofs.KnownSteps.{run-knows}

-- the variant stands
abbrev Stays : Name → Variant → Book → Type 0
Stays v x d = get d.variants v ≡ Some x

module _ (b : Book) (v : Name) (x : Variant) (there : get b.variants v ≡ Some x) (frozen : x.released ≡ true) where
  -- after another variant was put in
  stays-with : (w : Name) (y : Variant) → (v ≡ w → ⊥) → Stays v x (with_variant b w y)
  stays-with w y other =
      get-insert b.variants w y v ∙ elim (cases_Bool (eq_by_cmp names.compare v w)) [
        | inl tie ↦ absurd (other (names.exact v w (equal _ tie)))
        | inr apart ↦ ap (λ t. cond t (Some y) (get b.variants v)) apart ∙ there
      ]

  -- a variant that is not released is another
  open-other : (w : Name) (y : Variant) → get b.variants w ≡ Some y → y.released ≡ false → v ≡ w → ⊥
  open-other w y found open_yet same =
      true≢false (sym frozen ∙ ap (λ (z : Variant). z.released) (same_some x y (sym there ∙ ap (get b.variants) same ∙ found)) ∙ open_yet)

  common-stays : (command : CommonCommand) → IfOk (common b command) (Stays v x)
  unfolding common
  common-stays (OpenVariant w beginning) =
      gives_each _ (begun b beginning) _ (λ y _.
      gives_when _ _ (contains b.variants w) _ (λ free.
      gives_when _ _ _ _ (λ _.
      stays-with w y (λ same. true≢false (sym (ap is_some there) ∙ ap (contains b.variants) same ∙ free)))))
  common-stays (Release w) =
      gives_or _ (get b.variants w) _ _ (λ y found.
      gives_when _ _ y.released _ (λ open_yet. stays-with w _ (open-other w y found open_yet)))

  add_supplier-stays : (c : Cluster) (s : Name) (k : Key) → IfOk (add_supplier c b s k) (Stays v x)
  unfolding add_supplier
  add_supplier-stays c s k =
      gives_when _ _ _ _ (λ _.
      gives_when _ _ _ _ (λ _.
      gives_when _ _ _ _ (λ _. there)))

  set_key-stays : (c : Cluster) (s : Name) (k : Key) → IfOk (set_key c b s k) (Stays v x)
  unfolding set_key
  set_key-stays c s k =
      gives_unless _ _ _ _ (λ _.
      gives_when _ _ _ _ (λ _. there))

  add_node-stays : (s n : Name) → IfOk (add_node b s n) (Stays v x)
  unfolding add_node
  add_node-stays s n =
      gives_unless _ _ _ _ (λ _.
      gives_when _ _ _ _ (λ _.
      gives_when _ _ _ _ (λ _. there)))

  module _ (p : Params) where
    pub change_rows-stays : (s w : Name) (what : Change) → IfOk (change_rows p b s w what) (Stays v x)
    unfolding change_rows
    change_rows-stays s w what =
        gives_or _ (get b.variants w) _ _ (λ y found.
        gives_when _ _ y.released _ (λ open_yet.
        gives_unless _ _ (contains b.suppliers s) _ (λ _.
        gives_then _ (admits (own_rows p b s y) (shared_by y.grants y.frames) what) _ (λ _ _.
        stays-with w _ (open-other w y found open_yet)))))

  pub perform-stays : (c : Cluster) (command : Command) → IfOk (perform c b command) (λ o. Stays v x o.book)
  unfolding perform done
  perform-stays c (Common command) = gives_bind _ _ (common b command) _ (common-stays command) (λ after h. h)
  perform-stays c (AddSupplier s k) = gives_bind _ _ (add_supplier c b s k) _ (add_supplier-stays c s k) (λ after h. h)
  perform-stays c (SetKey s k) = gives_bind _ _ (set_key c b s k) _ (set_key-stays c s k) (λ after h. h)
  perform-stays c (AddNode s n) = gives_bind _ _ (add_node b s n) _ (add_node-stays s n) (λ after h. h)
  perform-stays c (Rows rows) = gives_bind _ _ (change_rows c.params b rows.supplier rows.variant rows.change) _ (change_rows-stays c.params rows.supplier rows.variant rows.change) (λ after h. h)

-- ---- an import

module _ (v : Name) (x : Variant) (frozen : x.released ≡ true) (p : Params) (s w : Name) where
  framed-stays : (b : Book) → get b.variants v ≡ Some x → (f n : Name) (o : Option Frame) → IfOk (with_frame p b s w f n o) (Stays v x)
  unfolding with_frame
  framed-stays b there f n None = change_rows-stays b v x there frozen p s w (change.Frame f (Add n))
  framed-stays b there f n (Some frame) = gives_unless _ _ (same_text frame.node n) _ (λ _. there)

  row-stays : (b : Book) → get b.variants v ≡ Some x → (r : Row) → IfOk (act_row p b s w r) (Stays v x)
  unfolding act_row
  row-stays b there (row.AddFrame f n) = change_rows-stays b v x there frozen p s w (change.Frame f (Add n))
  row-stays b there (row.Place f n q) =
      gives_unless _ _ _ _ (λ _.
      gives_bind _ _ (with_frame p b s w f n (frame_at b s w f)) _ (framed-stays b there f n (frame_at b s w f)) (λ d mid.
      change_rows-stays d v x mid frozen p s w (change.Frame f (Place q))))
  row-stays b there (row.AddSignal f signal) = change_rows-stays b v x there frozen p s w (change.Frame f (AddSignal signal))

  rows-stay : (reads : List RowRead) (b : Book) → get b.variants v ≡ Some x → IfOk (act_rows p b s w reads) (Stays v x)
  unfolding act_rows
  rows-stay [] b there = there
  rows-stay (read ∷ rest) b there =
      gives_bind _ (Stays v x) _ _ (at_line-gives _ read.line _ (gives_each _ read.row _ (λ r _. row-stays b there r))) (λ d mid.
      rows-stay rest d mid)

imported-stays : (v : Name) (x : Variant) (b : Book) → get b.variants v ≡ Some x → (i : Delivery) (label : Name) (count : ℕ) (r : Result Book RefusedAt) → IfOk r (Stays v x) → Stays v x (imported b i label count r).book
unfolding imported
imported-stays v x b there i label count (Ok d) h = h
imported-stays v x b there i label count (Err fault) h = there

module _ (b : Book) (v : Name) (x : Variant) (there : get b.variants v ≡ Some x) (frozen : x.released ≡ true) where
  import-stays : (p : Params) (i : Delivery) (label : Name) (o : Option Kept) → IfOk (import p b i label o) (λ o. Stays v x o.book)
  unfolding import
  import-stays p i label None =
      gives_or _ (get b.variants i.variant) _ _ (λ y _.
      gives_when _ _ _ _ (λ _.
      gives_when _ _ _ _ (λ _.
      gives_when _ _ _ _ (λ _.
      imported-stays v x b there i label _ _ (rows-stay v x frozen p i.supplier i.variant (rows_of_body p i.body) b there)))))
  import-stays p i label (Some one) = gives_unless _ _ _ _ (λ _. there)

-- ---- a replacement

module _ (v : Name) (x : Variant) (frozen : x.released ≡ true) (p : Params) (s w : Name) where
  replace_row-stays : (b : Book) → get b.variants v ≡ Some x → (r : Row) → IfOk (replace_row p b s w r) (Stays v x)
  unfolding replace_row
  replace_row-stays b there (row.AddFrame f n) = gives_unless _ _ _ _ (λ _. framed-stays v x frozen p s w b there f n (frame_at b s w f))
  replace_row-stays b there (row.Place f n q) = row-stays v x frozen p s w b there (row.Place f n q)
  replace_row-stays b there (row.AddSignal f signal) = row-stays v x frozen p s w b there (row.AddSignal f signal)

  replace_rows-stay : (reads : List RowRead) (b : Book) → get b.variants v ≡ Some x → IfOk (replace_rows p b s w reads) (Stays v x)
  unfolding replace_rows
  replace_rows-stay [] b there = there
  replace_rows-stay (read ∷ rest) b there =
      gives_bind _ (Stays v x) _ _ (at_line-gives _ read.line _ (gives_each _ read.row _ (λ r _. replace_row-stays b there r))) (λ d mid.
      replace_rows-stay rest d mid)

module _ (b : Book) (v : Name) (x : Variant) (there : get b.variants v ≡ Some x) (frozen : x.released ≡ true) where
  replace-stays : (p : Params) (r : Delivery) (whole : Bool) → IfOk (replace p b r whole) (λ o. Stays v x o.book)
  unfolding replace
  replace-stays p r whole =
      gives_or _ (get b.variants r.variant) _ _ (λ y found.
      gives_when _ _ y.released _ (λ open_yet.
      gives_when _ _ _ _ (λ _.
      let mid = stays-with b v x there frozen r.variant _ (open-other b v x there frozen r.variant y found open_yet) in
      replaced-gives (Stays v x) b there _ _ (replace_rows-stay v x frozen p r.supplier r.variant (rows_of_body p r.body) _ mid))))

-- ---- a step

module _ (b : Book) (v : Name) (x : Variant) (there : get b.variants v ≡ Some x) (frozen : x.released ≡ true) where
  outcome-stays : (r : Result Outcome Refusal) → IfOk r (λ o. Stays v x o.book) → Stays v x (outcome b r).book
  unfolding outcome
  outcome-stays (Ok o) h = h
  outcome-stays (Err e) h = there

  delivered-stays : (p : Params) (d : Delivery) (how : Purpose Name) → IfOk (deliver p b d how) (λ o. Stays v x o.book)
  unfolding deliver
  delivered-stays p d (purpose.Import label) = import-stays b v x there frozen p d label (get b.imports (d.supplier, label))
  delivered-stays p d (purpose.Replacement whole) = replace-stays b v x there frozen p d whole
  delivered-stays p d (purpose.Trial how) = trial-leaves (Stays v x) b there p d how
  delivered-stays p d (purpose.Proposal replace) = proposal-leaves (Stays v x) b there p d replace

  act-stays : (c : Cluster) (actor : Actor) (what : Checked) → IfOk (act c b actor what) (λ o. Stays v x o.book)
  unfolding act
  act-stays c actor (checked.Command command) = perform-stays b v x there frozen c command
  act-stays c actor (checked.Deliver d) = delivered-stays c.params d d.how
  act-stays c actor (checked.Query query) = gives_each _ (reply c.params b actor query) _ (λ rows _. there)

  pub step-stays : (c : Cluster) (actor : Actor) (request : Request) → Stays v x (step c b actor request).book
  unfolding step
  step-stays c actor request = outcome-stays _ (
      gives_unless _ _ (knows b actor) _ (λ _.
      gives_each _ (check c.params actor request) _ (λ what _. act-stays c actor what)))

-- ---- ever after

run-stays : (c : Cluster) (b last : Book) (asks : List Ask) (answers : List Answer) (v : Name) (x : Variant) → get b.variants v ≡ Some x → x.released ≡ true → IsRun c b asks answers last → Stays v x last
run-stays c b last [] [] v x there frozen run = ap (λ (d : Book). get d.variants v) run ∙ there
run-stays c b last [] (answer ∷ answers) v x there frozen run = absurd run
run-stays c b last (ask ∷ asks) [] v x there frozen run = absurd run
run-stays c b last (ask ∷ asks) (answer ∷ answers) v x there frozen (inl lacking) = run-stays c b last asks answers v x there frozen lacking.2
run-stays c b last (ask ∷ asks) (answer ∷ answers) v x there frozen (inr done) =
    run-stays c (step c b ask.actor ask.request).book last asks answers v x (step-stays b v x there frozen c ask.actor ask.request) frozen done.1

pub run-keeps_released : (c : Cluster) (b last : Book) (asks : List Ask) (answers : List Answer) (v : Name) (x : Variant) → get b.variants v ≡ Some x → IsTrue x.released → IsRun c b asks answers last → get last.variants v ≡ Some x
run-keeps_released c b last asks answers v x there frozen run = run-stays c b last asks answers v x there frozen run

-- ---- queries

-- where the variant is the same, the reply to a query of it is
reply-alike : (p : Params) (b d : Book) (actor : Actor) (v : Name) (report : Report Name ℕ) → get d.variants v ≡ get b.variants v →
    reply p d actor (OfVariant v report) ≡ reply p b actor (OfVariant v report)
unfolding reply found
reply-alike p b d actor v report same =
    ap (λ o. ((o or NoVariant) >>= (λ x. shown p actor x report)) >>= (λ rows. Ok (answer.Report (is_integrator actor) rows))) same

answer-of : (b d : Book) (r : Result Answer Refusal) → (outcome d (r >>= (λ rows. Ok (record { book = d; answer = rows })))).answer ≡ (outcome b (r >>= (λ rows. Ok (record { book = b; answer = rows })))).answer
unfolding outcome ◌>>=◌
answer-of b d (Ok rows) = refl
answer-of b d (Err e) = refl

-- a request that is a query is answered alike where its sender is known and the reply is the same
query-alike : (c : Cluster) (b d : Book) (actor : Actor) (request : Request) (query : Query Name ℕ) → check c.params actor request ≡ Ok (checked.Query query) → IsTrue (knows b actor) → IsTrue (knows d actor) →
    reply c.params d actor query ≡ reply c.params b actor query → (step c d actor request).answer ≡ (step c b actor request).answer
unfolding step act outcome ◌>>=◌ ◌>>◌ refuse◌when◌
query-alike c b d actor request query passed was is same =
    rw (was, is, passed) (ap (λ r. (outcome d (r >>= (λ rows. Ok (record { book = d; answer = rows })))).answer) same ∙ answer-of b d (reply c.params b actor query))

pub run-keeps_answers : (c : Cluster) (b last : Book) (asks : List Ask) (answers : List Answer) (v : Name) (x : Variant) → get b.variants v ≡ Some x → IsTrue x.released → IsRun c b asks answers last →
    (actor : Actor) (request : Request) (report : Report Name ℕ) → IsTrue (knows b actor) → check c.params actor request ≡ Ok (checked.Query (OfVariant v report)) →
    (step c last actor request).answer ≡ (step c b actor request).answer
run-keeps_answers c b last asks answers v x there frozen run actor request report known passed =
    query-alike c b last actor request (OfVariant v report) passed known (run-knows c b last asks answers actor known run)
    (reply-alike c.params b last actor v report (run-stays c b last asks answers v x there frozen run ∙ sym there))

-- where both variants are the same, so is in what they differ
difference-alike : (p : Params) (b d : Book) (actor : Actor) (v w : Name) → get d.variants v ≡ get b.variants v → get d.variants w ≡ get b.variants w →
    reply p d actor (Difference v w) ≡ reply p b actor (Difference v w)
unfolding reply found
difference-alike p b d actor v w same other i =
    ((same i or NoVariant) >>= (λ new. (other i or NoVariant) >>= (λ old. Ok (rows.Difference (differences p actor old new)))))
    >>= (λ rows. Ok (answer.Report (is_integrator actor) rows))

pub run-keeps_differences : (c : Cluster) (b last : Book) (asks : List Ask) (answers : List Answer) (v w : Name) (new old : Variant) →
    get b.variants v ≡ Some new → IsTrue new.released → get b.variants w ≡ Some old → IsTrue old.released → IsRun c b asks answers last →
    (actor : Actor) (request : Request) → IsTrue (knows b actor) → check c.params actor request ≡ Ok (checked.Query (Difference v w)) →
    (step c last actor request).answer ≡ (step c b actor request).answer
run-keeps_differences c b last asks answers v w new old there frozen other frozen_too run actor request known passed =
    query-alike c b last actor request (Difference v w) passed known (run-knows c b last asks answers actor known run)
    (difference-alike c.params b last actor v w (run-stays c b last asks answers v new there frozen run ∙ sym there) (run-stays c b last asks answers w old other frozen_too run ∙ sym other))
