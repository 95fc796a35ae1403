-- A query changes nothing, and is answered as the book has its variants.
use Rattle.std.proofs.Common.{◌≡◌, ℕ, List, [], Option, Some, None, Result, Ok, Err, IsTrue, refl, ap, sym, subst, ◌∙◌, inl, inr}
use Rattle.std.proofs.lemmas.Bool.{cases_Bool}
use Rattle.fr_base.specs.Refusing.{◌>>=◌, ◌or◌}
use Rattle.fr_base.specs.Tables.{get}
use Rattle.fr_base.specs.Checks.{is_integrator, check}
use Rattle.fr_base.specs.Cluster.{Cluster}
use Rattle.fr_base.specs.Book.{Variant, Book}
use Rattle.fr_base.specs.Seen.{seen_grants, seen_frames}
use Rattle.fr_base.specs.Differences.{seen_rows, gone_in, new_in, differences}
use Rattle.fr_base.specs.Load.{load_of}
use Rattle.fr_base.specs.Queries.{shown, found}
use Rattle.fr_base.specs.Step.{Outcome, knows, step}
use Rattle.fr_base.specs.QueryLaws.{QueryChangesNothing, difference_told, DifferenceIsTold, load_told, LoadIsTold, InventoryIsTold, rows_told, RowsAreTold, AreThoseOfOne, DifferenceIsOfRows}
use Rattle.fr_base.specs.declared.answer.Answer.{Answer}
use Rattle.fr_base.specs.declared.answer.Answer.TheVariants.{Report as Told}
use Rattle.fr_base.specs.declared.answer.ReportRows.{ReportRows}
use Rattle.fr_base.specs.declared.answer.ReportRows.TheVariants as rows
use Rattle.fr_base.specs.declared.answer.SeenRow.{SeenRow}
use Rattle.fr_base.specs.declared.refusal.Refusal.{Refusal}
use Rattle.fr_base.specs.declared.refusal.Refusal.TheVariants.{NoVariant}
use Rattle.fr_base.specs.declared.name.Name.{Name}
use Rattle.fr_base.specs.declared.params.Params.{Params}
use Rattle.fr_base.specs.declared.actor.Actor.{Actor}
use Rattle.fr_base.specs.declared.query.Query.{Query}
use Rattle.fr_base.specs.declared.query.Query.TheVariants.{Register, Variant as OfVariant, Difference}
use Rattle.fr_base.specs.declared.report.Report.{Report}
use Rattle.fr_base.specs.declared.report.Report.TheVariants.{Load, Rows}
use Rattle.fr_base.specs.declared.request.Request.{Request}
use Rattle.fr_base.specs.declared.request.Checked.TheVariants as checked
use Rattle.fr_base.proofs.DifferenceRows.{what_differs}
use Rattle.fr_base.proofs.QuerySteps.{only_told, told_of, answers, unknown, query-step}

-- ---- the book

pub query-stays : QueryChangesNothing
query-stays c b actor request query passed = elim (cases_Bool (knows b actor)) [
  | inl known ↦ ap (λ (o : Outcome). o.book) (query-step c b actor request query known passed)
  | inr stranger ↦ ap (λ (o : Outcome). o.book) (unknown c b actor request stranger)
]

-- ---- the answer

module _ (c : Cluster) (b : Book) (actor : Actor) (request : Request) (query : Query Name ℕ) (known : IsTrue (knows b actor)) (passed : check c.params actor request ≡ Ok (checked.Query query)) where
  -- what is found, or why nothing is
  pub query-answered : (o : Result ReportRows Refusal) → found c.params b actor query ≡ o → (step c b actor request).answer ≡ told_of (is_integrator actor) o
  query-answered o is =
      answers (step c b actor request) (only_told b (told_of (is_integrator actor) (found c.params b actor query))) (query-step c b actor request query known passed)
      ∙ ap (told_of (is_integrator actor)) is

module _ (p : Params) (b : Book) (actor : Actor) where
  pub report-lacks : (v : Name) (report : Report Name ℕ) → get b.variants v ≡ None → found p b actor (OfVariant v report) ≡ Err NoVariant
  unfolding found ◌or◌ ◌>>=◌
  report-lacks v report none = rw none refl

  of_two : (new old : Option Variant) →
      told_of (is_integrator actor) ((new or NoVariant) >>= λ x. (old or NoVariant) >>= λ y. Ok (rows.Difference (differences p actor y x)))
      ≡ difference_told p actor new old
  unfolding ◌or◌ ◌>>=◌
  of_two None None = refl
  of_two None (Some y) = refl
  of_two (Some x) None = refl
  of_two (Some x) (Some y) = refl

  difference-found : (v from : Name) → told_of (is_integrator actor) (found p b actor (Difference v from)) ≡ difference_told p actor (get b.variants v) (get b.variants from)
  unfolding found
  difference-found v from = of_two (get b.variants v) (get b.variants from)

  of_load : (o : Option Variant) →
      told_of (is_integrator actor) ((o or NoVariant) >>= λ x. Ok (rows.Load (load_of p actor (seen_grants actor x.grants) (seen_frames actor x.frames))))
      ≡ load_told p actor o
  unfolding ◌or◌ ◌>>=◌
  of_load None = refl
  of_load (Some x) = refl

  load-found : (v : Name) → told_of (is_integrator actor) (found p b actor (OfVariant v Load)) ≡ load_told p actor (get b.variants v)
  unfolding found shown
  load-found v = of_load (get b.variants v)

  of_rows : (o : Option Variant) → told_of (is_integrator actor) ((o or NoVariant) >>= λ x. Ok (rows.Seen (seen_rows p actor x))) ≡ rows_told p actor o
  unfolding ◌or◌ ◌>>=◌
  of_rows None = refl
  of_rows (Some x) = refl

  rows-found : (v : Name) → told_of (is_integrator actor) (found p b actor (OfVariant v Rows)) ≡ rows_told p actor (get b.variants v)
  unfolding found shown
  rows-found v = of_rows (get b.variants v)

pub difference-told : DifferenceIsTold
difference-told c b actor v from request known passed =
    query-step c b actor request (Difference v from) known passed ∙ ap (only_told b) (difference-found c.params b actor v from)

pub load-told : LoadIsTold
load-told c b actor v request known passed =
    query-step c b actor request (OfVariant v Load) known passed ∙ ap (only_told b) (load-found c.params b actor v)

pub inventory-told : InventoryIsTold
unfolding found
inventory-told c b actor inventory request known passed = query-step c b actor request (Register inventory) known passed

pub rows-told : RowsAreTold
rows-told c b actor v request known passed =
    query-step c b actor request (OfVariant v Rows) known passed ∙ ap (only_told b) (rows-found c.params b actor v)

-- ---- the rows of two variants

-- the rows of an answer
abbrev seen_in : Answer → List SeenRow
seen_in (Told all (rows.Seen told)) = told
seen_in _ = []

-- rows that were told are those of a variant that is there
told-there : (p : Params) (actor : Actor) (o : Option Variant) (told : List SeenRow) → rows_told p actor o ≡ Told (is_integrator actor) (rows.Seen told) →
    (x : Variant) × (o ≡ Some x) × (told ≡ seen_rows p actor x)
told-there p actor None told is = cc
told-there p actor (Some x) told is = (x, refl, sym (ap seen_in is))

pub difference-of_rows : DifferenceIsOfRows
difference-of_rows c b actor v from of_newer of_older of_both newer older known passed_newer passed_older passed_both told_newer told_older =
    let p = c.params in
    let new = told-there p actor (get b.variants v) newer (sym (ap (λ (o : Outcome). o.answer) (rows-told c b actor v of_newer known passed_newer)) ∙ told_newer) in
    let old = told-there p actor (get b.variants from) older (sym (ap (λ (o : Outcome). o.answer) (rows-told c b actor from of_older known passed_older)) ∙ told_older) in
    let differ = what_differs p actor old.0 new.0 in (
      differences p actor old.0 new.0,
      ap (λ (o : Outcome). o.answer) (difference-told c b actor v from of_both known passed_both) ∙ (λ i. difference_told p actor (new.1 i) (old.1 i)),
      subst (λ (rs : List SeenRow × List SeenRow). AreThoseOfOne (gone_in (differences p actor old.0 new.0)) rs.0 rs.1) (λ i. (sym old.2 i, sym new.2 i)) (λ r. (differ r).0),
      subst (λ (rs : List SeenRow × List SeenRow). AreThoseOfOne (new_in (differences p actor old.0 new.0)) rs.0 rs.1) (λ i. (sym new.2 i, sym old.2 i)) (λ r. (differ r).1),
    )
