-- What a trial of a file tells is what the file is answered.
use Rattle.std.proofs.Common.{◌≡◌, ℕ, zero, suc, ◌+◌, Bool, true, false, cond, List, [], ◌∷◌, length, take, nat_le, nat_lt, leb-true, Option, Some, None, Result, Ok, Err, is_err, IfOk, refl, sym, ap, subst, ◌∙◌, arith, inl, inr}
use Rattle.std.proofs.lemmas.Bool.{cases_Bool, lt-leb}
use Rattle.fr_base.specs.Refusing.{◌>>=◌, ◌>>◌, ◌or◌, refuse◌when◌}
use Rattle.fr_base.specs.Tables.{get, contains, len}
use Rattle.fr_base.specs.Cluster.{Cluster}
use Rattle.fr_base.specs.Checks.{asking, name, purpose, check}
use Rattle.fr_base.specs.Names.{is_name}
use Rattle.fr_base.specs.Book.{Book, own}
use Rattle.fr_base.specs.ImportRows.{row_at, rows_from, header_of, header_of_body, rows_below, rows_of_records, up_to_refused, records_of, rows_of_body, all_rows_of_body}
use Rattle.fr_base.specs.Step.{Outcome, RefusedAt, at_line, act_row, act_rows, imported, import_rows, import, whole_of, with_freed, replace_row, replace_rows, replaced, replace, fate_of, fates_of, try, knows, act, deliver, outcome, step}
use Rattle.fr_base.specs.Fates.{told_by, answer_told}
use Rattle.fr_base.specs.declared.limits.TheConstants.{MAX_ROWS, MAX_IMPORTS, MAX_IMPORT_BYTES}
use Rattle.fr_base.specs.declared.answer.Answer.{Answer}
use Rattle.fr_base.specs.declared.answer.Answer.TheVariants as answer
use Rattle.fr_base.specs.declared.answer.FateRow.{FateRow}
use Rattle.fr_base.specs.declared.answer.ReportRows.TheVariants as shows
use Rattle.fr_base.specs.declared.import.Header.{Header}
use Rattle.fr_base.specs.declared.import.Row.{Row}
use Rattle.fr_base.specs.declared.import.RowRead.{RowRead}
use Rattle.fr_base.specs.declared.name.Name.{Name}
use Rattle.fr_base.specs.declared.params.Params.{Params}
use Rattle.fr_base.specs.declared.refusal.Refusal.{Refusal}
use Rattle.fr_base.specs.declared.refusal.Refusal.TheVariants.{NoVariant, Released, Limit}
use Rattle.fr_base.specs.declared.actor.Actor.{Actor}
use Rattle.fr_base.specs.declared.actor.Actor.TheVariants.{Supplier}
use Rattle.fr_base.specs.declared.request.Request.TheVariants as request
use Rattle.fr_base.specs.declared.delivery.Delivery.{Delivery}
use Rattle.fr_base.specs.declared.delivery.Manner.{Manner}
use Rattle.fr_base.specs.declared.delivery.Manner.TheVariants as manner
use Rattle.fr_base.specs.declared.request.Checked.{Checked}
use Rattle.fr_base.specs.declared.delivery.Purpose.TheVariants as purpose
use Rattle.fr_base.specs.declared.request.Checked.TheVariants as checked
use Rattle.fr_base.proofs.SoundRefusing.{gives_bind, gives_each, gives_unless}
use Rattle.fr_base.proofs.SoundTrials.{trial-leaves}
use Rattle.fr_base.proofs.AloneRefusing.{alike_bind, alike_when}

-- ---- rows up to the first that is refused, and all rows

module _ (p : Params) where
  late : (header : Header) (line : ℕ) (fields : List (List ℕ)) → nat_lt (MAX_ROWS + 1) line ≡ true → is_err (row_at p header line fields) ≡ true
  unfolding row_at ◌>>◌ refuse◌when◌
  late header line fields past = rw past refl

  -- at a row that is one too many reading ends anyway
  reads_end : (header : Header) (n line : ℕ) (records : List (List (List ℕ))) → n + line ≡ MAX_ROWS + 2 →
      up_to_refused (take (suc n) (rows_from p header line records)) ≡ up_to_refused (rows_from p header line records)
  unfolding rows_from up_to_refused
  reads_end header n line [] at = refl
  reads_end header zero line (fields ∷ rest) at =
      let last : MAX_ROWS + 2 ≡ line = omega (arith, at) in
      let here = late header line fields (subst (λ l. nat_lt (MAX_ROWS + 1) l ≡ true) last refl) in
      rw here refl
  reads_end header (suc n) line (fields ∷ rest) at =
      ap (λ l. record { line = line; row = row_at p header line fields } ∷ cond (is_err (row_at p header line fields)) [] l) (reads_end header n (suc line) rest (omega (arith, at)))

  below_end : (header : Option Header) (records : List (List (List ℕ))) → up_to_refused (take (MAX_ROWS + 1) (rows_below p header records)) ≡ up_to_refused (rows_below p header records)
  unfolding rows_below
  below_end (Some header) records = reads_end header MAX_ROWS 2 records refl
  below_end None records = refl

  records_end : (records : List (List (List ℕ))) → up_to_refused (take (MAX_ROWS + 1) (rows_of_records p records)) ≡ up_to_refused (rows_of_records p records)
  unfolding rows_of_records
  records_end [] = below_end None []
  records_end (first ∷ records) = below_end (header_of first) records

  -- the rows up to the first that is refused are those of all
  pub body_ends : (body : List ℕ) → up_to_refused (all_rows_of_body p body) ≡ rows_of_body p body
  unfolding all_rows_of_body rows_of_body
  body_ends body = records_end (records_of body)

-- ---- what rows do, and what is told of them

-- the answer to rows that were carried out, so many, or of which one was refused
abbrev answer_of : (ℕ → Answer) → ℕ → Result Book RefusedAt → Answer
answer_of done count (Ok d) = done count
answer_of done count (Err fault) = answer.RefusedRow fault.line fault.refusal

-- rows in turn, up to the first that is refused, and to their end
module _ (acts : Book → Row → Result Book Refusal) (run : Book → List RowRead → Result Book RefusedAt) (fates : Book → List RowRead → List FateRow)
    (run_none : (b : Book) → run b [] ≡ Ok b)
    (run_one : (b : Book) (read : RowRead) (rest : List RowRead) → run b (read ∷ rest) ≡ (at_line read.line (read.row >>= acts b) >>= (λ d. run d rest)))
    (fates_none : (b : Book) → fates b [] ≡ [])
    (fates_one : (b : Book) (read : RowRead) (rest : List RowRead) → fates b (read ∷ rest) ≡ (fate_of b read.line (read.row >>= acts b)).1 ∷ fates (fate_of b read.line (read.row >>= acts b)).0 rest) where
  abbrev AreTold : (ℕ → Answer) → Book → List RowRead → Type 0
  AreTold done b reads = answer_of done (length (up_to_refused reads)) (run b (up_to_refused reads)) ≡ told_by (done (length (fates b reads))) (fates b reads)

  one_told : (done : ℕ → Answer) (b : Book) (line : ℕ) (r : Result Row Refusal) (o : Result Book Refusal) (rest : List RowRead) → o ≡ (r >>= acts b) → ((d : Book) → AreTold (λ n. done (suc n)) d rest) →
      answer_of done (suc (length (cond (is_err r) [] (up_to_refused rest)))) (at_line line o >>= (λ d. run d (cond (is_err r) [] (up_to_refused rest))))
      ≡ told_by (done (suc (length (fates (fate_of b line o).0 rest)))) ((fate_of b line o).1 ∷ fates (fate_of b line o).0 rest)
  unfolding at_line fate_of ◌>>=◌
  one_told done b line r (Err e) rest is next = refl
  one_told done b line (Err e) (Ok d) rest is next = cc
  one_told done b line (Ok r) (Ok d) rest is next = next d

  rows_told : (reads : List RowRead) (done : ℕ → Answer) (b : Book) → AreTold done b reads
  unfolding up_to_refused
  rows_told [] done b = rw (run_none b, fates_none b) refl
  rows_told (read ∷ rest) done b =
      let after : List RowRead = cond (is_err read.row) [] (up_to_refused rest) in
      ap (answer_of done (suc (length after))) (run_one b read after)
      ∙ one_told done b read.line read.row (read.row >>= acts b) rest refl (λ d. rows_told rest (λ n. done (suc n)) d)
      ∙ ap (λ l. told_by (done (length l)) l) (sym (fates_one b read rest))

module _ (p : Params) (s v : Name) where
  acts_told : (reads : List RowRead) (b : Book) →
      answer_of answer.Imported (length (up_to_refused reads)) (act_rows p b s v (up_to_refused reads)) ≡ told_by (answer.Imported (length (fates_of p manner.Import b s v reads))) (fates_of p manner.Import b s v reads)
  unfolding act_rows fates_of
  acts_told reads b = rows_told (λ d. act_row p d s v) (λ d. act_rows p d s v) (λ d. fates_of p manner.Import d s v) (λ d. refl) (λ d read rest. refl) (λ d. refl) (λ d read rest. refl) reads answer.Imported b

  replaces_told : (whole : Bool) (reads : List RowRead) (b : Book) →
      answer_of answer.Replaced (length (up_to_refused reads)) (replace_rows p b s v (up_to_refused reads)) ≡ told_by (answer.Replaced (length (fates_of p (manner.Replace whole) b s v reads))) (fates_of p (manner.Replace whole) b s v reads)
  unfolding replace_rows fates_of
  replaces_told whole reads b = rows_told (λ d. replace_row p d s v) (λ d. replace_rows p d s v) (λ d. fates_of p (manner.Replace whole) d s v) (λ d. refl) (λ d read rest. refl) (λ d. refl) (λ d read rest. refl) reads answer.Replaced b

-- ---- the answers

imported-told : (b : Book) (i : Delivery) (label : Name) (count : ℕ) (r : Result Book RefusedAt) → (imported b i label count r).answer ≡ answer_of answer.Imported count r
unfolding imported
imported-told b i label count (Ok d) = refl
imported-told b i label count (Err fault) = refl

replaced-told : (b : Book) (count : ℕ) (r : Result Book RefusedAt) → (replaced b count r).answer ≡ answer_of answer.Replaced count r
unfolding replaced
replaced-told b count (Ok d) = refl
replaced-told b count (Err fault) = refl

module _ (b : Book) (done : ℕ → Answer) where
  -- an outcome is answered as the other one tells
  abbrev IsTold : Result Outcome Refusal → Result Outcome Refusal → Type 0
  IsTold r u = (outcome b r).answer ≡ answer_told done (outcome b u).answer

  refused-told : (e : Refusal) → IsTold (Err e) (Err e)
  unfolding outcome
  refused-told e = refl

module _ (p : Params) (b : Book) where
  abbrev all_told : (ℕ → Answer) → Manner → Book → Name → Name → List ℕ → Result Outcome Refusal → Type 0
  all_told done how d s v body r = IsTold b done r (Ok (record { book = b; answer = answer.Report false (shows.Fates (fates_of p how d s v (all_rows_of_body p body))) }))

  imported_rows-told : (i : Delivery) (label : Name) → nat_le MAX_IMPORTS (len (own i.supplier b.imports)) ≡ false →
      all_told answer.Imported manner.Import b i.supplier i.variant i.body ((refuse Limit when nat_le MAX_IMPORTS (len (own i.supplier b.imports))) >> Ok (import_rows p b i label (rows_of_body p i.body)))
  unfolding outcome ◌>>◌ refuse◌when◌
  imported_rows-told i label few = rw few (
      imported-told b i label _ _
      ∙ ap (λ reads. answer_of answer.Imported (length reads) (act_rows p b i.supplier i.variant reads)) (sym (body_ends p i.body))
      ∙ acts_told p i.supplier i.variant (all_rows_of_body p i.body) b)

  import-told : (i : Delivery) (label : Name) → nat_le MAX_IMPORTS (len (own i.supplier b.imports)) ≡ false →
      IsTold b answer.Imported (import p b i label None) (try p b i manner.Import)
  unfolding import try
  import-told i label few =
      alike_bind (IsTold b answer.Imported) (refused-told b answer.Imported) (get b.variants i.variant or NoVariant) _ refl _ _ (λ x _.
      alike_when (IsTold b answer.Imported) (refused-told b answer.Imported) Released x.released _ refl _ _ (λ _.
      alike_when (IsTold b answer.Imported) (refused-told b answer.Imported) Limit (nat_lt MAX_IMPORT_BYTES (length i.body)) _ refl _ _ (λ _.
      imported_rows-told i label few)))

  replaced_rows-told : (r : Delivery) (whole : Bool) (d : Book) →
      all_told answer.Replaced (manner.Replace whole) d r.supplier r.variant r.body (Ok (replaced b (length (rows_of_body p r.body)) (replace_rows p d r.supplier r.variant (rows_of_body p r.body))))
  unfolding outcome
  replaced_rows-told r whole d =
      replaced-told b _ _
      ∙ ap (λ reads. answer_of answer.Replaced (length reads) (replace_rows p d r.supplier r.variant reads)) (sym (body_ends p r.body))
      ∙ replaces_told p r.supplier r.variant whole (all_rows_of_body p r.body) d

  replace-told : (r : Delivery) (whole : Bool) → IsTold b answer.Replaced (replace p b r whole) (try p b r (manner.Replace whole))
  unfolding replace try
  replace-told r whole =
      alike_bind (IsTold b answer.Replaced) (refused-told b answer.Replaced) (get b.variants r.variant or NoVariant) _ refl _ _ (λ x _.
      alike_when (IsTold b answer.Replaced) (refused-told b answer.Replaced) Released x.released _ refl _ _ (λ _.
      alike_when (IsTold b answer.Replaced) (refused-told b answer.Replaced) Limit (nat_lt MAX_IMPORT_BYTES (length r.body)) _ refl _ _ (λ _.
      replaced_rows-told r whole (with_freed b r.supplier r.variant x (whole_of whole (header_of_body r.body)) (rows_of_body p r.body)))))

-- ---- the step

not_full : (n : ℕ) → nat_lt n MAX_IMPORTS ≡ true → nat_le MAX_IMPORTS n ≡ false
not_full n few = lt-leb MAX_IMPORTS n (leb-true (suc n) MAX_IMPORTS few)

outcome-leaves : (b : Book) (r : Result Outcome Refusal) → IfOk r (λ o. o.book ≡ b) → (outcome b r).book ≡ b
unfolding outcome
outcome-leaves b (Ok o) h = h
outcome-leaves b (Err e) h = refl

pub trial-stays : (c : Cluster) (b : Book) (actor : Actor) (variant body : List ℕ) (how : Manner) → (step c b actor (request.Deliver variant (purpose.Trial how) body)).book ≡ b
unfolding step act deliver check purpose
trial-stays c b actor variant body how = outcome-leaves b _ (
    gives_unless _ _ (knows b actor) _ (λ _.
    gives_bind _ (λ (what : Checked). IfOk (act c b actor what) (λ o. o.book ≡ b)) (check c.params actor (request.Deliver variant (purpose.Trial how) body)) _ (
    gives_each _ (asking actor) _ (λ s _.
    gives_each _ (name variant) _ (λ v _.
    gives_bind _ (λ h. h ≡ purpose.Trial how) (purpose (purpose.Trial how)) _ refl (λ h is.
    subst (λ k. IfOk (act c b actor (checked.Deliver (record { supplier = s; variant = v; how = k; body = body }))) (λ o. o.book ≡ b)) (sym is)
    (trial-leaves (λ d. d ≡ b) b refl c.params (record { supplier = s; variant = v; how = purpose.Trial how; body = body }) how)))))
    (λ what h. h)))

module _ (c : Cluster) (b : Book) (s : Name) (variant : List ℕ) where
  pub import-as_told : (label body : List ℕ) → is_name label ≡ true → get b.imports (s, label) ≡ None → nat_lt (len (own s b.imports)) MAX_IMPORTS ≡ true →
      (step c b (Supplier s) (request.Deliver variant (purpose.Import label) body)).answer ≡ answer_told answer.Imported (step c b (Supplier s) (request.Deliver variant (purpose.Trial manner.Import) body)).answer
  unfolding step act deliver check purpose asking name outcome ◌>>=◌ ◌>>◌ refuse◌when◌ try
  import-as_told label body labelled free few = elim (cases_Bool (contains b.suppliers s)) [
    | inl known ↦ elim (cases_Bool (is_name variant)) [
      | inl named ↦ rw (known, named, labelled, free) (import-told c.params b (record { supplier = s; variant = variant; how = purpose.Import label; body = body }) label (not_full (len (own s b.imports)) few))
      | inr unnamed ↦ rw (known, unnamed) refl
    ]
    | inr unknown ↦ rw unknown refl
  ]

  pub replacement-as_told : (body : List ℕ) (whole : Bool) →
      (step c b (Supplier s) (request.Deliver variant (purpose.Replacement whole) body)).answer ≡ answer_told answer.Replaced (step c b (Supplier s) (request.Deliver variant (purpose.Trial (manner.Replace whole)) body)).answer
  unfolding step act deliver check purpose asking name outcome ◌>>=◌ ◌>>◌ refuse◌when◌ try
  replacement-as_told body whole = elim (cases_Bool (contains b.suppliers s)) [
    | inl known ↦ elim (cases_Bool (is_name variant)) [
      | inl named ↦ rw (known, named) (replace-told c.params b (record { supplier = s; variant = variant; how = purpose.Replacement whole; body = body }) whole)
      | inr unnamed ↦ rw (known, unnamed) refl
    ]
    | inr unknown ↦ rw unknown refl
  ]
