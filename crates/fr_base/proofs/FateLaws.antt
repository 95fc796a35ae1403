-- How the fates of a file's rows are told: line by line, each by what the done rows before it have left.
use Rattle.std.proofs.Common.{◌≡◌, ◌+◌, ℕ, zero, suc, Bool, true, false, cond, List, [], ◌∷◌, ◌++◌, length, map, take, nat_lt, Option, Some, None, is_some, Result, Ok, Err, IsTrue, All, refl, sym, ap, subst, ◌∙◌, arith}
use Rattle.std.specs.List.{range_with_len}
use Rattle.std.proofs.lemmas.List.Elements.{All-nil, All-cons, All-head, All-tail, All-take}
use Rattle.fr_base.specs.Refusing.{◌>>=◌, ◌>>◌, ◌or◌, refuse◌when◌}
use Rattle.fr_base.specs.Tables.{get}
use Rattle.fr_base.specs.Names.{is_name}
use Rattle.fr_base.specs.Checks.{asking, name, purpose, check}
use Rattle.fr_base.specs.Cluster.{Cluster}
use Rattle.fr_base.specs.Book.{Variant, Book}
use Rattle.fr_base.specs.ImportRows.{row_at, rows_from, header_of, rows_below, rows_of_records, records_of, all_rows_of_body}
use Rattle.fr_base.specs.Step.{RefusedAt, at_line, act_rows, replace_rows, try_row, fate_of, fates_of, try, act, deliver, outcome}
use Rattle.fr_base.specs.FateLaws.{fates_in, trial_told, TrialIsTold, lines_of, LinesAreInTurn, IsLimitBehind, OneTooManyIsLimit, refusal_in, done_rows, try_rows, EachFateIsItsRows, after_fates, IsDoneWithout, RefusedRowsLeaveNothing}
use Rattle.fr_base.specs.declared.limits.TheConstants.{MAX_ROWS, MAX_IMPORT_BYTES}
use Rattle.fr_base.specs.declared.answer.Answer.TheVariants.{Report, Refused}
use Rattle.fr_base.specs.declared.answer.ReportRows.TheVariants as rows
use Rattle.fr_base.specs.declared.answer.FateRow.{FateRow}
use Rattle.fr_base.specs.declared.import.Header.{Header}
use Rattle.fr_base.specs.declared.import.Row.{Row}
use Rattle.fr_base.specs.declared.import.RowRead.{RowRead}
use Rattle.fr_base.specs.declared.name.Name.{Name}
use Rattle.fr_base.specs.declared.params.Params.{Params}
use Rattle.fr_base.specs.declared.refusal.Refusal.{Refusal}
use Rattle.fr_base.specs.declared.refusal.Refusal.TheVariants.{NoVariant, Released, BadText, Limit}
use Rattle.fr_base.specs.declared.actor.Actor.TheVariants.{Supplier}
use Rattle.fr_base.specs.declared.request.Request.TheVariants as request
use Rattle.fr_base.specs.declared.delivery.Manner.{Manner}
use Rattle.fr_base.specs.declared.delivery.Manner.TheVariants as manner
use Rattle.fr_base.specs.declared.delivery.Delivery.{Delivery}
use Rattle.fr_base.specs.declared.request.Checked.TheVariants as checked
use Rattle.fr_base.specs.declared.delivery.Purpose.TheVariants as purpose
use Rattle.fr_base.proofs.QuerySteps.{acts}

-- ---- the answer

module _ (c : Cluster) (b : Book) (s v : Name) (body : List ℕ) (how : Manner) where
  abbrev asked : Delivery
  asked = record { supplier = s; variant = v; how = purpose.Trial how; body = body }

  by_tests : (frozen long : Bool) (fates : List FateRow) →
      outcome b ((refuse Released when frozen) >> ((refuse Limit when long) >> Ok (record { book = b; answer = Report false (rows.Fates fates) })))
      ≡ record { book = b; answer = cond frozen (Refused Released) (cond long (Refused Limit) (Report false (rows.Fates fates))) }
  unfolding outcome ◌>>◌ refuse◌when◌
  by_tests true long fates = refl
  by_tests false true fates = refl
  by_tests false false fates = refl

  by_variant : (o : Option Variant) →
      outcome b ((o or NoVariant) >>= λ x.
      (refuse Released when x.released) >> ((refuse Limit when nat_lt MAX_IMPORT_BYTES (length body)) >> Ok (record { book = b; answer = Report false (rows.Fates (fates_in c.params how b s v body x)) })))
      ≡ record { book = b; answer = trial_told c.params how b s v body o }
  unfolding outcome ◌or◌ ◌>>=◌
  by_variant None = refl
  by_variant (Some x) = by_tests x.released (nat_lt MAX_IMPORT_BYTES (length body)) (fates_in c.params how b s v body x)

  asked-checked : IsTrue (is_name v) → check c.params (Supplier s) (request.Deliver v (purpose.Trial how) body) ≡ Ok (checked.Deliver asked)
  unfolding check purpose asking name ◌>>=◌
  asked-checked named = rw named refl

  act-told : outcome b (act c b (Supplier s) (checked.Deliver asked)) ≡ record { book = b; answer = trial_told c.params how b s v body (get b.variants v) }
  unfolding act deliver try
  act-told = by_variant (get b.variants v)

pub trial-told : TrialIsTold
trial-told c b s v body how known named =
    acts c b (Supplier s) (request.Deliver v (purpose.Trial how) body) (checked.Deliver (asked c b s v body how)) known (asked-checked c b s v body how named)
    ∙ act-told c b s v body how

-- ---- lines

line-of : {B : Type 0} (b : B) (line : ℕ) (r : Result B Refusal) → (fate_of b line r).1.line ≡ line
unfolding fate_of
line-of b line (Ok d) = refl
line-of b line (Err e) = refl

taken : {X Y : Type 0} (f : X → Y) (n : ℕ) (xs : List X) → map f (take n xs) ≡ take n (map f xs)
taken f zero [] = refl
taken f zero (x ∷ xs) = refl
taken f (suc n) [] = refl
taken f (suc n) (x ∷ xs) = ap (λ l. f x ∷ l) (taken f n xs)

module _ (p : Params) where
  lines-from : (header : Header) (k : ℕ) (records : List (List (List ℕ))) → map (λ read. read.line) (rows_from p header k records) ≡ range_with_len k (length records)
  unfolding rows_from
  lines-from header k [] = refl
  lines-from header k (fields ∷ rest) =
      let next : suc k ≡ k + 1 = omega arith in
      ap (λ l. k ∷ l) (lines-from header (suc k) rest ∙ ap (λ j. range_with_len j (length rest)) next)

  lines-below : (header : Option Header) (records : List (List (List ℕ))) →
      map (λ read. read.line) (take (MAX_ROWS + 1) (rows_below p header records)) ≡ cond (is_some header) (take (MAX_ROWS + 1) (range_with_len 2 (length records))) (1 ∷ [])
  unfolding rows_below
  lines-below (Some header) records =
      taken (λ (read : RowRead). read.line) (MAX_ROWS + 1) (rows_from p header 2 records) ∙ ap (take (MAX_ROWS + 1)) (lines-from header 2 records)
  lines-below None records = refl

  lines-all : (records : List (List (List ℕ))) → map (λ read. read.line) (take (MAX_ROWS + 1) (rows_of_records p records)) ≡ lines_of records
  unfolding rows_of_records
  lines-all [] = lines-below None []
  lines-all (first ∷ records) = lines-below (header_of first) records

module _ (p : Params) (how : Manner) (s v : Name) where
  lines-told : (reads : List RowRead) (b : Book) → map (λ row. row.line) (fates_of p how b s v reads) ≡ map (λ read. read.line) reads
  unfolding fates_of
  lines-told [] b = refl
  lines-told (read ∷ rest) b =
      let r = read.row >>= try_row p how b s v in
      λ i. line-of b read.line r i ∷ lines-told rest (fate_of b read.line r).0 i

pub lines-in_turn : LinesAreInTurn
unfolding all_rows_of_body
lines-in_turn p how b s v body =
    lines-told p how s v (take (MAX_ROWS + 1) (rows_of_records p (records_of body))) b ∙ lines-all p (records_of body)

-- ---- one row too many

abbrev IsLate : ℕ → Type 0
IsLate line = IsTrue (nat_lt (MAX_ROWS + 1) line)

abbrev IsRead : RowRead → Type 0
IsRead read = IsLate read.line → read.row ≡ Err Limit

module _ (p : Params) where
  late-row : (header : Header) (line : ℕ) (fields : List (List ℕ)) → IsLate line → row_at p header line fields ≡ Err Limit
  unfolding row_at ◌>>◌ refuse◌when◌
  late-row header line fields late = rw late refl

  late-from : (header : Header) (k : ℕ) (records : List (List (List ℕ))) → All IsRead (rows_from p header k records)
  unfolding rows_from
  late-from header k [] = All-nil IsRead
  late-from header k (fields ∷ rest) =
      All-cons IsRead (record { line = k; row = row_at p header k fields }) (rows_from p header (suc k) rest) (late-row header k fields) (late-from header (suc k) rest)

  late-below : (header : Option Header) (records : List (List (List ℕ))) → All IsRead (rows_below p header records)
  unfolding rows_below
  late-below (Some header) records = late-from header 2 records
  late-below None records = All-cons IsRead (record { line = 1; row = Err BadText }) [] (λ late. cc) (All-nil IsRead)

  late-all : (records : List (List (List ℕ))) → All IsRead (rows_of_records p records)
  unfolding rows_of_records
  late-all [] = late-below None []
  late-all (first ∷ records) = late-below (header_of first) records

module _ (p : Params) (how : Manner) (s v : Name) where
  late-fate : (b : Book) (read : RowRead) → IsRead read → IsLimitBehind (fate_of b read.line (read.row >>= try_row p how b s v)).1
  unfolding fate_of ◌>>=◌
  late-fate b read is late =
      let r : Result Book Refusal = read.row >>= try_row p how b s v in
      let behind : IsLate read.line = subst IsLate (line-of b read.line r) late in
      ap (λ (row : Result Row Refusal). (fate_of b read.line (row >>= try_row p how b s v)).1.refusal) (is behind)

  late-told : (reads : List RowRead) (b : Book) → All IsRead reads → All IsLimitBehind (fates_of p how b s v reads)
  unfolding fates_of
  late-told [] b late = All-nil IsLimitBehind
  late-told (read ∷ rest) b late =
      let r : Result Book Refusal = read.row >>= try_row p how b s v in
      All-cons IsLimitBehind (fate_of b read.line r).1 (fates_of p how (fate_of b read.line r).0 s v rest)
      (late-fate b read (All-head IsRead read rest late)) (late-told rest (fate_of b read.line r).0 (All-tail IsRead read rest late))

pub late-limit : OneTooManyIsLimit
unfolding all_rows_of_body
late-limit p how b s v body =
    late-told p how s v (take (MAX_ROWS + 1) (rows_of_records p (records_of body))) b
    (All-take IsRead (MAX_ROWS + 1) (rows_of_records p (records_of body)) (late-all p (records_of body)))

-- ---- row by row

same_first : {X : Type 0} (x y : X) (xs ys : List X) → x ∷ xs ≡ y ∷ ys → x ≡ y
same_first x y xs ys e = cc

same_rest : {X : Type 0} (x y : X) (xs ys : List X) → x ∷ xs ≡ y ∷ ys → xs ≡ ys
same_rest x y xs ys e = cc

same_ok : (x y : Book) → ◌≡◌ {A = Result Book RefusedAt} (Ok x) (Ok y) → x ≡ y
same_ok x y e = cc

module _ (p : Params) (how : Manner) (s v : Name) where
  abbrev done_by : Book → Result Row Refusal → Result Book Refusal
  done_by b r = r >>= try_row p how b s v

  abbrev fates : Book → List RowRead → List FateRow
  fates b reads = fates_of p how b s v reads

  abbrev after : Book → List RowRead → Book
  after b reads = after_fates p how b s v reads

  abbrev run : Book → List RowRead → Result Book RefusedAt
  run b reads = try_rows p how b s v reads

  fates-none : (b : Book) → fates b [] ≡ []
  unfolding fates_of
  fates-none b = refl

  after-none : (b : Book) → after b [] ≡ b
  unfolding after_fates
  after-none b = refl

  fates-one : (b d : Book) (read : RowRead) (rest : List RowRead) → done_by b read.row ≡ Ok d → fates b (read ∷ rest) ≡ record { line = read.line; refusal = None } ∷ fates d rest
  unfolding fates_of fate_of
  fates-one b d read rest is = ap (λ r. (fate_of b read.line r).1 ∷ fates (fate_of b read.line r).0 rest) is

  fates-refused : (b : Book) (e : Refusal) (read : RowRead) (rest : List RowRead) → done_by b read.row ≡ Err e → fates b (read ∷ rest) ≡ record { line = read.line; refusal = Some e } ∷ fates b rest
  unfolding fates_of fate_of
  fates-refused b e read rest is = ap (λ r. (fate_of b read.line r).1 ∷ fates (fate_of b read.line r).0 rest) is

  after-one : (b d : Book) (read : RowRead) (rest : List RowRead) → done_by b read.row ≡ Ok d → after b (read ∷ rest) ≡ after d rest
  unfolding after_fates fate_of
  after-one b d read rest is = ap (λ r. after (fate_of b read.line r).0 rest) is

  after-refused : (b : Book) (e : Refusal) (read : RowRead) (rest : List RowRead) → done_by b read.row ≡ Err e → after b (read ∷ rest) ≡ after b rest
  unfolding after_fates fate_of
  after-refused b e read rest is = ap (λ r. after (fate_of b read.line r).0 rest) is

-- rows together, one by one
run-none : (p : Params) (how : Manner) (s v : Name) (b : Book) → try_rows p how b s v [] ≡ Ok b
unfolding act_rows replace_rows
run-none p (manner.Replace whole) s v b = refl
run-none p manner.Import s v b = refl

run-each : (p : Params) (how : Manner) (s v : Name) (b : Book) (read : RowRead) (rest : List RowRead) →
    try_rows p how b s v (read ∷ rest) ≡ (at_line read.line (read.row >>= try_row p how b s v) >>= (λ d. try_rows p how d s v rest))
unfolding act_rows replace_rows
run-each p (manner.Replace whole) s v b read rest = refl
run-each p manner.Import s v b read rest = refl

module _ (p : Params) (how : Manner) (s v : Name) where
  run-one : (b d : Book) (read : RowRead) (rest : List RowRead) → done_by p how s v b read.row ≡ Ok d → run p how s v b (read ∷ rest) ≡ run p how s v d rest
  unfolding at_line ◌>>=◌
  run-one b d read rest is = run-each p how s v b read rest ∙ ap (λ (r : Result Book Refusal). at_line read.line r >>= (λ d. try_rows p how d s v rest)) is

  -- the rows that are done
  abbrev kept_of : Book → List RowRead → List RowRead
  kept_of b reads = done_rows reads (fates p how s v b reads)

  abbrev rows_in : List RowRead → List (Result Row Refusal)
  rows_in reads = map (λ read. read.row) reads

  abbrev Without : Book → List RowRead → List RowRead → Type 0
  Without b reads kept = IsDoneWithout p how b s v reads kept

  abbrev IsDone : FateRow → Type 0
  IsDone fate = fate.refusal ≡ None

  without-none : (b : Book) (kept : List RowRead) → rows_in kept ≡ [] → Without b [] kept
  without-none b [] same = record {
    done = subst (All IsDone) (sym (fates-none p how s v b)) (All-nil IsDone);
    same = refl;
    together = run-none p how s v b ∙ ap Ok (sym (after-none p how s v b));
  }
  without-none b (k ∷ ks) same = cc

  without-one : (b d : Book) (read : RowRead) (rest : List RowRead) → done_by p how s v b read.row ≡ Ok d →
      ((kept : List RowRead) → rows_in kept ≡ rows_in (kept_of d rest) → Without d rest kept) →
      (kept : List RowRead) → rows_in kept ≡ read.row ∷ rows_in (kept_of d rest) → Without b (read ∷ rest) kept
  without-one b d read rest is more [] same = cc
  without-one b d read rest is more (k ∷ ks) same =
      let here : done_by p how s v b k.row ≡ Ok d = ap (done_by p how s v b) (same_first k.row read.row (rows_in ks) (rows_in (kept_of d rest)) same) ∙ is in
      let others = more ks (same_rest k.row read.row (rows_in ks) (rows_in (kept_of d rest)) same) in
      record {
        done = subst (All IsDone) (sym (fates-one p how s v b d k ks here)) (All-cons IsDone (record { line = k.line; refusal = None }) (fates p how s v d ks) refl others.done);
        same = after-one p how s v b d k ks here ∙ others.same ∙ sym (after-one p how s v b d read rest is);
        together = run-one b d k ks here ∙ others.together ∙ ap Ok (sym (after-one p how s v b d read rest is));
      }

  without-each : (b : Book) (read : RowRead) (rest : List RowRead) (kept : List RowRead) (o : Result Book Refusal) → done_by p how s v b read.row ≡ o →
      ((d : Book) (kept : List RowRead) → rows_in kept ≡ rows_in (kept_of d rest) → Without d rest kept) →
      rows_in kept ≡ rows_in (kept_of b (read ∷ rest)) → Without b (read ∷ rest) kept
  without-each b read rest kept (Ok d) is more same =
      without-one b d read rest is (more d) kept (same ∙ ap (λ fs. rows_in (done_rows (read ∷ rest) fs)) (fates-one p how s v b d read rest is))
  without-each b read rest kept (Err e) is more same =
      let others = more b kept (same ∙ ap (λ fs. rows_in (done_rows (read ∷ rest) fs)) (fates-refused p how s v b e read rest is)) in
      let still = after-refused p how s v b e read rest is in
      record {
        done = others.done;
        same = others.same ∙ sym still;
        together = others.together ∙ ap Ok (sym still);
      }

  without : (reads : List RowRead) (b : Book) (kept : List RowRead) → rows_in kept ≡ rows_in (kept_of b reads) → Without b reads kept
  without [] b kept same = without-none b kept (same ∙ ap (λ fs. rows_in (done_rows [] fs)) (fates-none p how s v b))
  without (read ∷ rest) b kept same = without-each b read rest kept (done_by p how s v b read.row) refl (λ d kept same. without rest d kept same) same

  -- what follows done_by on what was left
  fates-append : (front : List RowRead) (b : Book) (rest : List RowRead) → fates p how s v b (front ++ rest) ≡ fates p how s v b front ++ fates p how s v (after p how s v b front) rest
  unfolding fates_of after_fates
  fates-append [] b rest = refl
  fates-append (read ∷ front) b rest =
      let r = done_by p how s v b read.row in
      ap (λ l. (fate_of b read.line r).1 ∷ l) (fates-append front (fate_of b read.line r).0 rest)

  fate-is : (d : Book) (line : ℕ) (r : Result Book Refusal) → (fate_of d line r).1 ≡ record { line = line; refusal = refusal_in r }
  unfolding fate_of
  fate-is d line (Ok x) = refl
  fate-is d line (Err e) = refl

  fates-last : (d : Book) (read : RowRead) → fates p how s v d (read ∷ []) ≡ record { line = read.line; refusal = refusal_in (done_by p how s v d read.row) } ∷ []
  unfolding fates_of
  fates-last d read = ap (λ f. f ∷ []) (fate-is d read.line (done_by p how s v d read.row))

pub refused-leave_nothing : RefusedRowsLeaveNothing
refused-leave_nothing p how b s v reads kept same = without p how s v reads b kept same

pub each-fate : EachFateIsItsRows
each-fate p how b d s v front read left =
    let whole = without p how s v front b (done_rows front (fates_of p how b s v front)) refl in
    let same : d ≡ after_fates p how b s v front = same_ok d (after_fates p how b s v front) (sym left ∙ whole.together) in
    fates-append p how s v front b (read ∷ [])
    ∙ ap (λ x. fates_of p how b s v front ++ fates_of p how x s v (read ∷ [])) (sym same)
    ∙ ap (λ l. fates_of p how b s v front ++ l) (fates-last p how s v d read)
