-- Laws of fates: a trial tells the lines of a file in turn, to its end. Each row's fate is what
-- the row does where the done rows before it have left the book; a refused one leaves nothing.
use Rattle.std.specs.Prelude.{◌≡◌, ◌+◌, ℕ, false, List, [], ◌∷◌, ◌++◌, length, map, take, nat_lt, Option, Some, None, is_none, is_some, Result, Ok, Err, IsTrue, All, if◌then◌else◌}
use Rattle.std.specs.List.{range_with_len}
use Rattle.fr_base.specs.Refusing.{◌>>=◌}
use Rattle.fr_base.specs.Tables.{get}
use Rattle.fr_base.specs.Names.{is_name}
use Rattle.fr_base.specs.Cluster.{Cluster}
use Rattle.fr_base.specs.Book.{Variant, Book}
use Rattle.fr_base.specs.ImportRows.{header_of, header_of_body, records_of, rows_of_body, all_rows_of_body}
use Rattle.fr_base.specs.Step.{RefusedAt, act_rows, replace_rows, try_row, fate_of, fates_of, tried, knows, step}
use Rattle.fr_base.specs.declared.limits.TheConstants.{MAX_ROWS, MAX_IMPORT_BYTES}
use Rattle.fr_base.specs.declared.answer.Answer.{Answer}
use Rattle.fr_base.specs.declared.answer.Answer.TheVariants.{Report, Refused}
use Rattle.fr_base.specs.declared.answer.FateRow.{FateRow}
use Rattle.fr_base.specs.declared.answer.ReportRows.TheVariants as rows
use Rattle.fr_base.specs.declared.import.Row.{Row}
use Rattle.fr_base.specs.declared.import.RowRead.{RowRead}
use Rattle.fr_base.specs.declared.name.Name.{Name}
use Rattle.fr_base.specs.declared.params.Params.{Params}
use Rattle.fr_base.specs.declared.refusal.Refusal.{Refusal}
use Rattle.fr_base.specs.declared.refusal.Refusal.TheVariants.{NoVariant, Released, Limit}
use Rattle.fr_base.specs.declared.actor.Actor.TheVariants.{Supplier}
use Rattle.fr_base.specs.declared.delivery.Manner.{Manner}
use Rattle.fr_base.specs.declared.delivery.Manner.TheVariants as manner
use Rattle.fr_base.specs.declared.request.Request.TheVariants.{Deliver}
use Rattle.fr_base.specs.declared.delivery.Purpose.TheVariants as purpose

-- ---- the answer

-- the fates of all rows of a body, in a variant that is there
abbrev pub fates_in : Params → Manner → Book → Name → Name → List ℕ → Variant → List FateRow
fates_in p how b s v body x =
    fates_of p how (tried how b s v x (header_of_body body) (rows_of_body p body)) s v (all_rows_of_body p body)

-- What a supplier is answered of a trial. It is refused where the variant is not there, else
-- where it is released, else where the file is too long; else the fates of all rows are told.
abbrev pub trial_told : Params → Manner → Book → Name → Name → List ℕ → Option Variant → Answer
trial_told p how b s v body None = Refused NoVariant
trial_told p how b s v body (Some x) =
    if x.released then Refused Released
    else if nat_lt MAX_IMPORT_BYTES (length body) then Refused Limit
    else Report false (rows.Fates (fates_in p how b s v body x))

-- In any book a supplier that is known, and names a variant in its form, is told that, and the
-- book stays.
abbrev pub TrialIsTold : Type 0
TrialIsTold = (c : Cluster) (b : Book) (s : Name) (v body : List ℕ) (how : Manner) →
    IsTrue (knows b (Supplier s)) → IsTrue (is_name v) →
    step c b (Supplier s) (Deliver v (purpose.Trial how) body)
    ≡ record { book = b; answer = trial_told c.params how b s v body (get b.variants v) }

-- ---- lines

-- the lines that are told of a file's records: below a header from 2 on, to the file's end, but
-- at most one more than 512; else line 1 alone
abbrev pub lines_of : List (List (List ℕ)) → List ℕ
lines_of [] = 1 ∷ []
lines_of (first ∷ records) =
    if is_some (header_of first) then take (MAX_ROWS + 1) (range_with_len 2 (length records))
    else 1 ∷ []

-- The lines are told in turn, each once, to the file's end.
abbrev pub LinesAreInTurn : Type 0
LinesAreInTurn = (p : Params) (how : Manner) (b : Book) (s v : Name) (body : List ℕ) →
    map (λ row. row.line) (fates_of p how b s v (all_rows_of_body p body))
    ≡ lines_of (records_of body)

-- a row whose line comes after 512 rows is refused as Limit
abbrev pub IsLimitBehind : FateRow → Type 0
IsLimitBehind row = IsTrue (nat_lt (MAX_ROWS + 1) row.line) → row.refusal ≡ Some Limit

-- A row behind 512 rows is one too many, whatever it holds.
abbrev pub OneTooManyIsLimit : Type 0
OneTooManyIsLimit = (p : Params) (how : Manner) (b : Book) (s v : Name) (body : List ℕ) →
    All IsLimitBehind (fates_of p how b s v (all_rows_of_body p body))

-- ---- each row

-- why it was refused, if it was
abbrev pub refusal_in : Result Book Refusal → Option Refusal
refusal_in (Ok after) = None
refusal_in (Err refusal) = Some refusal

-- what becomes of a row on this book
abbrev pub fate_on : Params → Manner → Book → Name → Name → RowRead → FateRow
fate_on p how b s v read =
    record { line = read.line; refusal = refusal_in (read.row >>= try_row p how b s v) }

-- the rows whose fate is to be done
abbrev pub done_rows : List RowRead → List FateRow → List RowRead
done_rows (read ∷ rest) (fate ∷ fates) =
    if is_none fate.refusal then read ∷ done_rows rest fates else done_rows rest fates
done_rows _ _ = []

-- the rows without those that are refused
abbrev pub without_refused : Params → Manner → Book → Name → Name → List RowRead → List RowRead
without_refused p how b s v reads = done_rows reads (fates_of p how b s v reads)

-- what the rows of an import or of a replacement do in turn, up to the first refused one
abbrev pub try_rows : Params → Manner → Book → Name → Name → List RowRead → Result Book RefusedAt
try_rows p (manner.Replace whole) b s v reads = replace_rows p b s v reads
try_rows p manner.Import b s v reads = act_rows p b s v reads

-- A row's fate is what becomes of it on the book that those rows before it which are done have
-- left.
abbrev pub EachFateIsItsRows : Type 0
EachFateIsItsRows = (p : Params) (how : Manner) (b d : Book) (s v : Name)
    (front : List RowRead) (read : RowRead) →
    try_rows p how b s v (without_refused p how b s v front) ≡ Ok d →
    fates_of p how b s v (front ++ read ∷ [])
    ≡ fates_of p how b s v front ++ fate_on p how d s v read ∷ []

-- ---- a refused row

-- the book after the rows in turn, where each does what its fate tells
unfoldable pub after_fates : Params → Manner → Book → Name → Name → List RowRead → Book
after_fates p how b s v [] = b
after_fates p how b s v (read ∷ rest) =
    after_fates p how (fate_of b read.line (read.row >>= try_row p how b s v)).0 s v rest

-- Without the refused rows each of the others is done. Their whole list is done too, and the book
-- after it is the same.
pub record IsDoneWithout (p : Params) (how : Manner) (b : Book) (s v : Name)
    (reads kept : List RowRead) : Type 0 where
  pub done : All (λ fate. fate.refusal ≡ None) (fates_of p how b s v kept)
  pub same : after_fates p how b s v kept ≡ after_fates p how b s v reads
  pub together : try_rows p how b s v kept ≡ Ok (after_fates p how b s v reads)

-- the rows of a file, without their lines
abbrev pub rows_alone : List RowRead → List (Result Row Refusal)
rows_alone reads = map (λ read. read.row) reads

-- A refused row leaves nothing. Where a file has the done rows alone, at whatever lines, all is as
-- it was with the refused rows between them.
abbrev pub RefusedRowsLeaveNothing : Type 0
RefusedRowsLeaveNothing = (p : Params) (how : Manner) (b : Book) (s v : Name)
    (reads kept : List RowRead) →
    rows_alone kept ≡ rows_alone (without_refused p how b s v reads) →
    IsDoneWithout p how b s v reads kept
