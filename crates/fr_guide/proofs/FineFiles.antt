-- What is told of a file has no fault exactly where the file is no longer than an import may be, its
-- first record is a header, and below it stand at most 512 rows, each of which some cluster takes.
use Rattle.std.proofs.Common.{◌≡◌, ◌∙◌, ap, refl, sym, subst, ℕ, zero, suc, ◌≤◌, Bool, true, false, List, [], ◌∷◌, length, map, Option, Some, None, inl, inr, arith}
use Rattle.std.specs.Prelude.{◌&&◌, if◌then◌else◌, nat_lt}
use Rattle.std.specs.List.{AllByRecursion, list_all}
use Rattle.std.proofs.lemmas.Bool.{and_from, and_parts, cases_Bool, le-ltb, ltb-false}
use Rattle.fr_base.specs.ImportRows.{records_of}
use Rattle.fr_base.specs.declared.limits.TheConstants.{MAX_IMPORT_BYTES, MAX_ROWS}
use Rattle.fr_guide.proofs.TakenRows.{rows_are_taken}
use Rattle.fr_guide.specs.Faults.{all_fine, is_fine}
use Rattle.fr_guide.specs.FileKinds.{kind_of}
use Rattle.fr_guide.specs.Laws.{FineFilesAreTaken, IsFineFile, IsTaken}
use Rattle.fr_guide.specs.Rows.{fine_below, fine_file, fine_records, fine_rows, is_fine_row}
use Rattle.fr_guide.specs.declared.line_faults.LineFaults.{LineFaults}
use Rattle.fr_guide.specs.declared.rows.file_kind.FileKind.{FileKind}

-- whether all of the marks say so
abbrev all_true : List Bool → Bool
all_true marks = list_all (λ mark. mark) marks

all_marks : (told : List LineFaults) → all_fine told ≡ all_true (map is_fine told)
all_marks [] = refl
all_marks (one ∷ told) = ap (λ b. is_fine one && b) (all_marks told)

-- ---- rows below a header

rows-taken : (kind : FileKind) (room : ℕ) (rows : List (List (List ℕ))) → all_true (fine_rows kind room rows) ≡ true
    → (length rows ≤ room) × AllByRecursion (IsTaken kind) rows
unfolding fine_rows
rows-taken kind room [] fine = (omega arith, tt)
rows-taken kind zero (fields ∷ rows) fine = cc
rows-taken kind (suc room) (fields ∷ rows) fine =
    let parts = and_parts (is_fine_row kind fields) _ fine in
    let others = rows-taken kind room rows parts.1 in
    (omega (arith, others.0), ((rows_are_taken kind fields).taken parts.0, others.1))

rows-fine : (kind : FileKind) (room : ℕ) (rows : List (List (List ℕ))) → length rows ≤ room → AllByRecursion (IsTaken kind) rows
    → all_true (fine_rows kind room rows) ≡ true
unfolding fine_rows
rows-fine kind room [] few taken = refl
rows-fine kind zero (fields ∷ rows) few taken = absurd (omega (arith, few))
rows-fine kind (suc room) (fields ∷ rows) few taken =
    and_from (is_fine_row kind fields) _ ((rows_are_taken kind fields).fine taken.0) (rows-fine kind room rows (omega (arith, few)) taken.1)

-- ---- the file

below-taken : (bytes : List ℕ) (first : List (List ℕ)) (rows : List (List (List ℕ))) (kind : Option FileKind) → length bytes ≤ MAX_IMPORT_BYTES
    → records_of bytes ≡ first ∷ rows → kind_of first ≡ kind → all_true (fine_below kind rows) ≡ true → IsFineFile bytes
below-taken bytes first rows None short records known fine = cc
below-taken bytes first rows (Some kind) short records known fine =
    let taken = rows-taken kind MAX_ROWS rows fine in
    record { short = short; first = first; rows = rows; records = records; kind = kind; known = known; few = taken.0; taken = taken.1 }

records-taken : (bytes : List ℕ) (records : List (List (List ℕ))) → length bytes ≤ MAX_IMPORT_BYTES → records_of bytes ≡ records
    → all_true (fine_records records) ≡ true → IsFineFile bytes
unfolding fine_records
records-taken bytes [] short is fine = cc
records-taken bytes (first ∷ rows) short is fine = below-taken bytes first rows (kind_of first) short is refl fine

file-taken : (bytes : List ℕ) → all_true (fine_file bytes) ≡ true → IsFineFile bytes
unfolding fine_file
file-taken bytes fine = elim (cases_Bool (nat_lt MAX_IMPORT_BYTES (length bytes))) [
  | inl long ↦ (let none : all_true (if true then false ∷ [] else fine_records (records_of bytes)) ≡ true =
      subst (λ b. all_true (if b then false ∷ [] else fine_records (records_of bytes)) ≡ true) long fine in cc)
  | inr short ↦ records-taken bytes (records_of bytes) (ltb-false MAX_IMPORT_BYTES (length bytes) short) refl
      (subst (λ b. all_true (if b then false ∷ [] else fine_records (records_of bytes)) ≡ true) short fine)
]

file-fine : (bytes : List ℕ) → IsFineFile bytes → all_true (fine_file bytes) ≡ true
unfolding fine_file fine_records
file-fine bytes file =
    let short : nat_lt MAX_IMPORT_BYTES (length bytes) ≡ false = le-ltb MAX_IMPORT_BYTES (length bytes) file.short in
    rw short (rw file.records (rw file.known (rows-fine file.kind MAX_ROWS file.rows file.few file.taken)))

pub files_are_taken : FineFilesAreTaken
files_are_taken bytes told (marks, order) =
    let same : all_fine told ≡ all_true (fine_file bytes) = all_marks told ∙ ap all_true marks in
    (λ fine. file-taken bytes (sym same ∙ fine), λ file. same ∙ file-fine bytes file)
