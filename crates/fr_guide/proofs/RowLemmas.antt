-- What the first record of a file says of what is told.
use Rattle.std.proofs.Common.{◌≡◌, ◌∙◌, ap, sym, subst, refl, ℕ, zero, suc, ◌≤◌, ◌<◌, ◌-◌, ◌++◌, append_assoc, append-nil, length, arith, Bool, true, false, List, [], ◌∷◌, map, Some, None, Result, Ok, Err}
use Rattle.std.specs.Prelude.{IfOk, if◌then◌else◌}
use Rattle.std.proofs.lemmas.Bool.{lt-ltb}
use Rattle.std.proofs.lemmas.List.{map-append}
use Rattle.std.specs.Global.{Vec}
use Rattle.fr_base.specs.ImportRows.{records_of}
use Rattle.fr_base.specs.declared.limits.TheConstants.{MAX_IMPORT_BYTES, MAX_ROWS}
use Rattle.fr_guide.specs.Faults.{is_fine}
use Rattle.fr_guide.specs.FileKinds.{kind_of}
use Rattle.fr_guide.proofs.LineLemmas.{one_in_order}
use Rattle.fr_guide.specs.Rows.{AreInOrder, AreToldOfRows, fine_file, fine_records, fine_rows, is_fine_row, line_count, numbers_of}
use Rattle.fr_guide.specs.declared.line_faults.LineFaults.{LineFaults}
use Rattle.fr_guide.specs.declared.rows.file_kind.FileKind.{FileKind}

-- of one line is told as is asked
pub marks_are : {E : Type 0} (r : Result (Vec LineFaults) E) (fine : Bool) (asked : List Bool) → IfOk r (λ told. map is_fine told.items ≡ fine ∷ []) → fine ∷ [] ≡ asked
    → IfOk r (λ told. map is_fine told.items ≡ asked)
marks_are (Ok told) fine asked marks is = marks ∙ is
marks_are (Err error) fine asked marks is = tt

-- and it is one of the file's
pub lines_are : {E : Type 0} (r : Result (Vec LineFaults) E) (line most : ℕ) → IfOk r (λ told. numbers_of told.items ≡ line ∷ []) → 1 ≤ line → line ≤ most
    → IfOk r (λ told. AreInOrder 1 most (numbers_of told.items))
lines_are (Ok told) line most is least within = subst (AreInOrder 1 most) (sym is) (one_in_order 1 line most least within)
lines_are (Err error) line most is least within = tt

-- a file without a record
pub no_record : (bytes : List ℕ) (fields : List (List ℕ)) (records rest : List (List (List ℕ))) (found : Bool) → records ≡ records_of bytes
    → records ≡ (if found then fields ∷ rest else []) → found ≡ false → false ∷ [] ≡ fine_records (records_of bytes)
unfolding fine_records
no_record bytes fields records rest found all read none =
    let empty : records_of bytes ≡ [] = sym all ∙ read ∙ ap (λ b. if b then fields ∷ rest else []) none in
    rw empty refl

-- one whose first record is no header
pub no_header : (bytes : List ℕ) (fields : List (List ℕ)) (records rest : List (List (List ℕ))) (found : Bool) → records ≡ records_of bytes
    → records ≡ (if found then fields ∷ rest else []) → found ≡ true → kind_of fields ≡ None → false ∷ [] ≡ fine_records (records_of bytes)
unfolding fine_records
no_header bytes fields records rest found all read some none =
    let first : records_of bytes ≡ fields ∷ rest = sym all ∙ read ∙ ap (λ b. if b then fields ∷ rest else []) some in
    rw first (rw none refl)

-- one whose first record is
pub a_header : (bytes : List ℕ) (fields : List (List ℕ)) (records rest : List (List (List ℕ))) (found : Bool) (kind : FileKind) → records ≡ records_of bytes
    → records ≡ (if found then fields ∷ rest else []) → found ≡ true → kind_of fields ≡ Some kind
    → true ∷ fine_rows kind MAX_ROWS rest ≡ fine_records (records_of bytes)
unfolding fine_records
a_header bytes fields records rest found kind all read some is =
    let first : records_of bytes ≡ fields ∷ rest = sym all ∙ read ∙ ap (λ b. if b then fields ∷ rest else []) some in
    rw first (rw is refl)

-- what is told of the header, and then of the records below it
pub all_told : (all old below asked : List Bool) → all ≡ old ++ below → old ≡ true ∷ [] → true ∷ below ≡ asked → all ≡ asked
all_told all old below asked grew header is = grew ∙ ap (λ l. l ++ below) header ∙ is

-- ---- rows below a header

-- what is told of a record, before what is asked of the others
pub next_row : (told new : List LineFaults) (one : LineFaults) (left more asked : List Bool) → new ≡ told ++ one ∷ [] → map is_fine told ++ left ≡ asked
    → left ≡ is_fine one ∷ more → map is_fine new ++ more ≡ asked
next_row told new one left more asked grew so is =
    ap (λ l. map is_fine l ++ more) grew ∙ ap (λ l. l ++ more) (map-append is_fine told (one ∷ [])) ∙ append_assoc (map is_fine told) (is_fine one ∷ []) more
    ∙ ap (λ l. map is_fine told ++ l) (sym is) ∙ so

-- and where nothing is asked of others
pub last_row : (told new : List LineFaults) (one : LineFaults) (left asked : List Bool) → new ≡ told ++ one ∷ [] → map is_fine told ++ left ≡ asked
    → left ≡ is_fine one ∷ [] → map is_fine new ≡ asked
last_row told new one left asked grew so is = sym (append-nil (map is_fine new)) ∙ next_row told new one left [] asked grew so is

-- nothing more is asked
pub no_more : (told : List LineFaults) (left asked : List Bool) → map is_fine told ++ left ≡ asked → left ≡ [] → map is_fine told ≡ asked
no_more told left asked so none = sym (append-nil (map is_fine told)) ∙ ap (λ l. map is_fine told ++ l) (sym none) ∙ so

-- a record is one row too many
pub too_many : (kind : FileKind) (room : ℕ) (fields : List (List ℕ)) (records rest : List (List (List ℕ))) (found fine : Bool)
    → records ≡ (if found then fields ∷ rest else []) → found ≡ true → room ≡ 0 → fine ≡ false → fine_rows kind room records ≡ fine ∷ []
unfolding fine_rows
too_many kind room fields records rest found fine read is none not = rw (read, is, none, not) refl

-- it is a row
pub a_row : (kind : FileKind) (room : ℕ) (fields : List (List ℕ)) (records rest : List (List (List ℕ))) (found fine : Bool)
    → records ≡ (if found then fields ∷ rest else []) → found ≡ true → 1 ≤ room → fine ≡ is_fine_row kind fields
    → fine_rows kind room records ≡ fine ∷ fine_rows kind (room - 1) rest
unfolding fine_rows
a_row kind zero fields records rest found fine read is some same = absurd (omega (arith, some))
a_row kind (suc room) fields records rest found fine read is some same =
    let one_less : room ≡ suc room - 1 = omega arith in
    ap (fine_rows kind (suc room)) (read ∙ ap (λ b. if b then fields ∷ rest else []) is)
    ∙ ap (λ b. b ∷ fine_rows kind room rest) (sym same) ∙ ap (λ n. fine ∷ fine_rows kind n rest) one_less

-- there is none
pub no_row : (kind : FileKind) (room : ℕ) (fields : List (List ℕ)) (records rest : List (List (List ℕ))) (found : Bool)
    → records ≡ (if found then fields ∷ rest else []) → found ≡ false → fine_rows kind room records ≡ []
unfolding fine_rows
no_row kind room fields records rest found read is = ap (fine_rows kind room) (read ∙ ap (λ b. if b then fields ∷ rest else []) is)

-- ---- a file that is too long

pub long_file : (bytes : List ℕ) → MAX_IMPORT_BYTES < length bytes → false ∷ [] ≡ fine_file bytes
unfolding fine_file
long_file bytes long = rw (lt-ltb MAX_IMPORT_BYTES (length bytes) long) refl

pub told_long : {E : Type 0} (r : Result (Vec LineFaults) E) (bytes : List ℕ) (line : ℕ) → IfOk r (λ told. map is_fine told.items ≡ false ∷ [])
    → IfOk r (λ told. numbers_of told.items ≡ line ∷ []) → false ∷ [] ≡ fine_file bytes → 1 ≤ line → line ≤ line_count bytes
    → IfOk r (λ told. AreToldOfRows bytes told.items)
told_long (Ok told) bytes line marks is asked least within =
    (marks ∙ asked, subst (AreInOrder 1 (line_count bytes)) (sym is) (one_in_order 1 line (line_count bytes) least within))
told_long (Err error) bytes line marks is asked least within = tt
