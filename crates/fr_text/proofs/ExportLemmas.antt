-- An export's file, of records that are words and are read as their rows: what the import reader makes of it, and how
-- many bytes it has.
use Rattle.std.proofs.Common.{◌≡◌, ◌∙◌, ap, refl, ℕ, zero, suc, ◌+◌, ◌-◌, ◌*◌, ◌≤◌, Bool, true, false, List, [], ◌∷◌, ◌++◌, map, length, Some, Ok, arith, add-one, length-append}
use Rattle.std.specs.Prelude.{⊤, codes, nat_le}
use Rattle.std.specs.List.{AllByRecursion}
use Rattle.std.proofs.lemmas.Bool.{leb-true}
use Rattle.std.proofs.lemmas.List.{length-map}
use Rattle.fr_base.specs.Exports.{fitting, part_of}
use Rattle.fr_base.specs.ImportRows.{header_in, header_of, header_of_body, records_of, row_of, rows_below, rows_from, rows_of_body, rows_of_records, spelled, up_to_refused}
use Rattle.fr_base.specs.declared.limits.TheConstants.{MAX_ROWS}
use Rattle.fr_base.specs.declared.import.Header.{Header}
use Rattle.fr_base.specs.declared.import.Header.TheVariants.{Frames, Placements, Signals}
use Rattle.fr_base.specs.declared.import.Row.{Row}
use Rattle.fr_base.specs.declared.params.Params.{Params}
use Rattle.csv.specs.Reading.{default_config, records_from, strip_bom}
use Rattle.csv.specs.declared.parser.State.TheVariants as st
use Rattle.fr_text.specs.ExportLaws.{read_from}
use Rattle.fr_text.specs.Styles.{plain_lines}
use Rattle.fr_text.specs.Words.{comma_line, comma_behind}
use Rattle.fr_text.proofs.FileLemmas.{IsRecord, records_read, lines_count}
use Rattle.fr_text.proofs.ImportTextLemmas.{body-rows, rows-next}

-- ---- parts

pub all_append : {X : Type 0} (P : X → Type 0) (xs ys : List X) → AllByRecursion P xs → AllByRecursion P ys → AllByRecursion P (xs ++ ys)
all_append P [] ys h k = k
all_append P (x ∷ xs) ys h k = (h.0, all_append P xs ys h.1 k)

module _ {R : Type 0} (P : R → Type 0) where
  fitting_all : (room : ℕ) (lists : List (List R)) → AllByRecursion (AllByRecursion P) lists
      → AllByRecursion P (fitting room lists).0 × AllByRecursion (AllByRecursion P) (fitting room lists).1
  unfolding fitting
  fitting_all room [] h = (tt, tt)
  fitting_all room (records ∷ rest) h = by (nat_le (length records) room) refl (fitting_all (room - length records) rest h.1)
    where
      by : (b : Bool) → nat_le (length records) room ≡ b
          → AllByRecursion P (fitting (room - length records) rest).0 × AllByRecursion (AllByRecursion P) (fitting (room - length records) rest).1
          → AllByRecursion P (fitting room (records ∷ rest)).0 × AllByRecursion (AllByRecursion P) (fitting room (records ∷ rest)).1
      by true e more = rw e (all_append P records _ h.0 more.0, more.1)
      by false e more = rw e (tt, h)

  -- what holds of the records of all frames holds of those of a part
  pub part_all : (part : ℕ) (lists : List (List R)) → AllByRecursion (AllByRecursion P) lists → AllByRecursion P (part_of part lists)
  unfolding part_of
  part_all zero lists h = (fitting_all MAX_ROWS lists h).0
  part_all (suc n) lists h = part_all n (fitting MAX_ROWS lists).1 (fitting_all MAX_ROWS lists h).1

module _ {R : Type 0} where
  fitting_few : (room : ℕ) (lists : List (List R)) → length (fitting room lists).0 ≤ room
  unfolding fitting
  fitting_few room [] = omega arith
  fitting_few room (records ∷ rest) = by (nat_le (length records) room) refl (fitting_few (room - length records) rest)
    where
      by : (b : Bool) → nat_le (length records) room ≡ b → length (fitting (room - length records) rest).0 ≤ room - length records → length (fitting room (records ∷ rest)).0 ≤ room
      by true e more =
          let within : length records ≤ room = leb-true (length records) room e in
          rw (e, length-append records (fitting (room - length records) rest).0) (omega (arith, within, more))
      by false e more = rw e (omega arith)

  -- a part has at most 512 records
  pub part_few : (part : ℕ) (lists : List (List R)) → length (part_of part lists) ≤ MAX_ROWS
  unfolding part_of
  part_few zero lists = fitting_few MAX_ROWS lists
  part_few (suc n) lists = part_few n (fitting MAX_ROWS lists).1

-- ---- the file

-- the lines of a header and of records with these fields
abbrev pub file_text : Header → List (List (List ℕ)) → List ℕ
file_text header records = plain_lines (comma_line (spelled header) ∷ map comma_line records)

header_words : (header : Header) → IsRecord (spelled header)
header_words Frames = (refl, (refl, tt))
header_words Placements = (refl, (refl, (refl, (refl, (refl, (refl, tt))))))
header_words Signals = (refl, (refl, (refl, (refl, (refl, tt)))))

header_is : (header : Header) → header_of (spelled header) ≡ Some header
unfolding header_of
header_is Frames = refl
header_is Placements = refl
header_is Signals = refl

no_mark : (header : Header) (records : List (List (List ℕ))) → strip_bom (file_text header records) ≡ file_text header records
unfolding strip_bom plain_lines
no_mark Frames records = refl
no_mark Placements records = refl
no_mark Signals records = refl

-- its records are the header and these
records_are : (header : Header) (records : List (List (List ℕ))) → AllByRecursion IsRecord records → records_of (file_text header records) ≡ spelled header ∷ records
unfolding records_of
records_are header records h =
    let lines = map comma_line (spelled header ∷ records) in
    let count : length lines ≡ length (spelled header ∷ records) = length-map (spelled header ∷ records) comma_line in
    let few : length lines ≤ length (plain_lines lines) = lines_count lines in
    ap (λ text. records_from default_config (length text + 1) st.StartRecord text) (no_mark header records)
    ∙ records_read (spelled header ∷ records) (length (file_text header records) + 1) (header_words header, h) (omega (arith, count, few))

-- so it begins with this header, whether or not records follow
pub file_header : (header : Header) (records : List (List (List ℕ))) → AllByRecursion IsRecord records → header_of_body (file_text header records) ≡ Some header
unfolding header_of_body
file_header header records h = ap header_in (records_are header records h) ∙ header_is header

module _ {R : Type 0} (p : Params) (header : Header) (fields : R → List (List ℕ)) (row : R → Row) where
  rows_are : (line : ℕ) (records : List R) → line + length records ≤ 514 → AllByRecursion (λ r. row_of p header (fields r) ≡ Ok (row r)) records
      → up_to_refused (rows_from p header line (map fields records)) ≡ read_from line (map row records)
  unfolding up_to_refused rows_from read_from
  rows_are line [] fits h = refl
  rows_are line (r ∷ records) fits h =
      let here : line ≤ 513 = omega (arith, fits) in
      let rest : up_to_refused (rows_from p header (suc line) (map fields records)) ≡ read_from (suc line) (map row records) = rows_are (suc line) records (omega (arith, fits)) h.1 in
      rows-next p header line (fields r) (map fields records) here ∙ rw (h.0, add-one, rest) refl

  -- the import reader gives the records' rows
  pub file_read : (records : List R) → length records ≤ MAX_ROWS → AllByRecursion (λ r. IsRecord (fields r)) records
      → AllByRecursion (λ r. row_of p header (fields r) ≡ Ok (row r)) records
      → rows_of_body p (file_text header (map fields records)) ≡ read_from 2 (map row records)
  unfolding rows_of_records
  file_read records few words reads =
      let all : AllByRecursion IsRecord (map fields records) = all_mapped records words in
      body-rows p (file_text header (map fields records)) (map fields records) header
      (ap (rows_of_records p) (records_are header (map fields records) all) ∙ ap (λ h. rows_below p h (map fields records)) (header_is header))
      ∙ rows_are 2 records (omega (arith, few)) reads
    where
      all_mapped : (rs : List R) → AllByRecursion (λ r. IsRecord (fields r)) rs → AllByRecursion IsRecord (map fields rs)
      all_mapped [] h = tt
      all_mapped (r ∷ rs) h = (h.0, all_mapped rs h.1)

-- ---- bytes

-- the bytes of fields with a comma before each
abbrev pub sizes : List (List ℕ) → ℕ
sizes [] = 0
sizes (x ∷ rest) = suc (length x + sizes rest)

sizes_are : (fields : List (List ℕ)) → length (comma_behind fields) ≡ sizes fields
sizes_are [] = refl
sizes_are (x ∷ rest) = ap suc (length-append x (comma_behind rest) ∙ ap (λ n. length x + n) (sizes_are rest))

line_size : (x : List ℕ) (rest : List (List ℕ)) → length (comma_line (x ∷ rest)) ≡ length x + sizes rest
line_size x rest = length-append x (comma_behind rest) ∙ ap (λ n. length x + n) (sizes_are rest)

-- a record is short where its fields have few bytes
abbrev pub IsShort : List (List ℕ) → Type 0
IsShort [] = ⊤
IsShort (x ∷ rest) = length x + sizes rest ≤ 110

short : (fields : List (List ℕ)) → IsShort fields → length (comma_line fields) ≤ 110
short [] h = omega arith
short (x ∷ rest) h = let size = line_size x rest in omega (arith, size, h)

lines_short : (records : List (List (List ℕ))) → AllByRecursion IsShort records → length (plain_lines (map comma_line records)) ≤ 111 * length records
unfolding plain_lines
lines_short [] h = omega arith
lines_short (fields ∷ records) h =
    let here = short fields h.0 in
    let more = lines_short records h.1 in
    let size : length (plain_lines (map comma_line (fields ∷ records))) ≡ length (comma_line fields ++ codes "\n") + length (plain_lines (map comma_line records)) =
    length-append (comma_line fields ++ codes "\n") (plain_lines (map comma_line records)) in
    let end : length (comma_line fields ++ codes "\n") ≡ length (comma_line fields) + 1 = length-append (comma_line fields) (codes "\n") in
    omega (arith, here, more, size, end)

header_short : (header : Header) → IsShort (spelled header)
header_short Frames = omega arith
header_short Placements = omega arith
header_short Signals = omega arith

-- a file of few short records is short
pub file_short : (header : Header) (records : List (List (List ℕ))) → length records ≤ MAX_ROWS → AllByRecursion IsShort records → length (file_text header records) ≤ 65536
file_short header records few h =
    let all = lines_short (spelled header ∷ records) (header_short header, h) in
    omega (arith, few, all)
