-- Import's file: what its bytes say. One byte order mark is taken off, and the first record says which rows follow.
-- Each record is a row or its own refusal, up to the first refused one. There are at most 512 rows.
use Rattle.std.specs.Prelude.{ℕ, suc, ◌+◌, ◌^◌, ◌==◌, Bool, not, ◌&&◌, List, [], ◌∷◌, length, take, codes, nat_le, nat_lt, if◌then◌else◌, Option, Some, None, is_err, Result, Ok, Err}
use Rattle.std.specs.Cmp.Lexicographic.{pointwise}
use Rattle.std.specs.List.{list_all}
use Rattle.std.specs.Str.{is_utf8}
use Rattle.std.specs.Str.Parse.{digits_value}
use Rattle.csv.specs.Reading.{default_config, records, strip_bom}
use Rattle.csv.specs.Records.{field_at}
use Rattle.fr_base.specs.Refusing.{◌>>=◌, ◌>>◌, ◌or◌, refuse◌when◌}
use Rattle.fr_base.specs.Names.{same_text, is_digit}
use Rattle.fr_base.specs.Checks.{name, placement, signal}
use Rattle.fr_base.specs.declared.limits.TheConstants.{MAX_ROWS}
use Rattle.fr_base.specs.declared.import.Header.{Header}
use Rattle.fr_base.specs.declared.import.Header.TheVariants.{Frames, Placements, Signals}
use Rattle.fr_base.specs.declared.import.Row.{Row}
use Rattle.fr_base.specs.declared.import.Row.TheVariants.{AddFrame, Place, AddSignal}
use Rattle.fr_base.specs.declared.import.RowRead.{RowRead}
use Rattle.fr_base.specs.declared.params.Params.{Params}
use Rattle.fr_base.specs.declared.refusal.Refusal.{Refusal}
use Rattle.fr_base.specs.declared.refusal.Refusal.TheVariants.{BadText, Limit}

-- ---- the file

-- The records of a file, as `csv` reads them with its defaults: one byte order mark at the start is taken off; fields stand
-- between commas, and may stand in double quotes, inside which commas and ends of lines are the field's own and two quotes are one; a
-- record ends with LF, CR or CRLF, the last also with the file; empty lines are no records, and not counted; nothing is trimmed.
unfoldable pub records_of : List ℕ → List (List (List ℕ))
records_of body = records default_config (strip_bom body)

-- how the first record spells what the rows are
abbrev pub spelled : Header → List (List ℕ)
spelled Frames = codes "frame" ∷ codes "node" ∷ []
spelled Placements = codes "frame" ∷ codes "node" ∷ codes "slot" ∷ codes "channels" ∷ codes "base" ∷ codes "repetition" ∷ []
spelled Signals = codes "frame" ∷ codes "signal" ∷ codes "start" ∷ codes "length" ∷ codes "order" ∷ []

-- whether the record spells this header, field by field
abbrev pub spells : Header → List (List ℕ) → Bool
spells header fields = pointwise same_text fields (spelled header)

-- the header that a record is
unfoldable pub header_of : List (List ℕ) → Option Header
header_of fields =
    if spells Frames fields then Some Frames
    else if spells Placements fields then Some Placements
    else if spells Signals fields then Some Signals
    else None

-- ---- the fields of a row

-- the field at a place, counted from 0: a text
unfoldable pub text_at : List (List ℕ) → ℕ → Result (List ℕ) Refusal
text_at fields place = do
  field ← field_at fields place or BadText
  refuse BadText when not (is_utf8 field)
  Ok field

-- the number that a text is: 1 to 10 digits, with leading zeros or without, of at most 4,294,967,295
unfoldable pub number : List ℕ → Result ℕ Refusal
number text = do
  refuse BadText when not (nat_le 1 (length text) && nat_le (length text) 10)
  refuse BadText when not (list_all is_digit text)
  refuse BadText when not (nat_lt (digits_value 10 text) (2 ^ 32))
  Ok (digits_value 10 text)

-- the field at a place, a number
unfoldable pub number_at : List (List ℕ) → ℕ → Result ℕ Refusal
number_at fields place = do
  text ← text_at fields place
  number text

-- ---- a row

-- the row of frames with these names
unfoldable pub frame_row : List ℕ → List ℕ → Result Row Refusal
frame_row frame node = do
  f ← name frame
  n ← name node
  Ok (AddFrame f n)

-- the row of placements with these fields: its names are asked first, then its cycles, its slot and its channels
unfoldable pub placement_row : Params → List ℕ → List ℕ → ℕ → List ℕ → ℕ → ℕ → Result Row Refusal
placement_row p frame node slot channels base repetition = do
  f ← name frame
  n ← name node
  q ← placement p slot channels base repetition
  Ok (Place f n q)

-- the row of signals with these fields: its names are asked first, then its length and its order
unfoldable pub signal_row : List ℕ → List ℕ → ℕ → ℕ → List ℕ → Result Row Refusal
signal_row frame named start length order = do
  f ← name frame
  n ← name named
  x ← signal n start length order
  Ok (AddSignal f x)

-- the row of frames that a record's fields are, each of its form
unfoldable pub frame_in : List (List ℕ) → Result Row Refusal
frame_in fields = do
  frame ← text_at fields 0
  node ← text_at fields 1
  frame_row frame node

-- the row of placements that a record's fields are, each of its form
unfoldable pub placement_in : Params → List (List ℕ) → Result Row Refusal
placement_in p fields = do
  frame ← text_at fields 0
  node ← text_at fields 1
  slot ← number_at fields 2
  channels ← text_at fields 3
  base ← number_at fields 4
  repetition ← number_at fields 5
  placement_row p frame node slot channels base repetition

-- the row of signals that a record's fields are, each of its form
unfoldable pub signal_in : List (List ℕ) → Result Row Refusal
signal_in fields = do
  frame ← text_at fields 0
  named ← text_at fields 1
  start ← number_at fields 2
  length ← number_at fields 3
  order ← text_at fields 4
  signal_row frame named start length order

-- the row that the fields are below this header
abbrev pub row_in : Params → Header → List (List ℕ) → Result Row Refusal
row_in p Frames fields = frame_in fields
row_in p Placements fields = placement_in p fields
row_in p Signals fields = signal_in fields

-- the row that a record is: it has as many fields as the header
unfoldable pub row_of : Params → Header → List (List ℕ) → Result Row Refusal
row_of p header fields = do
  refuse BadText when not (length fields == length (spelled header))
  row_in p header fields

-- the row that a record at a line is; the header is line 1, and what comes after 512 rows is one too many, whatever it holds
unfoldable pub row_at : Params → Header → ℕ → List (List ℕ) → Result Row Refusal
row_at p header line fields = do
  refuse Limit when nat_lt (MAX_ROWS + 1) line
  row_of p header fields

-- ---- the rows

-- the records as rows, the first of them at this line
unfoldable pub rows_from : Params → Header → ℕ → List (List (List ℕ)) → List RowRead
rows_from p header line [] = []
rows_from p header line (fields ∷ rest) = record { line = line; row = row_at p header line fields } ∷ rows_from p header (suc line) rest

-- the records below a header as rows; with no header there is one row, refused
unfoldable pub rows_below : Params → Option Header → List (List (List ℕ)) → List RowRead
rows_below p (Some header) records = rows_from p header 2 records
rows_below p None records = record { line = 1; row = Err BadText } ∷ []

-- the header of a file's records, if the first of them is one
abbrev pub header_in : List (List (List ℕ)) → Option Header
header_in [] = None
header_in (first ∷ records) = header_of first

-- the header that a body's bytes begin with, if they begin with one
unfoldable pub header_of_body : List ℕ → Option Header
header_of_body body = header_in (records_of body)

-- a file's records as rows
unfoldable pub rows_of_records : Params → List (List (List ℕ)) → List RowRead
rows_of_records p [] = rows_below p None []
rows_of_records p (first ∷ records) = rows_below p (header_of first) records

-- All the rows that a body's bytes are, each a row or its own refusal, to the file's end: at most 512, and one more that is refused.
unfoldable pub all_rows_of_body : Params → List ℕ → List RowRead
all_rows_of_body p body = take (MAX_ROWS + 1) (rows_of_records p (records_of body))

-- the rows up to the first that is refused
unfoldable pub up_to_refused : List RowRead → List RowRead
up_to_refused [] = []
up_to_refused (read ∷ rest) = read ∷ (if is_err read.row then [] else up_to_refused rest)

-- the rows that a body's bytes are, up to the first that is refused by its own text
unfoldable pub rows_of_body : Params → List ℕ → List RowRead
rows_of_body p body = up_to_refused (rows_of_records p (records_of body))
