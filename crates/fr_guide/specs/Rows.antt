-- Fine row: a record below a header that is a row, or a wish, in some cluster. It has as many fields as the
-- header, its names are names, its numbers are numbers, and each of its values may stand there in
-- some cluster. Which records of a file are fine, of as many as an import takes. Which lines the
-- file has.
use Rattle.std.specs.Prelude.{ℕ, zero, suc, ◌+◌, ◌≡◌, ◌≤◌, ◌==◌, nat_lt, Bool, true, false, not, ◌&&◌, ◌||◌, if◌then◌else◌, List, [], ◌∷◌, length, map, Option, Some, None, is_some, Result, Ok, Err}
use Rattle.std.specs.List.{list_any, range_with_len}
use Rattle.std.specs.Result.{is_ok}
use Rattle.fr_base.specs.Channels.{channels_of_text}
use Rattle.fr_base.specs.Checks.{name}
use Rattle.fr_base.specs.Cycles.{is_cycle_count, is_repetition}
use Rattle.fr_base.specs.ImportRows.{number_at, records_of, text_at}
use Rattle.fr_base.specs.Numbers.{is_slot}
use Rattle.fr_base.specs.Refusing.{◌>>=◌}
use Rattle.fr_base.specs.Signals.{is_signal_length, order_of_text}
use Rattle.fr_base.specs.declared.import.Header.TheVariants.{Frames, Placements, Signals}
use Rattle.fr_base.specs.declared.limits.TheConstants.{MAX_IMPORT_BYTES, MAX_ROWS}
use Rattle.fr_base.specs.declared.name.Name.{Name}
use Rattle.fr_base.specs.declared.refusal.Refusal.{Refusal}
use Rattle.fr_guide.specs.Faults.{is_fine}
use Rattle.fr_guide.specs.FileKinds.{kind_of, spelled_kind}
use Rattle.fr_guide.specs.declared.line_faults.LineFaults.{LineFaults}
use Rattle.fr_guide.specs.declared.rows.file_kind.FileKind.{FileKind}
use Rattle.fr_guide.specs.declared.rows.file_kind.FileKind.TheVariants.{Rows, Wishes}

-- the name that is the field at a place
unfoldable pub name_at : List (List ℕ) → ℕ → Result Name Refusal
name_at fields place = text_at fields place >>= name

-- whether what is read passes this test; what is refused does not
abbrev pub passes : {A : Type 0} → (A → Bool) → Result A Refusal → Bool
passes test (Ok x) = test x
passes test (Err refusal) = false

-- whether so many cycles are the count of some cluster, and the number is a repetition of them
abbrev pub repeats_in : ℕ → ℕ → Bool
repeats_in repetition count = is_cycle_count count && is_repetition count repetition

-- whether the number is a repetition in some cluster, which has at most 64 cycles
unfoldable pub is_some_repetition : ℕ → Bool
is_some_repetition repetition = list_any (repeats_in repetition) (range_with_len 0 65)

-- whether what stands in a base's place is a number, and below the repetition, where that is a number
abbrev pub is_base_below : Result ℕ Refusal → Result ℕ Refusal → Bool
is_base_below (Err refusal) _ = false
is_base_below (Ok base) (Err refusal) = true
is_base_below (Ok base) (Ok repetition) = nat_lt base repetition

-- whether the text writes channels
abbrev pub writes_channels : List ℕ → Bool
writes_channels text = is_some (channels_of_text text)

-- whether the text writes an order of bits
abbrev pub writes_order : List ℕ → Bool
writes_order text = is_some (order_of_text text)

-- whether the fields are those of a row of frames
unfoldable pub is_fine_frame : List (List ℕ) → Bool
is_fine_frame fields = is_ok (name_at fields 0) && is_ok (name_at fields 1)

-- whether the fields are those of a row of placements in some cluster
unfoldable pub is_fine_placement : List (List ℕ) → Bool
is_fine_placement fields = is_ok (name_at fields 0) && is_ok (name_at fields 1) && passes is_slot (number_at fields 2)
    && passes writes_channels (text_at fields 3) && is_base_below (number_at fields 4) (number_at fields 5)
    && passes is_some_repetition (number_at fields 5)

-- whether the fields are those of a row of signals
unfoldable pub is_fine_signal : List (List ℕ) → Bool
is_fine_signal fields = is_ok (name_at fields 0) && is_ok (name_at fields 1) && is_ok (number_at fields 2)
    && passes is_signal_length (number_at fields 3) && passes writes_order (text_at fields 4)

-- whether the fields are those of a wish in some cluster
unfoldable pub is_fine_wish : List (List ℕ) → Bool
is_fine_wish fields = is_ok (name_at fields 0) && is_ok (name_at fields 1) && passes writes_channels (text_at fields 2)
    && passes is_some_repetition (number_at fields 3)

-- whether the fields are those of a record of this kind
abbrev pub has_fine_fields : FileKind → List (List ℕ) → Bool
has_fine_fields (Rows Frames) fields = is_fine_frame fields
has_fine_fields (Rows Placements) fields = is_fine_placement fields
has_fine_fields (Rows Signals) fields = is_fine_signal fields
has_fine_fields Wishes fields = is_fine_wish fields

-- whether a record is fine below the header of this kind
unfoldable pub is_fine_row : FileKind → List (List ℕ) → Bool
is_fine_row kind fields = (length fields == length (spelled_kind kind)) && has_fine_fields kind fields

-- Which records below a header are fine, where so many more rows may stand. The record behind these
-- is one too many, whatever it holds. What comes behind that is not read.
unfoldable pub fine_rows : FileKind → ℕ → List (List (List ℕ)) → List Bool
fine_rows kind room [] = []
fine_rows kind zero (fields ∷ records) = false ∷ []
fine_rows kind (suc room) (fields ∷ records) = is_fine_row kind fields ∷ fine_rows kind room records

-- which records below a header are fine; where there is no header, none is read
abbrev pub fine_below : Option FileKind → List (List (List ℕ)) → List Bool
fine_below None records = false ∷ []
fine_below (Some kind) records = true ∷ fine_rows kind MAX_ROWS records

-- which records are fine, the header first; a file without a record lacks its header
unfoldable pub fine_records : List (List (List ℕ)) → List Bool
fine_records [] = false ∷ []
fine_records (first ∷ records) = fine_below (kind_of first) records

-- which records of a file are fine; a file that is too long for an import is not read
unfoldable pub fine_file : List ℕ → List Bool
fine_file bytes = if nat_lt MAX_IMPORT_BYTES (length bytes) then false ∷ [] else fine_records (records_of bytes)

-- ---- lines

-- whether these bytes begin with a line feed
abbrev pub begins_with_feed : List ℕ → Bool
begins_with_feed [] = false
begins_with_feed (b ∷ bytes) = b == 10

-- Whether the byte ends a line, where these follow it, as an editor counts lines: it is a line
-- feed, or a carriage return with no line feed behind it.
abbrev pub ends_line : ℕ → List ℕ → Bool
ends_line byte after = (byte == 10) || ((byte == 13) && not (begins_with_feed after))

-- how many lines end in these bytes
unfoldable pub line_ends : List ℕ → ℕ
line_ends [] = 0
line_ends (b ∷ bytes) = (if ends_line b bytes then 1 else 0) + line_ends bytes

-- how many lines a file has: one more than ends of lines
abbrev pub line_count : List ℕ → ℕ
line_count bytes = 1 + line_ends bytes

-- The numbers do not fall, and lie between the least and the most.
unfoldable pub AreInOrder : ℕ → ℕ → List ℕ → Type 0
AreInOrder least most [] = least ≤ most
AreInOrder least most (n ∷ numbers) = (least ≤ n) × AreInOrder n most numbers

-- the numbers of the lines
abbrev pub numbers_of : List LineFaults → List ℕ
numbers_of told = map (λ t. t.line) told

-- A fault of a record is told exactly where the record is not fine. Each line that is told is one
-- of the file's, and they are in order.
abbrev pub AreToldOfRows : List ℕ → List LineFaults → Type 0
AreToldOfRows bytes told = (map is_fine told ≡ fine_file bytes) × AreInOrder 1 (line_count bytes) (numbers_of told)
