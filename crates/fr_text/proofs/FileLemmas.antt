-- A file whose fields are words, of letters, digits and underscores: its records are read as they were written.
use Rattle.std.proofs.Common.{◌≡◌, ◌∙◌, ap, refl, sym, ℕ, zero, suc, ◌+◌, ◌≤◌, true, false, List, [], ◌∷◌, ◌++◌, map, length, Some, arith, length-append}
use Rattle.std.specs.Prelude.{codes}
use Rattle.std.specs.List.{AllByRecursion, list_all, list_any}
use Rattle.std.specs.Str.{IsAscii, is_utf8}
use Rattle.std.proofs.lemmas.Bool.{and_parts}
use Rattle.std.proofs.lemmas.Bool.Decides.{nat_tests}
use Rattle.std.proofs.lemmas.Str.{IsUtf8-from_ascii, is_utf8-from_IsUtf8}
use Rattle.std.proofs.lemmas.Str.Ascii.{IsAscii-nil, IsAscii-cons}
use Rattle.csv.proofs.RoundTrip.{read-write}
use Rattle.csv.specs.Machine.{next_record}
use Rattle.csv.specs.Reading.{default_config, records_from, records_next}
use Rattle.csv.specs.Writing.{default_writer, field_text, fields_text, is_blank, needs_byte, row_text, read_back}
use Rattle.csv.specs.declared.parser.State.TheVariants as st
use Rattle.fr_base.specs.Names.{is_name_byte}
use Rattle.fr_base.proofs.NameLemmas.{name_byte_is_ascii}
use Rattle.fr_text.proofs.ImportTextLemmas.{at-end}
use Rattle.fr_text.specs.Styles.{plain_lines}
use Rattle.fr_text.specs.Words.{comma_line, comma_behind}

-- a text of letters, digits and underscores
abbrev pub IsWord : List ℕ → Type 0
IsWord text = list_all is_name_byte text ≡ true

-- a record has two fields or more, and they are words
abbrev pub IsRecord : List (List ℕ) → Type 0
IsRecord [] = ⊥
IsRecord (x ∷ []) = ⊥
IsRecord (x ∷ y ∷ rest) = AllByRecursion IsWord (x ∷ y ∷ rest)

-- ---- words

ascii : (text : List ℕ) → IsWord text → IsAscii text
ascii [] h = IsAscii-nil
ascii (c ∷ text) h = let both = and_parts _ _ h in IsAscii-cons c text (name_byte_is_ascii c both.0) (ascii text both.1)

-- a word is a text
pub word_is_text : (text : List ℕ) → IsWord text → is_utf8 text ≡ true
word_is_text text h = is_utf8-from_IsUtf8 text (IsUtf8-from_ascii text (ascii text h))

plain_byte : (c : ℕ) → is_name_byte c ≡ true → needs_byte default_writer c ≡ false
plain_byte c h = grind (arith, nat_tests)

-- and needs no quotes
plain : (text : List ℕ) → IsWord text → list_any (needs_byte default_writer) text ≡ false
plain [] h = refl
plain (c ∷ text) h = let both = and_parts _ _ h in rw (plain_byte c both.0) (plain text both.1)

field_is : (text : List ℕ) → IsWord text → field_text default_writer text ≡ text
field_is text h = rw (plain text h) refl

-- ---- records

fields_are : (fields : List (List ℕ)) → AllByRecursion IsWord fields → fields_text default_writer fields ≡ comma_behind fields
unfolding fields_text
fields_are [] h = refl
fields_are (x ∷ rest) h = rw (field_is x h.0, fields_are rest h.1) refl

-- a record's line is as the reader's writer would write it
line_is : (fields : List (List ℕ)) → IsRecord fields → row_text default_writer fields ≡ comma_line fields ++ codes "\n"
unfolding is_blank
line_is [] h = absurd h
line_is (x ∷ []) h = absurd h
line_is (x ∷ y ∷ rest) h = rw (field_is x h.0, fields_are (y ∷ rest) h.1) refl

same_fields : (fields : List (List ℕ)) → IsRecord fields → read_back fields ≡ fields
same_fields [] h = absurd h
same_fields (x ∷ rest) h = refl

-- so one record is read, and then the others
record_read : (fields : List (List ℕ)) (tail : List ℕ) → IsRecord fields
    → next_record default_config st.StartRecord [] [] ((comma_line fields ++ codes "\n") ++ tail) ≡ Some (fields, st.StartRecord, tail)
record_read fields tail h =
    ap (λ text. next_record default_config st.StartRecord [] [] (text ++ tail)) (sym (line_is fields h))
    ∙ read-write fields tail ∙ ap (λ f. Some (f, st.StartRecord, tail)) (same_fields fields h)

-- and all are
pub records_read : (rows : List (List (List ℕ))) (n : ℕ) → AllByRecursion IsRecord rows → length rows ≤ n
    → records_from default_config n st.StartRecord (plain_lines (map comma_line rows)) ≡ rows
unfolding records_from plain_lines
records_read [] n h fits = at-end default_config n
records_read (row ∷ rows) zero h fits = absurd (omega (arith, fits))
records_read (row ∷ rows) (suc n) h fits =
    ap (records_next (records_from default_config n)) (record_read row (plain_lines (map comma_line rows)) h.0)
    ∙ ap (λ rest. row ∷ rest) (records_read rows n h.1 (omega (arith, fits)))

-- each line has a byte at least
pub lines_count : (lines : List (List ℕ)) → length lines ≤ length (plain_lines lines)
unfolding plain_lines
lines_count [] = omega arith
lines_count (line ∷ lines) =
    let more = lines_count lines in
    let size : length (plain_lines (line ∷ lines)) ≡ length (line ++ codes "\n") + length (plain_lines lines) = length-append (line ++ codes "\n") (plain_lines lines) in
    let end : length (line ++ codes "\n") ≡ length line + 1 = length-append line (codes "\n") in
    omega (arith, more, size, end)
