-- Answer's text: the line of JSON for each answer, its keys in byte order. Names are ASCII letters, digits and `_`, so
-- nothing in it needs an escape.
use Rattle.std.specs.Prelude.{List, ◌++◌, codes, ℕ, decimal}
use Rattle.fr_base.specs.Channels.{text_of_channel}
use Rattle.fr_base.specs.Queries.{name_of_rows}
use Rattle.fr_base.specs.Refusals.{number_of, name_of}
use Rattle.fr_base.specs.declared.answer.Answer.{Answer}
use Rattle.fr_base.specs.declared.answer.Answer.TheVariants.{Done, Imported, Replaced, Report, Refused, RefusedRow}
use Rattle.fr_base.specs.declared.refusal.Refusal.{Refusal}
use Rattle.fr_base.specs.declared.refusal.Refusal.TheVariants.{CellTaken, BitTaken}
use Rattle.fr_text.specs.Report.{lines_of, lines_of_rows}
use Rattle.fr_text.specs.Styles.{quoted, json_lines, plain_lines}

-- a refusal that has no fields: its number and its name
abbrev pub text_of_plain : ℕ → List ℕ → List ℕ
text_of_plain number name = codes "{\"no\":" ++ decimal number ++ codes ",\"refused\":" ++ quoted name ++ codes "}"

-- a refusal: its number and its name, and for a taken cell or bit what has taken it
unfoldable pub text_of_refusal : Refusal → List ℕ
text_of_refusal (CellTaken cycle channel frame) =
    codes "{\"channel\":" ++ quoted (text_of_channel channel) ++ codes ",\"cycle\":" ++ decimal cycle
    ++ codes ",\"frame\":" ++ quoted frame ++ codes ",\"no\":25,\"refused\":\"CellTaken\"}"
text_of_refusal (BitTaken bit signal) =
    codes "{\"bit\":" ++ decimal bit ++ codes ",\"no\":27,\"refused\":\"BitTaken\",\"signal\":" ++ quoted signal ++ codes "}"
text_of_refusal refusal = text_of_plain (number_of refusal) (name_of refusal)

-- a query's answer: its lines, and which query it answers
abbrev pub text_of_report : List (List ℕ) → List ℕ → List ℕ
text_of_report lines query = codes "{\"lines\":[" ++ json_lines lines ++ codes "],\"ok\":" ++ quoted query ++ codes "}"

-- an import that was carried out, of so many rows
abbrev pub text_of_imported : ℕ → List ℕ
text_of_imported rows = codes "{\"ok\":\"imported\",\"rows\":" ++ decimal rows ++ codes "}"

-- a replacement that was carried out, of so many rows
abbrev pub text_of_replaced : ℕ → List ℕ
text_of_replaced rows = codes "{\"ok\":\"replaced\",\"rows\":" ++ decimal rows ++ codes "}"

-- a file's refused row: its line, and the text of its own refusal
abbrev pub text_of_row : ℕ → Refusal → List ℕ
text_of_row line refusal = codes "{\"line\":" ++ decimal line ++ codes ",\"no\":29,\"refused\":\"BadRow\",\"row\":" ++ text_of_refusal refusal ++ codes "}"

-- an answer
unfoldable pub text_of : Answer → List ℕ
text_of Done = codes "{\"ok\":\"done\"}"
text_of (Imported rows) = text_of_imported rows
text_of (Replaced rows) = text_of_replaced rows
text_of (Report all rows) = text_of_report (lines_of_rows all rows) (name_of_rows rows)
text_of (Refused refusal) = text_of_refusal refusal
text_of (RefusedRow line refusal) = text_of_row line refusal

-- an answer's lines, each ended by a line feed
unfoldable pub report_of : Answer → List ℕ
report_of answer = plain_lines (lines_of answer)
