-- Advice: the printed lines of a text's faults. When a text of rows or of requests has no fault.
use Rattle.std.specs.Prelude.{◌≡◌, ℕ, Bool, false, List, map}
use Rattle.std.specs.List.{AllByRecursion, flat_map, list_all}
use Rattle.std.specs.Str.Lines.{lines}
use Rattle.fr_guide.specs.Faults.{are_none, fault_line}
use Rattle.fr_guide.specs.RequestFile.{AreToldOfRequests, bad_lines, is_fine_line}
use Rattle.fr_guide.specs.Rows.{AreInOrder, AreToldOfRows, fine_file, line_count}
use Rattle.fr_guide.specs.declared.advice.Subject.{Subject}
use Rattle.fr_guide.specs.declared.advice.Subject.TheVariants.{Rows, Requests}
use Rattle.fr_guide.specs.declared.line_faults.LineFaults.{LineFaults}

-- a line's number, and what is said of its faults
pub record Remarks : Type 0 where
  pub line : ℕ
  pub faults : List (List ℕ)

-- the printed lines: one for each fault
abbrev pub printed : List Remarks → List ℕ
printed remarks = flat_map (λ r. flat_map (λ fault. fault_line r.line fault) r.faults) remarks

-- the numbers of the lines
abbrev pub lines_in : List Remarks → List ℕ
lines_in remarks = map (λ r. r.line) remarks

-- Something is said of the line.
abbrev pub IsFault : Remarks → Type 0
IsFault r = are_none r.faults ≡ false

-- These are remarks on the text. Of rows there is one for each record, in order, which tells a fault exactly where the
-- record is not fine. Of requests there is one for each line that is none, by its number, and it tells a fault.
abbrev pub AreRemarks : Subject → List ℕ → List Remarks → Type 0
AreRemarks Rows text remarks = (map (λ r. are_none r.faults) remarks ≡ fine_file text) × AreInOrder 1 (line_count text) (lines_in remarks)
AreRemarks Requests text remarks = (lines_in remarks ≡ bad_lines 1 (lines text)) × AllByRecursion IsFault remarks

-- The lines are advice on the text: they are the printed lines of remarks on it.
unfoldable pub IsAdvice : Subject → List ℕ → List ℕ → Type 0
IsAdvice subject text lines = (remarks : List Remarks) × AreRemarks subject text remarks × (lines ≡ printed remarks)

-- whether the text has no fault: each of its records is fine, or each of its lines
abbrev pub is_fine_text : Subject → List ℕ → Bool
is_fine_text Rows text = list_all (λ fine. fine) (fine_file text)
is_fine_text Requests text = list_all is_fine_line (lines text)

-- Advice tells nothing exactly where the text has no fault.
abbrev pub AdviceIsExact : Type 0
AdviceIsExact = (subject : Subject) (text lines : List ℕ) → IsAdvice subject text lines → are_none lines ≡ is_fine_text subject text

-- ---- on the way

-- This is told of the text's lines.
abbrev pub AreTold : Subject → List ℕ → List LineFaults → Type 0
AreTold Rows text told = AreToldOfRows text told
AreTold Requests text told = AreToldOfRequests text told
