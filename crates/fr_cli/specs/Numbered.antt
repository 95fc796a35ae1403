-- Numbered lines: the requests of a text, each with the number of its line. Empty lines count, as they do where faults of requests are told by their
-- lines. What stands before an answer where lines are numbered: its line's number and a space. The text of answers, with these fronts or without.
use Rattle.std.specs.Prelude.{◌≡◌, ◌≤◌, ℕ, ◌+◌, nat_lt, Bool, true, false, if◌then◌else◌, List, [], ◌∷◌, ◌++◌, length, map, codes, decimal}
use Rattle.std.specs.Str.Lines.{lines}
use Rattle.fr_base.specs.declared.answer.Answer.{Answer}
use Rattle.fr_cli.specs.Outcomes.{line_of}
use Rattle.fr_cli.specs.Output.{text_of_answers}
use Rattle.fr_cli.specs.declared.streams.numbered_lines.NumberedLine.{NumberedLine}

-- the lines that are not empty, each with its number; the first line of all has this one
abbrev pub number_from : ℕ → List (List ℕ) → List (ℕ × List ℕ)
number_from number [] = []
number_from number (line ∷ more) = if nat_lt 0 (length line) then (number, line) ∷ number_from (number + 1) more else number_from (number + 1) more

-- the requests of a text, each with the number of its line; the text's first line has this one
unfoldable pub numbered_lines : ℕ → List ℕ → List (ℕ × List ℕ)
numbered_lines number bytes = number_from number (lines bytes)

-- the lines alone
abbrev pub without_numbers : List (ℕ × List ℕ) → List (List ℕ)
without_numbers asked = map (λ one. one.1) asked

-- what stands before the answer to the line of this number
abbrev pub front_of : Bool → ℕ → List ℕ
front_of true number = decimal number ++ codes " "
front_of false number = []

-- the answers to lines, each on a line of its own, behind the number of the line that it answers
abbrev pub numbered_text : List (ℕ × List ℕ) → List Answer → List ℕ
numbered_text (one ∷ more) (answer ∷ answers) = (front_of true one.0 ++ line_of answer) ++ numbered_text more answers
numbered_text _ _ = []

-- the answers to lines, with numbers or without
abbrev pub answers_text : Bool → List (ℕ × List ℕ) → List Answer → List ℕ
answers_text true asked answers = numbered_text asked answers
answers_text false asked answers = text_of_answers answers

-- This is the first request of a text, and this follows it. So much room is left for the numbers of lines.
pub record IsNext (number : ℕ) (text : List ℕ) (next : NumberedLine) : Type 0 where
  pub first : numbered_lines number text ≡ (next.number, next.line.now) ∷ numbered_lines (next.number + 1) next.rest.now
  pub room : next.number + 1 + length (lines next.rest.now) ≤ number + length (lines text)
