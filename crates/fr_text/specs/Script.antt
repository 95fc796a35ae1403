-- Script: all before the first line `---` is the cluster file; each later line that is not empty is a request, its key
-- before the first space and its text after it.
use Rattle.std.specs.Prelude.{ℕ, ◌≡◌, ◌==◌, nat_lt, Bool, false, if◌then◌else◌, Option, Some, None, List, [], ◌∷◌, ◌++◌, length, filter, codes}
use Rattle.std.specs.List.{AllByRecursion, list_any, concat, before_first, after_first}
use Rattle.std.specs.Str.{bytes_eq}
use Rattle.std.specs.Str.Lines.{lines}

-- how many bytes a script has at most
abbrev pub max_script : ℕ
max_script = 16777216

-- how many bytes a line of requests has at most, without its line feed
abbrev pub max_line : ℕ
max_line = 1048576

-- a byte at the front of the first line: a line feed there is a line of its own
abbrev pub onto_first_line : ℕ → List (List ℕ) → List (List ℕ)
onto_first_line b [] = (b ∷ []) ∷ []
onto_first_line b (line ∷ more) = if b == 10 then (b ∷ []) ∷ line ∷ more else (b ∷ line) ∷ more

-- the lines, each with the line feed at its end, which the last may lack
abbrev pub ended_lines : List ℕ → List (List ℕ)
ended_lines [] = []
ended_lines (b ∷ bytes) = onto_first_line b (ended_lines bytes)

-- whether the line, without its end, is `---`
abbrev pub is_separator : List ℕ → Bool
is_separator line = list_any (λ text. bytes_eq text (codes "---")) (lines line)

-- the cluster file, which is all before the first line that is `---`, and all after that line
unfoldable pub parts_of : List ℕ → Option (List ℕ × List ℕ)
parts_of bytes =
    let all = ended_lines bytes in
    if list_any is_separator all then Some (concat (before_first is_separator all), concat (after_first is_separator all)) else None

-- This is the text of the first line of the bytes, and this follows that line: the bytes are the line, with its end, and what follows it.
pub record IsFirstLine (bytes text after : List ℕ) : Type 0 where
  pub line : lines bytes ≡ text ∷ lines after
  pub ended : List ℕ
  pub split : bytes ≡ ended ++ after
  pub ends : ended_lines bytes ≡ ended ∷ ended_lines after
  pub separator : is_separator ended ≡ bytes_eq text (codes "---")

-- the requests after the separator's line: the lines that are not empty, without their ends
unfoldable pub request_lines : List ℕ → List (List ℕ)
request_lines bytes = filter (λ line. nat_lt 0 (length line)) (lines bytes)

-- no byte of the list is c
abbrev pub HasNo : ℕ → List ℕ → Type 0
HasNo c = AllByRecursion (λ b. (b == c) ≡ false)

-- what stands before the first such byte and after it, if there is one
abbrev pub parts_around : ℕ → List ℕ → Option (List ℕ × List ℕ)
parts_around byte bytes =
    if list_any (λ b. b == byte) bytes then Some (before_first (λ b. b == byte) bytes, after_first (λ b. b == byte) bytes) else None

-- the key is all before the first space of a request's line, and the request's text all after it
unfoldable pub key_and_text : List ℕ → Option (List ℕ × List ℕ)
key_and_text line = parts_around 32 line
