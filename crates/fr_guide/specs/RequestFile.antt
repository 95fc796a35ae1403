-- Request's file: the lines of a script's requests, of which each is a key and a request. Which of them are none.
use Rattle.std.specs.Prelude.{◌≡◌, ◌+◌, ℕ, Bool, true, false, ◌&&◌, nat_le, if◌then◌else◌, List, [], ◌∷◌, length, Option, Some, None}
use Rattle.std.specs.List.{AllByRecursion}
use Rattle.std.specs.Str.Lines.{lines}
use Rattle.fr_base.specs.Names.{is_key}
use Rattle.fr_text.specs.Script.{key_and_text, max_line}
use Rattle.fr_guide.specs.Faults.{is_fine}
use Rattle.fr_guide.specs.Requests.{is_fine_request}
use Rattle.fr_guide.specs.Rows.{numbers_of}
use Rattle.fr_guide.specs.declared.line_faults.LineFaults.{LineFaults}

-- whether the key may be somebody's, and the text is a request, whoever asks
abbrev pub is_fine_ask : List ℕ → List ℕ → Bool
is_fine_ask key text = is_key key && is_fine_request text

-- whether the line's parts are such a key and such a text
abbrev pub is_fine_parts : Option (List ℕ × List ℕ) → Bool
is_fine_parts None = false
is_fine_parts (Some parts) = is_fine_ask parts.0 parts.1

-- Whether a line is a key and a request, and no longer than one that comes in may be. An empty one is passed over.
unfoldable pub is_fine_line : List ℕ → Bool
is_fine_line [] = true
is_fine_line (b ∷ line) = nat_le (length (b ∷ line)) max_line && is_fine_parts (key_and_text (b ∷ line))

-- the numbers of those lines that are none, the first line with this number
unfoldable pub bad_lines : ℕ → List (List ℕ) → List ℕ
bad_lines number [] = []
bad_lines number (line ∷ more) = if is_fine_line line then bad_lines (number + 1) more else number ∷ bad_lines (number + 1) more

-- Something is told of the line.
abbrev pub HasFault : LineFaults → Type 0
HasFault told = is_fine told ≡ false

-- Something is told of just the lines that are no request, by their numbers, from 1 on.
abbrev pub AreToldOfRequests : List ℕ → List LineFaults → Type 0
AreToldOfRequests bytes told = (numbers_of told ≡ bad_lines 1 (lines bytes)) × AllByRecursion HasFault told
