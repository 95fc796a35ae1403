-- Key of a delivery: the word of the command line, or where that is `-` the first line of standard input, so that nobody who
-- lists processes sees it.
use Rattle.std.specs.Prelude.{◌≡◌, ◌≢◌, ◌⊎◌, ◌<◌, ◌≤◌, ℕ, List, [], ◌∷◌, IfSome, Option, codes, length}
use Rattle.std.specs.Io.KnownBytes.{Consumes, IsAtEnd, Keeps}
use Rattle.std.specs.Str.Lines.{lines}
use Rattle.fr_text.specs.Script.{HasNo}
use Rattle.fr_cli.specs.declared.streams.input.InputFault.{InputFault}
use Rattle.fr_cli.specs.declared.streams.input.InputFault.TheVariants.{TooLong}

-- the first of lines, or none
abbrev pub first_of : List (List ℕ) → List ℕ
first_of [] = []
first_of (line ∷ _) = line

-- These bytes were taken from the input's front, until a line feed came or the end.
abbrev pub TakesLine : Option (List ℕ) → Option (List ℕ) → List ℕ → Type 0
TakesLine input left front = Consumes input left front × (HasNo 10 front → IsAtEnd left)

-- the most bytes that the line with a key has
abbrev pub max_key : ℕ
max_key = 8192

-- The line with a key is not read for this. It is too long only where the input has more bytes than that.
abbrev pub IsKeyUnread : Option (List ℕ) → InputFault → Type 0
IsKeyUnread input fault = fault ≡ TooLong → IfSome input (λ all. max_key < length all)

-- The key that is given is the word, and nothing was read; or the word is `-`, and the key is the input's first line, without its end,
-- of which no more is read than it may have.
abbrev pub IsKeyGiven : List ℕ → Option (List ℕ) → Option (List ℕ) → List ℕ → Type 0
IsKeyGiven word input left key = ((word ≢ codes "-") × (key ≡ word) × Keeps input left)
    ⊎ ((word ≡ codes "-") × ((front : List ℕ) × TakesLine input left front × (length front ≤ max_key) × (key ≡ first_of (lines front))))
