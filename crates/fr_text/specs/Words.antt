-- Words of a line: one space stands between them; one comma stands between the fields of a record.
-- A number has its digits, with leading zeros. A text stands at the right of so many places. A gap
-- is its number, or `never`. The supplier's name is for the integrator alone.
use Rattle.std.specs.Prelude.{◌≡◌, ℕ, ◌+◌, ◌-◌, ◌/◌, ◌%◌, Bool, List, [], ◌∷◌, ◌++◌, codes, decimal, length, replicate, if◌then◌else◌, Option, Some, None}
use Rattle.std.specs.List.{join_by, flat_map}

-- the digit of a number at a place: at 1 the ones, at 10 the tens ..
abbrev pub digit_at : ℕ → ℕ → ℕ
digit_at place n = 48 + n / place % 10

-- the number in two digits, with leading zeros
abbrev pub two_digits : ℕ → List ℕ
two_digits n = digit_at 10 n ∷ digit_at 1 n ∷ []

-- the number in four digits, with leading zeros
abbrev pub four_digits : ℕ → List ℕ
four_digits n = digit_at 1000 n ∷ digit_at 100 n ∷ digit_at 10 n ∷ digit_at 1 n ∷ []

-- the text at the right of so many places, with spaces before it
unfoldable pub right_in : ℕ → List ℕ → List ℕ
right_in places text = replicate (places - length text) 32 ++ text

-- a gap's number, or that the frame is never sent
abbrev pub gap_word : Option ℕ → List ℕ
gap_word None = codes "never"
gap_word (Some gap) = decimal gap

-- a line has its words with one space between
abbrev pub line : List (List ℕ) → List ℕ
line words = join_by (λ word. word) (codes " ") words

-- words that follow others: a space before each
abbrev pub behind : List (List ℕ) → List ℕ
behind words = flat_map (λ word. codes " " ++ word) words

-- a record has its fields with one comma between
abbrev pub comma_line : List (List ℕ) → List ℕ
comma_line fields = join_by (λ field. field) (codes ",") fields

-- fields that follow others: a comma before each
abbrev pub comma_behind : List (List ℕ) → List ℕ
comma_behind fields = flat_map (λ field. codes "," ++ field) fields

-- the supplier's name, for the integrator, who sees the rows of all
abbrev pub shown_to : Bool → List ℕ → List (List ℕ)
shown_to all supplier = if all then supplier ∷ [] else []

-- the new bytes are the old ones with more behind them
abbrev pub Extends : List ℕ → List ℕ → Type 0
Extends old new = (more : List ℕ) × (new ≡ old ++ more)
