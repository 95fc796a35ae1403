-- Style: a report's lines as texts of JSON with commas between, or each with a line feed behind it.
use Rattle.std.specs.Prelude.{ℕ, Bool, List, [], ◌∷◌, ◌++◌, codes}
use Rattle.std.specs.List.{join_by, flat_map}
use Rattle.fr_text.specs.declared.style.Style.{Style}
use Rattle.fr_text.specs.declared.style.Style.TheVariants.{Json, Plain}

-- the text between double quotes
abbrev pub quoted : List ℕ → List ℕ
quoted text = codes "\"" ++ text ++ codes "\""

-- each line in quotes, with commas between
unfoldable pub json_lines : List (List ℕ) → List ℕ
json_lines lines = join_by quoted (codes ",") lines

-- each line with a line feed behind it
unfoldable pub plain_lines : List (List ℕ) → List ℕ
plain_lines lines = flat_map (λ line. line ++ codes "\n") lines

unfoldable pub set_in : Style → List (List ℕ) → List ℕ
set_in Json lines = json_lines lines
set_in Plain lines = plain_lines lines

-- what stands before the first line, between two, and behind the last
abbrev pub before_mark : Style → List ℕ
before_mark Json = codes "\""
before_mark Plain = []

abbrev pub between_mark : Style → List ℕ
between_mark Json = codes "\",\""
between_mark Plain = codes "\n"

abbrev pub after_mark : Style → List ℕ
after_mark Json = codes "\""
after_mark Plain = codes "\n"

-- lines with a mark between each two
unfoldable pub joined : List ℕ → List (List ℕ) → List ℕ
joined mark lines = join_by (λ line. line) mark lines

-- lines with a mark before each
unfoldable pub marked : List ℕ → List (List ℕ) → List ℕ
marked mark lines = flat_map (λ line. mark ++ line) lines

-- the lines of rows; each row has a first line, and may have others
abbrev pub lines_in : {R : Type 0} → (Bool → R → List ℕ) → (Bool → R → List (List ℕ)) → Bool → List R → List (List ℕ)
lines_in first others all rows = flat_map (λ row. first all row ∷ others all row) rows
