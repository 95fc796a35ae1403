-- Import counts: when a count that is kept of a supplier's imports is right; which one is found.
use Rattle.std.specs.Prelude.{◌≡◌, ℕ, Bool, not, List, All, Option, find, filter, option_map}
use Rattle.fr_base.specs.Book.{Book, own}
use Rattle.fr_base.specs.Names.{same_text}
use Rattle.fr_base.specs.Tables.{len}
use Rattle.fr_base.specs.declared.name.Name.{Name}
use Rattle.fr_office.specs.declared.import_counts.ImportCount.{ImportCount}

-- The count is that of the imports that its supplier keeps.
abbrev pub IsCounted : Book → ImportCount → Type 0
IsCounted b count = count.imports ≡ len (own count.supplier b.imports)

-- Each count is right.
abbrev pub AreCounted : Book → List ImportCount → Type 0
AreCounted b counts = All (IsCounted b) counts

-- whether the count is the supplier's
abbrev pub is_count_of : Name → ImportCount → Bool
is_count_of s count = same_text count.supplier s

-- how many imports the supplier keeps, if it is known
abbrev pub count_of : Name → List ImportCount → Option ℕ
count_of s counts = option_map (λ count. count.imports) (find (is_count_of s) counts)

-- the counts of other suppliers
abbrev pub counts_without : Name → List ImportCount → List ImportCount
counts_without s counts = filter (λ count. not (is_count_of s count)) counts
