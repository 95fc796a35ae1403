-- Kind of a file: what its first record says that the others are: rows below one of the three headers, or wishes.
use Rattle.std.specs.Prelude.{ℕ, List, Option, Some, None, if◌then◌else◌}
use Rattle.fr_base.specs.ImportRows.{header_of, spelled}
use Rattle.fr_base.specs.Wishes.{spelled_wishes, spells_wishes}
use Rattle.fr_base.specs.declared.import.Header.{Header}
use Rattle.fr_guide.specs.declared.rows.file_kind.FileKind.{FileKind}
use Rattle.fr_guide.specs.declared.rows.file_kind.FileKind.TheVariants.{Rows, Wishes}

-- the kind of a file of which this is the header of rows, or whose first record these fields are where that is none
abbrev pub kind_by : Option Header → List (List ℕ) → Option FileKind
kind_by (Some header) fields = Some (Rows header)
kind_by None fields = if spells_wishes fields then Some Wishes else None

-- the kind of which the fields are the header
abbrev pub kind_of : List (List ℕ) → Option FileKind
kind_of fields = kind_by (header_of fields) fields

-- how a header is spelled
abbrev pub spelled_kind : FileKind → List (List ℕ)
spelled_kind (Rows header) = spelled header
spelled_kind Wishes = spelled_wishes
