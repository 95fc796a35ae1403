-- Told line: each fault of a line is printed on a line of its own, behind the line's number. A line
-- without faults is not printed.
use Rattle.std.specs.Prelude.{ℕ, Bool, List, ◌++◌, codes, decimal, string_bytes}
use Rattle.std.specs.List.{flat_map, list_all}
pub use Rattle.fr_text.specs.Faults.{are_none}
use Rattle.fr_guide.specs.declared.line_faults.LineFaults.{LineFaults}

-- whether a line has no fault
abbrev pub is_fine : LineFaults → Bool
is_fine told = are_none told.faults.items

-- whether no line has a fault
abbrev pub all_fine : List LineFaults → Bool
all_fine told = list_all is_fine told

-- the printed line of a fault
abbrev pub fault_line : ℕ → List ℕ → List ℕ
fault_line line fault = codes "line " ++ decimal line ++ codes ": " ++ fault ++ codes "\n"

-- the printed lines of a line's faults
abbrev pub lines_of : LineFaults → List ℕ
lines_of told = flat_map (λ fault. fault_line told.line (string_bytes fault)) told.faults.items

-- the printed lines of several lines' faults
abbrev pub all_lines : List LineFaults → List ℕ
all_lines told = flat_map lines_of told
