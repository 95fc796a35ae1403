-- Numbered output: what the run of a script writes where lines are numbered. These are the answers of an output, each behind the number that its line
-- has in the script, with the lines of the cluster file and the separator counted.
use Rattle.std.specs.Prelude.{◌≡◌, ℕ, ◌+◌, Bool, true, false, List, [], ◌∷◌, ◌++◌, length, Option, Some, option_map}
use Rattle.std.specs.Str.Lines.{lines}
use Rattle.fr_text.specs.Script.{parts_of}
use Rattle.fr_cli.specs.Numbered.{numbered_lines, numbered_text}
use Rattle.fr_cli.specs.Output.{IsOutput, IsOutputTo}

-- the script's requests, each with the number of its line in the script: the lines of the cluster file stand before them, and the separator
abbrev pub numbered_in : List ℕ → Option (List (ℕ × List ℕ))
numbered_in script = option_map (λ parts. numbered_lines (length (lines parts.0) + 2) parts.1) (parts_of script)

-- These bytes are the answers of such as are an output without numbers, each behind the number of its line.
pub record IsNumberedTo (script : List ℕ) (left : List (List ℕ)) (written : List ℕ) : Type 0 where
  pub plain : List ℕ
  pub output : IsOutputTo script left plain
  pub asked : List (ℕ × List ℕ)
  pub numbers : numbered_in script ≡ Some asked
  pub bytes : written ≡ numbered_text asked output.answered.answered.answers

-- The bytes answer the script's requests up to those that are left, with numbers or without.
abbrev pub IsWrittenTo : Bool → List ℕ → List (List ℕ) → List ℕ → Type 0
IsWrittenTo true script left written = IsNumberedTo script left written
IsWrittenTo false script left written = IsOutputTo script left written

-- The bytes are the output of the script, with numbers or without.
abbrev pub IsWrittenOf : Bool → List ℕ → List ℕ → Type 0
IsWrittenOf true script written = IsNumberedTo script [] written
IsWrittenOf false script written = IsOutput script written

-- The bytes answer the script's requests up to one for which there was no memory.
abbrev pub LacksMemory : Bool → List ℕ → List ℕ → Type 0
LacksMemory numbered script written = (line : List ℕ) × (left : List (List ℕ)) × IsWrittenTo numbered script (line ∷ left) written

-- The bytes are the front of some requests' answers.
abbrev pub IsCutShort : Bool → List ℕ → List ℕ → Type 0
IsCutShort numbered script written = (left : List (List ℕ)) × (missing : List ℕ) × IsWrittenTo numbered script left (written ++ missing)
