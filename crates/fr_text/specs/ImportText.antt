-- The records of an import's file that are still to be read.
use Rattle.std.specs.Prelude.{◌≡◌, ℕ, suc, ◌+◌, List, [], ◌∷◌, length, Option, Some, None, false, true}
use Rattle.csv.specs.Reading.{Ready, default_config, has_failed, is_flexible, reader_config, reader_state, reader_trim, records_from, source_of}
use Rattle.csv.specs.declared.parser.State.{State}
use Rattle.csv.specs.declared.reader.Reader.{Reader}
use Rattle.csv.specs.declared.reader.Trim.TheVariants as trim

-- the records of the bytes that a reader in this state has left; a reader that failed has none left
unfoldable pub records_left : State → Option (List ℕ) → List (List (List ℕ))
records_left s None = []
records_left s (Some bytes) = records_from default_config (length bytes + 1) s bytes

-- the records that a reader still has to give
abbrev pub left_of : {R : Type 0} → (R → Option (List ℕ)) → Reader R → List (List (List ℕ))
left_of remaining reader = records_left (reader_state reader) (source_of remaining reader)

-- what records are read as by this function of a line and its fields, the first of them at this line
unfoldable pub lines_from : {T : Type 0} → (ℕ → List (List ℕ) → T) → ℕ → List (List (List ℕ)) → List T
lines_from reads line [] = []
lines_from reads line (fields ∷ rest) = reads line fields ∷ lines_from reads (suc line) rest

-- The reader gives each record as it stands, of however many fields, as long as it has not failed.
abbrev pub IsPlain : {R : Type 0} → Reader R → Type 0
IsPlain reader =
    has_failed reader ≡ false → (reader_config reader ≡ default_config) × (reader_trim reader ≡ trim.None) × Ready reader × (is_flexible reader ≡ true)
