-- Explain: what is said of a word. All is said of one that is explained; of another that it is not, with the lines of
-- those that begin like it. Without a word each that is explained has its line.
use Rattle.std.specs.Prelude.{◌≡◌, ◌++◌, ℕ, List, [], ◌∷◌, codes, Option, Some, None, Result, Ok, Err}
use Rattle.std.specs.Borrow.{Bor}
use Rattle.std.specs.Global.{Vec}
use Rattle.fr_guide.specs.Explaining.{Explains, ListsAlike, ListsAll}
use Rattle.fr_guide.specs.RefusalNumbers.{meant_word}
use Rattle.fr_cli.specs.declared.failure.Failure.{Failure}
use Rattle.fr_cli.specs.declared.failure.Failure.TheVariants as failure
use Rattle.fr_cli.specs.declared.fault.Fault.TheVariants.{NoMemory}

-- what stands before the lines of words that begin alike, or in place of them
abbrev pub hint : List ℕ → List ℕ
hint [] = codes "`slotplan explain` lists all.\n"
hint (_ ∷ _) = codes "These begin alike:\n"

-- The text says that the word is not explained, and lists those that begin like it.
abbrev pub IsUnknown : List ℕ → List ℕ → Type 0
IsUnknown word text = (alike : List ℕ) × ListsAlike word alike
    × (text ≡ codes "slotplan: no refusal and no fault has this name. " ++ hint alike ++ alike)

-- The word is explained, or the refusal that has this number, and this is its text; or it is not, and refused. Without a word, each that is explained has its line.
abbrev pub IsExplained : Option (Bor (List ℕ)) → Result (Vec ℕ) Failure → Type 0
IsExplained None (Ok text) = ListsAll text.items
IsExplained None (Err (failure.RefusedRows text)) = ⊥
IsExplained None (Err (failure.UnplacedWishes file lines)) = ⊥
IsExplained None (Err (failure.Refused line)) = ⊥
IsExplained None (Err (failure.Fault fault)) = fault ≡ NoMemory
IsExplained (Some word) (Ok text) = Explains (meant_word word.now) (Some text)
IsExplained (Some word) (Err (failure.RefusedRows text)) = ⊥
IsExplained (Some word) (Err (failure.UnplacedWishes file lines)) = ⊥
IsExplained (Some word) (Err (failure.Refused line)) = Explains (meant_word word.now) None × IsUnknown word.now line.items
IsExplained (Some word) (Err (failure.Fault fault)) = fault ≡ NoMemory
