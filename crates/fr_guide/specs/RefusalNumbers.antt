-- Refusal numbers: the numbers of refusals, as they are written, and their names; which word is meant by one. Each refusal's number
-- means its name.
use Rattle.std.specs.Prelude.{◌≡◌, ℕ, List, [], ◌∷◌, map, codes, decimal, if◌then◌else◌}
use Rattle.std.specs.Borrow.{Bor}
use Rattle.std.specs.Str.{bytes_eq}
use Rattle.fr_base.specs.Refusals.{name_of, number_of}
use Rattle.fr_base.specs.declared.refusal.Refusal.{Refusal}

-- the numbers and names of rows
abbrev pub pairs_of : List (Bor (List ℕ) × Bor (List ℕ)) → List (List ℕ × List ℕ)
pairs_of rows = map (λ row. (row.0.now, row.1.now)) rows

-- all of them; 29 is that of an import's row that is refused
unfoldable pub numbered : List (List ℕ × List ℕ)
numbered =
    (codes "1", codes "BadText")
    ∷ (codes "2", codes "UnknownKey")
    ∷ (codes "3", codes "NotYours")
    ∷ (codes "4", codes "BadName")
    ∷ (codes "5", codes "BadCycles")
    ∷ (codes "6", codes "BadSlot")
    ∷ (codes "7", codes "BadChannel")
    ∷ (codes "8", codes "BadSignal")
    ∷ (codes "9", codes "LabelUsed")
    ∷ (codes "10", codes "NoVariant")
    ∷ (codes "11", codes "Released")
    ∷ (codes "12", codes "NotReleased")
    ∷ (codes "13", codes "TooDeep")
    ∷ (codes "14", codes "NoSupplier")
    ∷ (codes "15", codes "NoNode")
    ∷ (codes "16", codes "NoFrame")
    ∷ (codes "17", codes "NoSignal")
    ∷ (codes "18", codes "NoPlacement")
    ∷ (codes "19", codes "Exists")
    ∷ (codes "20", codes "NodeDiffers")
    ∷ (codes "21", codes "NotGranted")
    ∷ (codes "22", codes "InUse")
    ∷ (codes "23", codes "Limit")
    ∷ (codes "24", codes "Taken")
    ∷ (codes "25", codes "CellTaken")
    ∷ (codes "26", codes "OutOfPayload")
    ∷ (codes "27", codes "BitTaken")
    ∷ (codes "28", codes "Unavailable")
    ∷ (codes "29", codes "BadRow")
    ∷ (codes "30", codes "BadKey")
    ∷ (codes "31", codes "KeyTaken")
    ∷ (codes "32", codes "NoRoom") ∷ []

-- the name that a number has in these rows, or else the word itself
abbrev pub named_in : List (List ℕ × List ℕ) → List ℕ → List ℕ
named_in [] word = word
named_in (row ∷ rows) word = if bytes_eq row.0 word then row.1 else named_in rows word

-- the word that is meant
abbrev pub meant_word : List ℕ → List ℕ
meant_word word = named_in numbered word

-- Each refusal's number means its name.
abbrev pub EachNumberIsNamed : Type 0
EachNumberIsNamed = (refusal : Refusal) → meant_word (decimal (number_of refusal)) ≡ name_of refusal
