-- Fates: the line of a trial for a row of a file. It has the row's line; then the number and the
-- name of what refuses the row, or `00` and `done`; and where a cell or bit is taken, what has
-- taken it.
use Rattle.std.specs.Prelude.{ℕ, List, [], ◌∷◌, codes, Option, Some, None}
use Rattle.fr_base.specs.Channels.{text_of_channel}
use Rattle.fr_base.specs.Refusals.{number_of, name_of}
use Rattle.fr_base.specs.declared.answer.FateRow.{FateRow}
use Rattle.fr_base.specs.declared.refusal.Refusal.{Refusal}
use Rattle.fr_base.specs.declared.refusal.Refusal.TheVariants.{CellTaken, BitTaken}
use Rattle.fr_text.specs.Words.{two_digits, four_digits, line}

-- the cycle and channel of a cell and the frame that has taken it; or a bit and the signal that has
-- taken it
abbrev pub taken_words : Refusal → List (List ℕ)
taken_words (CellTaken cycle channel frame) = two_digits cycle ∷ text_of_channel channel ∷ frame ∷ []
taken_words (BitTaken bit signal) = four_digits bit ∷ signal ∷ []
taken_words refusal = []

-- the number and the name of what refuses a row, and what it meets
abbrev pub refusal_words : Refusal → List (List ℕ)
refusal_words refusal = two_digits (number_of refusal) ∷ name_of refusal ∷ taken_words refusal

-- what refuses a row, or the words that it is done
abbrev pub fate_words : Option Refusal → List (List ℕ)
fate_words None = codes "00" ∷ codes "done" ∷ []
fate_words (Some refusal) = refusal_words refusal

-- the line of a row's fate
unfoldable pub fate_line : FateRow → List ℕ
fate_line row = line (four_digits row.line ∷ fate_words row.refusal)
