-- The texts of answers.
use Rattle.std.proofs.Common.{◌≡◌, ℕ, List, ◌++◌, refl}
use Rattle.std.specs.Prelude.{codes, decimal}
use Rattle.fr_base.specs.Refusals.{number_of, name_of}
use Rattle.fr_base.specs.declared.channel.Channel.{Channel}
use Rattle.fr_base.specs.declared.refusal.Refusal.{Refusal}
use Rattle.fr_base.specs.declared.refusal.Refusal.TheVariants.{CellTaken, BitTaken}
use Rattle.fr_text.specs.AnswerText.{text_of_refusal}
use Rattle.fr_text.specs.Styles.{quoted}

-- a refusal with no fields
pub text_of_refusal-plain : (refusal : Refusal)
    → ((cycle : ℕ) (channel : Channel) (frame : List ℕ) → refusal ≡ CellTaken cycle channel frame → ⊥)
    → ((bit : ℕ) (signal : List ℕ) → refusal ≡ BitTaken bit signal → ⊥)
    → text_of_refusal refusal ≡ codes "{\"no\":" ++ decimal (number_of refusal) ++ codes ",\"refused\":" ++ quoted (name_of refusal) ++ codes "}"
unfolding text_of_refusal
text_of_refusal-plain (CellTaken cycle channel frame) no_cell no_bit = absurd (no_cell cycle channel frame refl)
text_of_refusal-plain (BitTaken bit signal) no_cell no_bit = absurd (no_bit bit signal refl)
text_of_refusal-plain refusal no_cell no_bit = refl
