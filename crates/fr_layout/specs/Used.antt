-- Which payload bits two signals share, and which bits of a signal are used by others.
use Rattle.std.specs.Prelude.{ℕ, List, IsTrue}
use Rattle.std.specs.List.{list_any}
use Rattle.fr_base.specs.Bits.{uses}
use Rattle.fr_base.specs.Signals.{SignalData}

-- both signals use the bit
abbrev pub IsShared : SignalData → SignalData → ℕ → Type 0
IsShared s t p = IsTrue (uses s p) × IsTrue (uses t p)

-- the signal uses the bit, and so does one of these
abbrev pub IsTaken : SignalData → List SignalData → ℕ → Type 0
IsTaken s signals p = IsTrue (uses s p) × IsTrue (list_any (λ t. uses t p) signals)
