-- Strip: the payload bits of a signal's runs. The text of a payload: each signal's bits, and its name, start, length
-- and order.
use Rattle.std.specs.Prelude.{ℕ, Bool, not, List, [], ◌∷◌, ◌++◌, codes, decimal, true, if◌then◌else◌, IsPermutation}
use Rattle.std.specs.List.{flat_map, range_with_len}
use Rattle.fr_base.specs.Bits.{bits_of}
use Rattle.fr_base.specs.declared.name.Name.{Name}
use Rattle.fr_base.specs.declared.signal.Order.{Order}
use Rattle.fr_base.specs.declared.signal.Order.TheVariants.{Little, Big}
use Rattle.fr_picture.specs.declared.signals.DrawnSignal.{DrawnSignal}
use Rattle.fr_picture.specs.declared.signals.Run.{Run}
use Rattle.fr_picture.specs.declared.texts.Fixed.TheVariants.{StripStart, StripEnd, NoStrip}
use Rattle.fr_picture.specs.Texts.{together, fixed_text}

-- the payload bits of runs
unfoldable pub bits_in : List Run → List ℕ
bits_in runs = flat_map (λ r. range_with_len r.start r.length) runs

-- The drawn bits of a signal are the signal's bits, each once.
abbrev pub HasItsBits : DrawnSignal → Type 0
HasItsBits s = IsPermutation (bits_in s.runs.items) (bits_of s.signal)

-- ---- its text

-- the middle of the upper or the lower row
abbrev pub row_of : Bool → ℕ
row_of upper = if upper then 3 else 9

unfoldable pub run_text : ℕ → ℕ → ℕ → List ℕ
run_text row start count = together (codes "M" ∷ decimal start ∷ codes "," ∷ decimal row ∷ codes "h" ∷ decimal count ∷ [])

unfoldable pub runs_text : ℕ → List Run → List ℕ
runs_text row runs = flat_map (λ r. run_text row r.start r.length) runs

-- the bits of signals; two that follow one another stand in different rows
unfoldable pub bars_text : Bool → List DrawnSignal → List ℕ
bars_text upper [] = []
bars_text upper (s ∷ signals) = runs_text (row_of upper) s.runs.items ++ bars_text (not upper) signals

-- a signal's name, start, length and order
unfoldable pub signal_text : Name → ℕ → ℕ → Order → List ℕ
signal_text name start count Little = together (codes " " ∷ name ∷ codes ":" ∷ decimal start ∷ codes "+" ∷ decimal count ∷ [])
signal_text name start count Big = together (codes " " ∷ name ∷ codes ":" ∷ decimal start ∷ codes "+" ∷ decimal count ∷ codes "big" ∷ [])

unfoldable pub signals_text : List DrawnSignal → List ℕ
signals_text signals = flat_map (λ s. signal_text s.signal.name s.signal.start s.signal.length s.signal.order) signals

unfoldable pub strip_text : List DrawnSignal → List ℕ
strip_text [] = fixed_text NoStrip
strip_text (s ∷ signals) = fixed_text StripStart ++ bars_text true (s ∷ signals) ++ fixed_text StripEnd ++ signals_text (s ∷ signals)
