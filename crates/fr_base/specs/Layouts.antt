-- Layout: signals that stand together, at most 64, in a payload of at most 127 words, no bit and no name twice, by
-- their starts. What refuses a signal, in order, with the least bit that is taken and whose it is; the signals with it,
-- or without one.
use Rattle.std.specs.Prelude.{◌≢◌, ℕ, ◌*◌, ◌<◌, ◌≤◌, Bool, not, ◌&&◌, List, [], ◌∷◌, length, filter, find, Option, Some, None, is_some, Result, Ok, Err, ⊤, nat_lt, nat_le, if◌then◌else◌, IsTrue, All, AllPairs}
use Rattle.std.specs.List.{list_any, list_all, range_with_len}
use Rattle.std.specs.Option.{option_map, option_and_then}
use Rattle.fr_base.specs.Names.{same_text}
use Rattle.fr_base.specs.Refusing.{◌>>◌, refuse◌when◌}
use Rattle.fr_base.specs.Signals.{SignalData, is_signal_length}
use Rattle.fr_base.specs.Bits.{bits_of, uses}
use Rattle.fr_base.specs.declared.limits.TheConstants.{MAX_PAYLOAD_WORDS, MAX_SIGNALS}
use Rattle.fr_base.specs.declared.refusal.Refusal.{Refusal}
use Rattle.fr_base.specs.declared.refusal.Refusal.TheVariants.{Exists, Limit, NoSignal, OutOfPayload, BitTaken}

-- how many words of two bytes the payload has, and its signals in the order of their starts
pub record LayoutData : Type 0 where
  pub words : ℕ
  pub signals : List SignalData

-- each of the signal's bits lies in a payload of so many words
abbrev pub lies_inside : ℕ → SignalData → Bool
lies_inside words s = list_all (λ p. nat_lt p (16 * words)) (bits_of s)

-- the signals have no bit in common
abbrev pub AreApart : SignalData → SignalData → Type 0
AreApart s t = (p : ℕ) → IsTrue (uses s p) → ¬ IsTrue (uses t p)

-- at most 127 words and 64 signals, of 1 to 64 bits each; the signals lie in the payload and share no bit, none of their names stands
-- twice, and their starts rise
pub record IsLayout (layout : LayoutData) : Type 0 where
  pub words : layout.words ≤ MAX_PAYLOAD_WORDS
  pub count : length layout.signals ≤ MAX_SIGNALS
  pub lengths : All (λ s. IsTrue (is_signal_length s.length)) layout.signals
  pub inside : All (λ s. IsTrue (lies_inside layout.words s)) layout.signals
  pub apart : AllPairs AreApart layout.signals
  pub names : AllPairs (λ s t. s.name ≢ t.name) layout.signals
  pub rising : AllPairs (λ s t. s.start < t.start) layout.signals

-- whether a signal has this name
abbrev pub has_signal : List SignalData → List ℕ → Bool
has_signal signals name = list_any (λ s. same_text s.name name) signals

-- the signal that uses the payload bit p
abbrev pub user_of : List SignalData → ℕ → Option SignalData
user_of signals p = find (λ s. uses s p) signals

-- the payload bit p with the name of the signal that uses it
abbrev pub taken_at : List SignalData → ℕ → Option (ℕ × List ℕ)
taken_at signals p = option_map (λ s. (p, s.name)) (user_of signals p)

-- the least payload bit that the signal shares with one of the layout, with that one's name
unfoldable pub first_taken_bit : LayoutData → SignalData → Option (ℕ × List ℕ)
first_taken_bit layout s =
    option_and_then (taken_at layout.signals)
    (find (λ p. uses s p && is_some (user_of layout.signals p)) (range_with_len 0 (16 * layout.words)))

-- a payload bit that is used refuses a signal
abbrev pub bit_taken : Option (ℕ × List ℕ) → Result ⊤ Refusal
bit_taken None = Ok tt
bit_taken (Some taken) = Err (BitTaken taken.0 taken.1)

-- the list with the signal among the others by its start
abbrev pub with_signal : SignalData → List SignalData → List SignalData
with_signal s [] = s ∷ []
with_signal s (t ∷ signals) = if nat_lt s.start t.start then s ∷ t ∷ signals else t ∷ with_signal s signals

-- the list without the signal of this name
abbrev pub without_signal : List ℕ → List SignalData → List SignalData
without_signal name signals = filter (λ s. not (same_text s.name name)) signals

-- the first refusal of a signal that is to be added to the layout, or none
unfoldable pub admits_signal : LayoutData → SignalData → Result ⊤ Refusal
admits_signal layout s = do
  refuse Exists when has_signal layout.signals s.name
  refuse Limit when nat_le MAX_SIGNALS (length layout.signals)
  refuse OutOfPayload when not (lies_inside layout.words s)
  bit_taken (first_taken_bit layout s)

-- the layout with the signal, or the first refusal
unfoldable pub add_signal : LayoutData → SignalData → Result LayoutData Refusal
add_signal layout s = do
  admits_signal layout s
  Ok (record layout { signals = with_signal s layout.signals })

-- the layout without the signal of this name
unfoldable pub remove_signal : LayoutData → List ℕ → Result LayoutData Refusal
remove_signal layout name = do
  refuse NoSignal when not (has_signal layout.signals name)
  Ok (record layout { signals = without_signal name layout.signals })
