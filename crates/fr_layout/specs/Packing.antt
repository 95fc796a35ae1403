-- Packing: when values fit a layout's signals, and which bytes they make. Which values bytes hold, and when bytes have
-- not the payload's length. Which fault comes first.
use Rattle.std.specs.Prelude.{◌≡◌, ℕ, ◌*◌, ◌^◌, ◌==◌, not, List, length, map, position, Option, Some, None, Result, Ok, Err, ⊤, nat_le}
use Rattle.std.specs.List.{zip}
use Rattle.fr_base.specs.Refusing.{◌>>◌, refuse◌when◌}
use Rattle.fr_base.specs.Signals.{SignalData}
use Rattle.fr_base.specs.Bits.{image, value_in}
use Rattle.fr_base.specs.Layouts.{LayoutData}
use Rattle.fr_layout.specs.declared.pack_fault.PackFault.{PackFault}
use Rattle.fr_layout.specs.declared.pack_fault.PackFault.TheVariants.{WrongCount, WrongLength, TooLarge}

-- the least index of a value that has more bits than its signal
abbrev pub first_too_large : List SignalData → List ℕ → Option ℕ
first_too_large signals values = position (λ p. nat_le (2 ^ p.0.length) p.1) (zip signals values)

abbrev pub too_large : Option ℕ → Result ⊤ PackFault
too_large None = Ok tt
too_large (Some index) = Err (TooLarge index)

-- the payload of the values, or the first fault
unfoldable pub packed : LayoutData → List ℕ → Result (List ℕ) PackFault
packed layout values = do
  refuse WrongCount when (not (length values == length layout.signals))
  too_large (first_too_large layout.signals values)
  Ok (image layout.words layout.signals values)

-- the values in a payload, or the fault
unfoldable pub unpacked : LayoutData → List ℕ → Result (List ℕ) PackFault
unpacked layout bytes = do
  refuse WrongLength when (not (length bytes == 2 * layout.words))
  Ok (map (value_in bytes) layout.signals)

-- the fault of the definition, or want of memory where it has none
abbrev pub FailsAs : {A : Type 0} → PackFault → PackFault → Result A PackFault → Type 0
FailsAs want fault (Ok _) = fault ≡ want
FailsAs want fault (Err first) = fault ≡ first
