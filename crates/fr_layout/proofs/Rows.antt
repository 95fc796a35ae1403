-- Worked rows: what the definitions say of values packed into one word, and unpacked from it.
use Rattle.std.proofs.Common.{◌≡◌, [], ◌∷◌, Ok, Err, refl}
use Rattle.fr_base.specs.Refusing.{◌>>=◌, ◌>>◌, refuse◌when◌}
use Rattle.fr_base.specs.Signals.{SignalData}
use Rattle.fr_base.specs.Bits.{bits_of, image, value_in}
use Rattle.fr_base.specs.Layouts.{LayoutData}
use Rattle.fr_base.specs.declared.signal.Order.TheVariants.{Little, Big}
use Rattle.fr_layout.specs.Packing.{packed, unpacked}
use Rattle.fr_layout.specs.declared.pack_fault.PackFault.TheVariants.{WrongCount, WrongLength, TooLarge}

abbrev y : SignalData
y = record { name = 121 ∷ []; start = 3; length = 8; order = Big }

abbrev x : SignalData
x = record { name = 120 ∷ []; start = 4; length = 8; order = Little }

abbrev both : LayoutData
both = record { words = 1; signals = y ∷ x ∷ [] }

row_packed : packed both (171 ∷ 171 ∷ []) ≡ Ok (0xBA ∷ 0xBA ∷ [])
unfolding packed image bits_of ◌>>=◌ ◌>>◌ refuse◌when◌
row_packed = refl

row_large : packed both (256 ∷ 0 ∷ []) ≡ Err (TooLarge 0)
unfolding packed ◌>>=◌ ◌>>◌ refuse◌when◌
row_large = refl

row_second_large : packed both (255 ∷ 256 ∷ []) ≡ Err (TooLarge 1)
unfolding packed ◌>>=◌ ◌>>◌ refuse◌when◌
row_second_large = refl

row_count : packed both (171 ∷ []) ≡ Err WrongCount
unfolding packed ◌>>=◌ ◌>>◌ refuse◌when◌
row_count = refl

row_unpacked : unpacked both (0xBA ∷ 0xBA ∷ []) ≡ Ok (171 ∷ 171 ∷ [])
unfolding unpacked value_in bits_of ◌>>=◌ ◌>>◌ refuse◌when◌
row_unpacked = refl

row_length : unpacked both (0 ∷ 0 ∷ 0 ∷ []) ≡ Err WrongLength
unfolding unpacked ◌>>=◌ ◌>>◌ refuse◌when◌
row_length = refl
