-- Worked rows: what the definitions say of a few signals.
use Rattle.std.proofs.Common.{◌≡◌, ℕ, [], ◌∷◌, map, true, false, Ok, Err, refl}
use Rattle.fr_base.specs.Refusing.{◌>>=◌, ◌>>◌, refuse◌when◌}
use Rattle.fr_base.specs.Signals.{SignalData, is_signal_length}
use Rattle.fr_base.specs.Bits.{bits_of, image, value_in}
use Rattle.fr_base.specs.Layouts.{LayoutData, add_signal, admits_signal, remove_signal, first_taken_bit}
use Rattle.fr_base.specs.declared.signal.Order.{Order}
use Rattle.fr_base.specs.declared.signal.Order.TheVariants.{Little, Big}
use Rattle.fr_base.specs.declared.refusal.Refusal.TheVariants.{Exists, NoSignal, OutOfPayload, BitTaken}

abbrev signal : ℕ → Order → ℕ → ℕ → SignalData
signal letter order start size = record { name = letter ∷ []; start = start; length = size; order = order }

abbrev y : SignalData
y = signal 121 Big 3 8

abbrev x : SignalData
x = signal 120 Little 4 8

abbrev both : LayoutData
both = record { words = 1; signals = y ∷ x ∷ [] }

-- both orders packed
row_y : image 1 (y ∷ []) (171 ∷ []) ≡ 0x0A ∷ 0xB0 ∷ []
unfolding image bits_of
row_y = refl

row_x : image 1 (x ∷ []) (171 ∷ []) ≡ 0xB0 ∷ 0x0A ∷ []
unfolding image bits_of
row_x = refl

row_both : image 1 both.signals (171 ∷ 171 ∷ []) ≡ 0xBA ∷ 0xBA ∷ []
unfolding image bits_of
row_both = refl

row_back : map (value_in (0xBA ∷ 0xBA ∷ [])) both.signals ≡ 171 ∷ 171 ∷ []
unfolding value_in bits_of
row_back = refl

-- signals refused
row_added : add_signal (record { words = 1; signals = y ∷ [] }) x ≡ Ok both
unfolding add_signal admits_signal first_taken_bit bits_of ◌>>=◌ ◌>>◌ refuse◌when◌
row_added = refl

row_lengths : map is_signal_length (0 ∷ 1 ∷ 64 ∷ 65 ∷ []) ≡ false ∷ true ∷ true ∷ false ∷ []
row_lengths = refl

row_last : add_signal (record { words = 1; signals = [] }) (signal 122 Little 15 1) ≡ Ok (record { words = 1; signals = signal 122 Little 15 1 ∷ [] })
unfolding add_signal admits_signal first_taken_bit bits_of ◌>>=◌ ◌>>◌ refuse◌when◌
row_last = refl

row_nothing : add_signal (record { words = 0; signals = [] }) (signal 122 Little 0 1) ≡ Err OutOfPayload
unfolding add_signal admits_signal bits_of ◌>>=◌ ◌>>◌ refuse◌when◌
row_nothing = refl

row_big_nothing : add_signal (record { words = 0; signals = [] }) (signal 122 Big 0 1) ≡ Err OutOfPayload
unfolding add_signal admits_signal bits_of ◌>>=◌ ◌>>◌ refuse◌when◌
row_big_nothing = refl

row_end : add_signal (record { words = 1; signals = [] }) (signal 122 Little 15 2) ≡ Err OutOfPayload
unfolding add_signal admits_signal bits_of ◌>>=◌ ◌>>◌ refuse◌when◌
row_end = refl

row_big_end : add_signal (record { words = 1; signals = [] }) (signal 122 Big 8 2) ≡ Err OutOfPayload
unfolding add_signal admits_signal bits_of ◌>>=◌ ◌>>◌ refuse◌when◌
row_big_end = refl

row_taken : add_signal both (signal 122 Little 11 1) ≡ Err (BitTaken 11 x.name)
unfolding add_signal admits_signal first_taken_bit bits_of ◌>>=◌ ◌>>◌ refuse◌when◌
row_taken = refl

row_least : add_signal both (signal 122 Little 0 16) ≡ Err (BitTaken 0 y.name)
unfolding add_signal admits_signal first_taken_bit bits_of ◌>>=◌ ◌>>◌ refuse◌when◌
row_least = refl

row_exists : add_signal both (signal 120 Little 0 1) ≡ Err Exists
unfolding add_signal admits_signal bits_of ◌>>=◌ ◌>>◌ refuse◌when◌
row_exists = refl

row_none : remove_signal both (119 ∷ []) ≡ Err NoSignal
unfolding remove_signal ◌>>=◌ ◌>>◌ refuse◌when◌
row_none = refl
