-- Bits, image: payload bit `p` is bit `p mod 8` of byte `p div 8`. In little order a value's least significant bit lies
-- at the start and each next one a bit above. In big order the most significant bit lies at the start and each next one
-- a bit below, and after a byte's lowest bit at the highest of the next byte. The image of values has their bits there,
-- and 0 where no signal lies.
use Rattle.std.specs.Prelude.{ℕ, ◌+◌, ◌-◌, ◌*◌, ◌/◌, ◌%◌, ◌==◌, zero, suc, Bool, List, [], ◌∷◌, map, reverse, Option, Some, None, if◌then◌else◌, nat_lt, slice_index}
use Rattle.std.specs.List.{range_with_len, list_any}
use Rattle.std.specs.Option.{option_map, option_map_or}
use Rattle.std.specs.Int.{bit_at}
use Rattle.fr_base.specs.Signals.{SignalData}
use Rattle.fr_base.specs.declared.signal.Order.{Order}
use Rattle.fr_base.specs.declared.signal.Order.TheVariants.{Little, Big}

-- in big order, the position after p: one down within a byte, then the most significant bit of the next byte
abbrev pub after_big : ℕ → ℕ
after_big p = if nat_lt 0 (p % 8) then p - 1 else p + 15

-- in big order, the n positions from p on, the most significant bit first
abbrev pub run_big : ℕ → ℕ → List ℕ
run_big p zero = []
run_big p (suc n) = p ∷ run_big (after_big p) n

-- the positions of a value's bits, from its least significant bit to its most significant one
abbrev pub run_of : Order → ℕ → ℕ → List ℕ
run_of Little start n = range_with_len start n
run_of Big start n = reverse (run_big start n)

unfoldable pub bits_of : SignalData → List ℕ
bits_of s = run_of s.order s.start s.length

-- whether the position is one of the signal's bits
abbrev pub uses : SignalData → ℕ → Bool
uses s p = list_any (λ q. q == p) (bits_of s)

-- payload bit p is bit p mod 8 of byte p div 8
abbrev pub payload_bit : List ℕ → ℕ → ℕ
payload_bit bytes p = bit_at (slice_index bytes (p / 8)) (p % 8)

-- the number with these bits, the least significant bit first
abbrev pub from_bits : List ℕ → ℕ
from_bits [] = 0
from_bits (b ∷ bs) = b + 2 * from_bits bs

-- the value of a signal in a payload
unfoldable pub value_in : List ℕ → SignalData → ℕ
value_in bytes s = from_bits (map (payload_bit bytes) (bits_of s))

-- the i for which entry i of the list is p
abbrev pub entry_of : List ℕ → ℕ → Option ℕ
entry_of [] p = None
entry_of (q ∷ qs) p = if q == p then Some 0 else option_map suc (entry_of qs p)

-- what the signals' values put at position p: bit i of a value where entry i of its signal's bits is p, else 0
abbrev pub image_bit : List SignalData → List ℕ → ℕ → ℕ
image_bit [] values p = 0
image_bit (s ∷ signals) [] p = 0
image_bit (s ∷ signals) (v ∷ values) p =
    option_map_or (bit_at v) (entry_of (bits_of s) p) (image_bit signals values p)

-- byte j of the image
abbrev pub image_byte : List SignalData → List ℕ → ℕ → ℕ
image_byte signals values j = from_bits (map (image_bit signals values) (range_with_len (8 * j) 8))

-- the payload of so many words of two bytes that the signals' values make
unfoldable pub image : ℕ → List SignalData → List ℕ → List ℕ
image words signals values = map (image_byte signals values) (range_with_len 0 (2 * words))
