-- How the code counts a signal's bits: the payload's bits in an order in which those of a signal rise by one.
use Rattle.std.specs.Prelude.{ℕ, ◌+◌, ◌-◌, ◌*◌, ◌/◌, ◌%◌}
use Rattle.fr_base.specs.declared.signal.Order.{Order}
use Rattle.fr_base.specs.declared.signal.Order.TheVariants.{Little, Big}

-- the position with the bits of its byte counted from the other end
abbrev pub mirror : ℕ → ℕ
mirror p = p / 8 * 8 + (7 - p % 8)

-- from the least significant bit on in little order, from the most significant one on in big order
abbrev pub along : Order → ℕ → ℕ
along Little p = p
along Big p = mirror p
