-- Signal: a named run of 1 to 64 payload bits that holds one unsigned number, in little or big order. How an order is
-- written.
use Rattle.std.specs.Prelude.{ℕ, Bool, ◌&&◌, List, codes, nat_le, Option, Some, None, if◌then◌else◌}
use Rattle.fr_base.specs.Names.{same_text}
use Rattle.fr_base.specs.declared.signal.Order.{Order}
use Rattle.fr_base.specs.declared.signal.Order.TheVariants.{Little, Big}

-- a signal's name, the payload bit at which it starts, its length in bits, and the order of its bits
pub record SignalData : Type 0 where
  pub name : List ℕ
  pub start : ℕ
  pub length : ℕ
  pub order : Order

-- a signal has 1 to 64 bits
abbrev pub is_signal_length : ℕ → Bool
is_signal_length n = nat_le 1 n && nat_le n 64

-- how an order is written
abbrev pub text_of_order : Order → List ℕ
text_of_order Little = codes "little"
text_of_order Big = codes "big"

-- the order of this text
abbrev pub order_of_text : List ℕ → Option Order
order_of_text text =
    if same_text text (codes "little") then Some Little
    else if same_text text (codes "big") then Some Big
    else None
