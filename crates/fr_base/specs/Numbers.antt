-- Slot: a static slot has a number from 1 to 1023.
use Rattle.std.specs.Prelude.{ℕ, Bool, ◌&&◌, nat_le}

-- static slots are numbered from 1, and there are at most 1023
abbrev pub is_slot : ℕ → Bool
is_slot n = nat_le 1 n && nat_le n 1023
